-- What contracts see of a client, and what its calls make of it.
use Rattle.std.specs.Prelude.{◌≡◌, ℕ, ◌+◌, ◌%◌, ◌^◌, List, map, Bool, true, Ok}
use Rattle.qe_document.specs.Spelling.{document_bytes}
use Rattle.qe_plain.specs.declared.command.PlainCommand.{PlainCommand}
use Rattle.qe_command_document.specs.CommandDocument.{Fits, command_at}
use Rattle.qe_command_written.specs.Written.{command_elements}
use Rattle.qe_protocol.specs.Journal.{first_contention}
use Rattle.qe_labels.specs.Under.{Under}
use Rattle.qe_encodes.specs.Callers.{Caller, Contentions}
use Rattle.qe_encodes.specs.Sending.{Sender, command_of, words_used}
use Rattle.qe_encodes.specs.Words.{stored_words, sought_words}
use Rattle.qe_client.specs.declared.sent.Sent.{Sent}

-- what stays of a caller, its next command's number and what it has learned; and the command whose words it draws, with how
-- many it has drawn
pub record Held : Type 0 where
  pub sender : Sender
  pub caller : Caller
  pub begun : ℕ
  pub used : ℕ

-- a new client writes leaf bytes, and takes each field's contention from the schema
abbrev pub new_client : Under → List ℕ → List ℕ → Held
new_client u seed name = record {
  sender = record { under = u; leaves = true; seed = seed; name = name };
  caller = record { number = 0; contentions = map (λ field. first_contention field.kind) u.schema };
  begun = 0;
  used = 0;
}

-- what is sent for a plain command: the document of the sender's command in written order, which is read as the command again,
-- and the words that it indexes and asks for
pub record IsMadeFor (sender : Sender) (caller : Caller) (plain : PlainCommand) (sent : Sent) : Type 0 where
  pub bytes : sent.bytes ≡ document_bytes (command_elements sender.under.schema (command_of sender caller plain))
  pub again : command_at sender.under.schema sent.bytes ≡ Ok (command_of sender caller plain)
  pub fits : Fits sender.under.schema (command_of sender caller plain)
  pub indexed : sent.indexed ≡ stored_words sender.under.schema plain (command_of sender caller plain)
  pub asked : sent.asked ≡ sought_words sender.under.schema plain (command_of sender caller plain)

-- after a command the next one has the next number, modulo 2^64, and the words that follow are the command's
abbrev pub held_next : Held → PlainCommand → Held
held_next held plain = record {
  sender = held.sender;
  caller = record { number = (held.caller.number + 1) % 2 ^ 64; contentions = held.caller.contentions };
  begun = held.caller.number;
  used = words_used held.sender plain;
}

-- a command was made
pub record IsCommanded (held after : Held) (plain : PlainCommand) (sent : Sent) : Type 0 where
  pub made : IsMadeFor held.sender held.caller plain sent
  pub after_is : after ≡ held_next held plain

-- the contentions are others
abbrev pub with_contentions : Held → Contentions → Held
with_contentions held contentions = record held { caller = record held.caller { contentions = contentions } }

-- whether leaf bytes are written is another
abbrev pub with_leaves : Held → Bool → Held
with_leaves held on = record held { sender = record held.sender { leaves = on } }
