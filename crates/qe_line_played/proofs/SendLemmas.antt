-- A line that is sent: its command is the client's, and its entry is the engine's.
use Rattle.std.proofs.Common.{◌≡◌, ◌≤◌, ℕ, List, Ok, IsOk, refl, sym, ap, ◌∙◌, subst, arith, inl, inr}
use Rattle.qe_field.specs.declared.field.Field.{Field}
use Rattle.qe_field.specs.Schema.{IsSchema}
use Rattle.qe_plain.specs.declared.command.PlainCommand.{PlainCommand}
use Rattle.qe_command.specs.declared.command.Command.{Command}
use Rattle.qe_command.specs.Nonces.{at_most_64_bits, nonces_of}
use Rattle.qe_command_document.specs.CommandDocument.{Fits, command_at}
use Rattle.qe_command_fits.proofs.FittingLemmas.{fitting_laws}
use Rattle.qe_protocol.specs.declared.reply.Reply.{Reply}
use Rattle.qe_encodes.specs.Sending.{command_of, nonces_at, words_used}
use Rattle.qe_encodes.specs.Words.{sought_words, stored_words}
use Rattle.qe_engine.specs.Engines.{Engined, EntryAdded}
use Rattle.qe_client.specs.Clients.{Held, IsCommanded}
use Rattle.qe_client.specs.declared.sent.Sent.{Sent}
use Rattle.qe_line_played.specs.Played.{IsNotEntered, IsReplied}

-- no command was made
pub not_commanded : (client after : Held) (engine : Engined) (who : ℕ) (plain : PlainCommand) → after ≡ client → IsNotEntered client after engine engine who plain
not_commanded client after engine who plain same = record {
  engine_is = refl;
  sender = ap (λ (held : Held). held.sender) same;
  next = inl (ap (λ (held : Held). held.caller) same);
}

module _ (client began : Held) (engine : Engined) (who : ℕ) (plain : PlainCommand) (sent : Sent) (commanded : IsCommanded client began plain sent) where
  -- a command was made, and no entry
  pub not_entered : (after : Held) (engine_after : Engined) → after ≡ record began { used = after.used } → engine_after ≡ engine
      → IsNotEntered client after engine engine_after who plain
  not_entered after engine_after others same = record {
    engine_is = same;
    sender = ap (λ (held : Held). held.sender) others ∙ ap (λ (held : Held). held.sender) commanded.after_is;
    next = inr (ap (λ (held : Held). held.caller) others ∙ ap (λ (held : Held). held.caller) commanded.after_is);
  }

  -- the command that was read of what was sent
  module _ (fields : List Field) (bytes : List ℕ) (command : Command) (schema : engine.schema ≡ client.sender.under.schema)
      (fields_are : fields ≡ engine.schema) (bytes_are : bytes ≡ sent.bytes) where
    abbrev made : Command
    made = command_of client.sender client.caller plain

    document : command_at fields bytes ≡ Ok made
    document = (λ i. command_at ((fields_are ∙ schema) i) (bytes_are i)) ∙ commanded.made.again

    pub is_read : IsOk (command_at fields bytes)
    is_read = subst IsOk (sym document) refl

    module _ (read : command_at fields bytes ≡ Ok command) where
      command_is : command ≡ made
      command_is = let again = document in cc

      pub fits_here : Fits engine.schema command
      fits_here = subst (λ (x : List Field × Command). Fits x.0 x.1) (λ i. (sym schema i, sym command_is i)) commanded.made.fits

      module _ (count : ℕ) (is : IsSchema fields) (count_is : count ≡ at_most_64_bits (nonces_of command)) where
        pub all_nonces : count ≡ nonces_of command
        all_nonces =
            let few : nonces_of command ≤ 65536 = (fitting_laws engine.schema command (subst IsSchema fields_are is) fits_here).nonces in
            omega (arith, few, count_is)

        -- the entry was added
        module _ (nonces : List (List ℕ)) (reply : Reply) (after : Held) (engine_after : Engined)
            (drawn : nonces ≡ nonces_at began.sender began.begun began.used count) (others : after ≡ record began { used = after.used })
            (added : EntryAdded engine engine_after who command nonces reply) where
          nonces_are : nonces ≡ nonces_at client.sender client.caller.number (words_used client.sender plain) (nonces_of made)
          nonces_are =
              drawn ∙ ap (λ (held : Held). nonces_at held.sender held.begun held.used count) commanded.after_is
              ∙ ap (nonces_at client.sender client.caller.number (words_used client.sender plain)) (all_nonces ∙ ap nonces_of command_is)

          entry_is : added.entry.command ≡ made
          entry_is = added.command_is ∙ command_is

          pub replied : IsReplied client after engine engine_after who plain (record { sent = sent; reply = reply })
          replied = record {
            entry = added.entry;
            entered = record {
              added = added.added;
              schema = added.schema;
              caller = added.caller_is;
              allowed = added.allowed;
              sent = record { command = entry_is; nonces = added.nonces_are ∙ nonces_are };
              sender = ap (λ (held : Held). held.sender) others ∙ ap (λ (held : Held). held.sender) commanded.after_is;
              next = ap (λ (held : Held). held.caller) others ∙ ap (λ (held : Held). held.caller) commanded.after_is;
            };
            sent = record {
              document = commanded.made.again ∙ ap Ok (sym entry_is);
              indexed = commanded.made.indexed ∙ ap (stored_words client.sender.under.schema plain) (sym entry_is);
              asked = commanded.made.asked ∙ ap (sought_words client.sender.under.schema plain) (sym entry_is);
            };
            reply = added.reply_is;
          }
