-- What playing a line comes to: the entry that is added to the journal, and what is read of its reply.
use Rattle.std.specs.Prelude.{◌≡◌, ◌⊎◌, ℕ, ◌+◌, ◌%◌, ◌^◌, [], ◌∷◌, ◌++◌, Ok, Err}
use Rattle.qe_plain.specs.declared.command.PlainCommand.{PlainCommand}
use Rattle.qe_command_document.specs.CommandDocument.{command_at}
use Rattle.qe_protocol.specs.declared.journal.JournalEntry.{JournalEntry}
use Rattle.qe_protocol.specs.declared.reply.Reply.{Reply}
use Rattle.qe_protocol.specs.Journal.{IsAllowed, done}
use Rattle.qe_encodes.specs.Sending.{IsSent}
use Rattle.qe_encodes.specs.Words.{sought_words, stored_words}
use Rattle.qe_opening.specs.declared.fault.ReadFault.{ReadFault}
use Rattle.qe_opening.specs.Answer.{answer_of}
use Rattle.qe_engine.specs.Engines.{Engined, state_now}
use Rattle.qe_client.specs.Clients.{Held}
use Rattle.qe_client.specs.declared.sent.Sent.{Sent}
use Rattle.qe_line_played.specs.declared.fault.PlayFault.{PlayFault}
use Rattle.qe_line_played.specs.declared.fault.PlayFault.TheVariants as f
use Rattle.qe_line_played.specs.declared.played.Played.{Played}
use Rattle.qe_line_played.specs.declared.played.Replied.{Replied}

module _ (client client_after : Held) (engine engine_after : Engined) (who : ℕ) (plain : PlainCommand) where
  -- one entry is added: the caller's, with the command and the nonces that its client sends, as it stands; it is allowed in the
  -- state that the engine has. The client goes on to the next number, and all else of it and of the engine stays
  pub record IsEntered (entry : JournalEntry) : Type 0 where
    pub added : engine_after.journal ≡ engine.journal ++ entry ∷ []
    pub schema : engine_after.schema ≡ engine.schema
    pub caller : entry.caller ≡ who
    pub allowed : IsAllowed engine.schema (state_now engine) entry
    pub sent : IsSent client.sender client.caller plain entry
    pub sender : client_after.sender ≡ client.sender
    pub next : client_after.caller ≡ record { number = (client.caller.number + 1) % 2 ^ 64; contentions = client.caller.contentions }

  -- what was sent is the entry's command, and its words
  pub record IsSentIn (entry : JournalEntry) (sent : Sent) : Type 0 where
    pub document : command_at client.sender.under.schema sent.bytes ≡ Ok entry.command
    pub indexed : sent.indexed ≡ stored_words client.sender.under.schema plain entry.command
    pub asked : sent.asked ≡ sought_words client.sender.under.schema plain entry.command

  -- what the engine replies, in the state that it has before the entry
  abbrev pub reply_to : JournalEntry → Reply
  reply_to entry = (done (state_now engine) entry).reply

  -- a line was sent, and replied to
  pub record IsReplied (replied : Replied) : Type 0 where
    pub entry : JournalEntry
    pub entered : IsEntered entry
    pub sent : IsSentIn entry replied.sent
    pub reply : replied.reply ≡ reply_to entry

  -- A LINE WAS PLAYED: its answer is what the client reads of the engine's reply
  pub record IsAnswered (played : Played) : Type 0 where
    pub entry : JournalEntry
    pub entered : IsEntered entry
    pub sent : IsSentIn entry played.sent
    pub reply : answer_of client.sender.under (reply_to entry) ≡ Ok played.reply

  -- the reply isn't read, for that reason; the entry stands
  pub record IsUnread (fault : ReadFault) : Type 0 where
    pub entry : JournalEntry
    pub entered : IsEntered entry
    pub reply : answer_of client.sender.under (reply_to entry) ≡ Err fault

  -- no entry was added; the number of the client's command is used or not
  pub record IsNotEntered : Type 0 where
    pub engine_is : engine_after ≡ engine
    pub sender : client_after.sender ≡ client.sender
    pub next : (client_after.caller ≡ client.caller)
        ⊎ (client_after.caller ≡ record { number = (client.caller.number + 1) % 2 ^ 64; contentions = client.caller.contentions })

  -- why a line isn't played: where memory is wanting the entry stands or not
  abbrev pub IsPlayFault : PlayFault → Type 0
  IsPlayFault (f.Read fault) = IsUnread fault
  IsPlayFault f.NoMemory = IsNotEntered ⊎ ((entry : JournalEntry) × IsEntered entry)
