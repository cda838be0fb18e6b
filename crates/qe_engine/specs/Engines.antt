-- What contracts see of an engine, and what a call adds to it.
use Rattle.std.specs.Prelude.{◌≡◌, ◌≤◌, ℕ, List, [], ◌∷◌, ◌++◌, length, Bool, false, Option, None, Some}
use Rattle.qe_field.specs.declared.field.Field.{Field}
use Rattle.qe_field.specs.Lookup.{is_encrypted}
use Rattle.qe_command.specs.declared.command.Command.{Command}
use Rattle.qe_protocol.specs.declared.journal.JournalEntry.{JournalEntry}
use Rattle.qe_protocol.specs.declared.reply.Reply.{Reply}
use Rattle.qe_protocol.specs.State.{State}
use Rattle.qe_protocol.specs.Journal.{done, IsAllowed, IsLegal, state_of}
use Rattle.qe_protocol.specs.Laws.{AreTagged}
use Rattle.qe_serving.specs.declared.collections.Collections.{Collections}
use Rattle.qe_serving.specs.Serving.{state_in}

-- the fields that documents may have, and all that took effect, in order
pub record Engined : Type 0 where
  pub schema : List Field
  pub journal : List JournalEntry

-- the state that the journal gives
abbrev pub state_now : Engined → State
state_now engine = state_of engine.schema engine.journal

-- an encrypted field has a contention; a plain one has none, and neither has a field that isn't there
abbrev pub has_contention : Option Field → Bool
has_contention None = false
has_contention (Some field) = is_encrypted field.kind

-- what is kept is that state; each entry was allowed, each document's tags are those of its blocks, and no more documents
-- were inserted than there are entries
pub record StandsByJournal (schema : List Field) (kept : Collections) (journal : List JournalEntry) : Type 0 where
  pub state : state_in kept ≡ state_of schema journal
  pub legal : IsLegal schema journal
  pub tagged : AreTagged (state_of schema journal).docs
  pub made : kept.store.made ≤ length journal

-- one entry is added, with its caller, command and nonces; it is allowed, the reply is the one that the definitions give, and so is
-- the state; the schema stays
pub record EntryAdded (old new : Engined) (caller : ℕ) (command : Command) (nonces : List (List ℕ)) (reply : Reply) : Type 0 where
  pub entry : JournalEntry
  pub added : new.journal ≡ old.journal ++ entry ∷ []
  pub schema : new.schema ≡ old.schema
  pub caller_is : entry.caller ≡ caller
  pub command_is : entry.command ≡ command
  pub nonces_are : entry.nonces ≡ nonces
  pub allowed : IsAllowed old.schema (state_now old) entry
  pub reply_is : reply ≡ (done (state_now old) entry).reply
  pub state : state_now new ≡ (done (state_now old) entry).state
