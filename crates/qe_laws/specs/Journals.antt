-- A journal of encoded commands beside the plain collection.
use Rattle.std.specs.Prelude.{◌≡◌, List, [], ◌∷◌, Some}
use Rattle.std.specs.List.{AllZip}
use Rattle.qe_field.specs.declared.field.Field.{Field}
use Rattle.qe_plain.specs.Collection.{plain_replay}
use Rattle.qe_plain.specs.declared.command.PlainCommand.{PlainCommand}
use Rattle.qe_plain.specs.declared.command.PlainDocument.{PlainDocument}
use Rattle.qe_plain.specs.declared.command.PlainReply.{PlainReply}
use Rattle.qe_protocol.specs.declared.journal.JournalEntry.{JournalEntry}
use Rattle.qe_protocol.specs.declared.reply.Reply.{Reply}
use Rattle.qe_protocol.specs.State.{State}
use Rattle.qe_protocol.specs.Journal.{IsAllowed, done, opening, state_of}
use Rattle.qe_labels.specs.Laws.{IsFree}
use Rattle.qe_labels.specs.Numbers.{Numbers, StraysAreZero}
use Rattle.qe_labels.specs.Under.{Under, root_of}
use Rattle.qe_encodes.specs.Callers.{Callers, callers_next, opening_callers}
use Rattle.qe_encodes.specs.Counted.{numbers_of, numbers_with}
use Rattle.qe_encodes.specs.Encoded.{IsEncoded, IsEncodedEntry}
use Rattle.qe_encodes.specs.Fields.{IsUnder}
use Rattle.qe_encodes.specs.Kept.{is_kept, outcomes_of, replies_due, without_maintenance}
use Rattle.qe_encodes.specs.Replies.{Answers}
use Rattle.qe_standing.specs.Stands.{AreWithin, IsDue, Stands}

-- the replies of a journal's entries, each in the state that the entries before it give
abbrev pub replies_from : State → List JournalEntry → List Reply
replies_from state [] = []
replies_from state (entry ∷ entries) = (done state entry).reply ∷ replies_from (done state entry).state entries

unfoldable pub replies_of : List Field → List JournalEntry → List Reply
replies_of fields journal = replies_from (opening fields) journal

-- what a run's words, state and callers are beside a plain collection, after some entries
pub record IsNow (u : Under) (numbers : Numbers) (state : State) (callers : Callers) (documents : List PlainDocument) : Type 0 where
  pub stands : Stands u numbers state documents
  pub strays : StraysAreZero numbers
  pub within : AreWithin u.schema state.current callers

-- all callers after entries: each has learned what the answers to its own commands told it
abbrev pub callers_from : Callers → List PlainCommand → List JournalEntry → Callers
callers_from callers [] entries = callers
callers_from callers (plain ∷ plains) [] = callers
callers_from callers (plain ∷ plains) (entry ∷ entries) = callers_from (callers_next callers entry.caller plain entry.outcome) plains entries

abbrev pub callers_of : List Field → List PlainCommand → List JournalEntry → Callers
callers_of fields plains journal = callers_from (opening_callers fields) plains journal

-- an entry keeps it: the state that it leads to stands for what its plain command leads to, and its reply means the one that
-- is due
pub record EntryKept (u : Under) (numbers : Numbers) (state : State) (callers : Callers) (documents : List PlainDocument) (plain : PlainCommand)
    (entry : JournalEntry) : Type 0 where
  pub later : List PlainDocument
  pub reply : PlainReply
  pub now : IsNow u (numbers_with u state plain entry numbers) (done state entry).state (callers_next callers entry.caller plain entry.outcome) later
  pub answers : Answers u (done state entry).reply reply
  pub due : IsDue (is_kept plain entry.outcome) documents plain entry.outcome later reply

-- .. and so does each that is allowed and sent for a plain command, of whatever kind, as long as no labels clash
abbrev pub KeepsEntries : Under → Type 0
KeepsEntries u = (numbers : Numbers) (state : State) (callers : Callers) (documents : List PlainDocument) (plain : PlainCommand) (entry : JournalEntry)
    → IsNow u numbers state callers documents → IsEncodedEntry u callers plain entry → IsAllowed u.schema state entry
    → IsFree (root_of u) (numbers_with u state plain entry numbers) → EntryKept u numbers state callers documents plain entry

-- THE THEOREM of maintenance beside writers, of a journal without a clash: its state stands for the plain replay of its
-- commands without maintenance and without those that a contention refused, no caller's numbers are above the current
-- contentions, and each reply means the one that is due
pub record IsAnsweredPlainly (u : Under) (plains : List PlainCommand) (journal : List JournalEntry) : Type 0 where
  pub last : List PlainDocument
  pub replies : List PlainReply
  pub plainly : plain_replay (without_maintenance plains (outcomes_of journal)) ≡ Some (last, replies)
  pub now : IsNow u (numbers_of u plains journal) (state_of u.schema journal) (callers_of u.schema plains journal) last
  pub answers : AllZip (Answers u) (replies_of u.schema journal) (replies_due plains (outcomes_of journal))

abbrev pub AnswersPlainly : Type 0
AnswersPlainly = (u : Under) (plains : List PlainCommand) (journal : List JournalEntry) → IsUnder u → IsEncoded u plains journal
    → IsFree (root_of u) (numbers_of u plains journal) → IsAnsweredPlainly u plains journal

-- Uniqueness: in a state that stands for a plain collection, where no labels clash, an encoded entry is the only one of its
-- caller, command and nonces that is allowed: each search has one true count
abbrev pub EntriesAreOnly : Type 0
EntriesAreOnly = (u : Under) → IsUnder u → (numbers : Numbers) (state : State) (callers : Callers) (documents : List PlainDocument)
    (plain : PlainCommand) (entry other : JournalEntry) → IsNow u numbers state callers documents → IsEncodedEntry u callers plain entry
    → IsAllowed u.schema state entry → IsFree (root_of u) (numbers_with u state plain entry numbers) → IsAllowed u.schema state other
    → entry.caller ≡ other.caller → entry.command ≡ other.command → entry.nonces ≡ other.nonces → entry ≡ other
