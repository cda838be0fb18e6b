-- What holds of replies that are read.
use Rattle.std.specs.Prelude.{◌≡◌, ◌≤◌, ◌↔◌, ℕ, List, [], ◌∷◌, ◌++◌, map, Result, Ok}
use Rattle.std.specs.List.{AllByRecursion, AllZip}
use Rattle.qe_base.specs.Bytes.{AreBytes}
use Rattle.qe_field.specs.declared.field.Field.{Field}
use Rattle.qe_field.specs.Lookup.{greatest_of}
use Rattle.qe_plain.specs.declared.command.PlainCommand.{PlainCommand}
use Rattle.qe_plain.specs.declared.command.PlainReply.{PlainReply}
use Rattle.qe_store.specs.declared.stored.Cell.{Cell}
use Rattle.qe_store.specs.declared.stored.Cell.TheVariants as kept
use Rattle.qe_protocol.specs.declared.journal.JournalEntry.{JournalEntry}
use Rattle.qe_protocol.specs.declared.reply.Outcome.{Outcome}
use Rattle.qe_protocol.specs.declared.reply.Reply.{Reply}
use Rattle.qe_protocol.specs.declared.reply.Reply.TheVariants as r
use Rattle.qe_protocol.specs.declared.row.Row.{Row}
use Rattle.qe_protocol.specs.Journal.{done, state_of}
use Rattle.qe_labels.specs.Under.{Under}
use Rattle.qe_encodes.specs.Callers.{Contentions, contention_of, learned}
use Rattle.qe_encodes.specs.Encoded.{IsEncoded}
use Rattle.qe_encodes.specs.Fields.{kind_at}
use Rattle.qe_encodes.specs.Replies.{Answers}
use Rattle.qe_standing.specs.Laws.{CanLearn}
use Rattle.qe_opening.specs.declared.fault.ReadFault.{ReadFault}
use Rattle.qe_opening.specs.Answer.{answer_of}

-- what is stored of indexed values is bytes
abbrev pub IsOfBytes : Cell → Type 0
IsOfBytes (kept.Plain stored) = Unit {0}
IsOfBytes (kept.Indexed bytes) = AreBytes bytes

abbrev pub IsRowOfBytes : Row → Type 0
IsRowOfBytes row = AllByRecursion (λ cell. IsOfBytes cell.1) row.cells

abbrev pub IsReplyOfBytes : Reply → Type 0
IsReplyOfBytes (r.Found rows) = AllByRecursion IsRowOfBytes rows
IsReplyOfBytes _ = Unit {0}

abbrev pub read_as : PlainReply → Result PlainReply ReadFault
read_as plain = Ok plain

-- what a reply means is read, and what is read is what it means
pub record ReadsWhatIsMeant (u : Under) : Type 0 where
  pub one : (reply : Reply) (plain : PlainReply) → IsReplyOfBytes reply → (answer_of u reply ≡ Ok plain) ↔ Answers u reply plain
  pub all : (replies : List Reply) (plains : List PlainReply) → AllZip (Answers u) replies plains → map (answer_of u) replies ≡ map read_as plains

-- the reply is read
pub record IsRead (u : Under) (reply : Reply) : Type 0 where
  pub plain : PlainReply
  pub is : answer_of u reply ≡ Ok plain

-- the last reply of a journal of encoded commands
abbrev pub JournalsAreRead : Under → Type 0
JournalsAreRead u = (plains : List PlainCommand) (journal : List JournalEntry) (entry : JournalEntry) → IsEncoded u plains (journal ++ entry ∷ [])
    → IsRead u (done (state_of u.schema journal) entry).reply

-- contentions within their fields' greatest ones
abbrev pub AreUpToGreatest : List Field → Contentions → Type 0
AreUpToGreatest fields contentions = (field : ℕ) → contention_of contentions field ≤ greatest_of (kind_at fields field)

-- they stay so by what is learned
abbrev pub LearnsWithin : Type 0
LearnsWithin = (fields : List Field) (contentions : Contentions) (plain : PlainCommand) (outcome : Outcome) → CanLearn fields plain outcome
    → AreUpToGreatest fields contentions → AreUpToGreatest fields (learned contentions plain outcome)
