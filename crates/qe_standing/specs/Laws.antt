-- What holds of documents that stand for plain ones.
use Rattle.std.specs.Prelude.{◌≡◌, ◌≤◌, ◌<◌, ◌⊎◌, ℕ, List, [], ◌∷◌, ◌++◌, length, Bool, true, Option, None, Some}
use Rattle.std.specs.List.{AllByRecursion, AllZip}
use Rattle.std.specs.FinMap.{get}
use Rattle.qe_base.specs.declared.maintenance.Count.{Count}
use Rattle.qe_tokens.specs.declared.words.Word.{Word}
use Rattle.qe_esc.specs.Rows.{Rows}
use Rattle.qe_field.specs.declared.field.Field.{Field}
use Rattle.qe_field.specs.Lookup.{greatest_of, is_encrypted}
use Rattle.qe_plain.specs.Collection as plainly
use Rattle.qe_plain.specs.declared.command.PlainCell.{PlainCell}
use Rattle.qe_plain.specs.declared.command.PlainCommand.{PlainCommand}
use Rattle.qe_plain.specs.declared.command.PlainDocument.{PlainDocument}
use Rattle.qe_plain.specs.declared.command.PlainReply.{PlainReply}
use Rattle.qe_plain.specs.declared.command.Term.{Term}
use Rattle.qe_schema.specs.Resolved.{IsKeptBy, IsTerm, OfField}
use Rattle.qe_store.specs.declared.stored.Stored.{Stored}
use Rattle.qe_command.specs.declared.cells.SentCell.{SentCell}
use Rattle.qe_command.specs.declared.command.Command.TheVariants as c
use Rattle.qe_command.specs.Nonces.{cells_nonces}
use Rattle.qe_command_fits.specs.OfSchema.{IsCellOf, IsFieldAt}
use Rattle.qe_protocol.specs.declared.journal.JournalEntry.{JournalEntry}
use Rattle.qe_protocol.specs.declared.reply.Outcome.{Outcome}
use Rattle.qe_protocol.specs.declared.reply.Outcome.TheVariants as o
use Rattle.qe_protocol.specs.declared.reply.Reply.{Reply}
use Rattle.qe_protocol.specs.Contention.{filter_below}
use Rattle.qe_protocol.specs.Filters.{AllowedTerms, filter_sets, matches}
use Rattle.qe_protocol.specs.Indexing.{AllowedCells, index_cells}
use Rattle.qe_protocol.specs.Journal.{done, state_of}
use Rattle.qe_protocol.specs.Laws.{AreLong}
use Rattle.qe_protocol.specs.Next.{row_of}
use Rattle.qe_protocol.specs.State.{Index}
use Rattle.qe_labels.specs.Laws.{IsFree}
use Rattle.qe_labels.specs.Numbers.{Numbers}
use Rattle.qe_labels.specs.Under.{Under, root_of}
use Rattle.qe_relation.specs.Stands.{AllLimited, RowsStand}
use Rattle.qe_encodes.specs.Callers.{Contentions, raised_field}
use Rattle.qe_encodes.specs.Decodes.{Decodes, DecodesCell}
use Rattle.qe_encodes.specs.Encoded.{IsEncoded}
use Rattle.qe_encodes.specs.Encodes.{SendsCell}
use Rattle.qe_encodes.specs.Fields.{kind_at}
use Rattle.qe_encodes.specs.Meant.{IsSpelledCell, IsSpelledTerm}
use Rattle.qe_encodes.specs.Payloads.{sent_filter}
use Rattle.qe_encodes.specs.Replies.{Answers}
use Rattle.qe_encodes.specs.Words.{terms_words}
use Rattle.qe_standing.specs.Standing.{StandsDocument}

-- cells are sent for values that are those of their fields, and fit the schema
pub record AreMeant (u : Under) (leaves : Bool) (contentions : Contentions) (cells : List PlainCell) (sents : List (ℕ × SentCell)) : Type 0 where
  pub sends : AllZip (SendsCell u leaves contentions) cells sents
  pub kept : AllByRecursion (λ cell. IsKeptBy cell.value (kind_at u.schema cell.field)) cells
  pub spelled : AllByRecursion (IsSpelledCell u.schema) cells
  pub fits : AllByRecursion (λ one. IsFieldAt u.schema one.0 (IsCellOf one.1)) sents

-- what a client sealed and the server enciphered decodes to the values, whatever stands beside it and whether labels clash or not
abbrev pub SentDecodes : Under → Type 0
SentDecodes u = (leaves : Bool) (contentions : Contentions) (cells : List PlainCell) (sents : List (ℕ × SentCell)) → AreMeant u leaves contentions cells sents
    → (index : Index) (nonces : List (List ℕ)) (counts : List Count) → AreLong nonces → cells_nonces sents ≤ length nonces
    → AllowedCells index sents nonces counts → AllZip (DecodesCell u) (index_cells index sents nonces counts).cells cells

-- each word is one of the run's
abbrev pub AllKnown : Numbers → List Word → Type 0
AllKnown numbers words = AllByRecursion (λ word. (n : ℕ) × (get numbers word ≡ Some n)) words

-- in a run without a clash a filter that asks for all factors in use holds of a stored document exactly where it holds plainly of the
-- document for which it stands
abbrev pub FiltersHold : Under → Type 0
FiltersHold u = (numbers : Numbers) (rows : Rows) (current : List ℕ) (contentions : Contentions) → IsFree (root_of u) numbers
    → RowsStand (root_of u) numbers rows → AllLimited current numbers → (terms : List Term) → AllByRecursion (IsTerm u.schema) terms
    → AllByRecursion IsSpelledTerm terms → filter_below current (sent_filter u contentions terms 0) ≡ None
    → AllKnown numbers (terms_words u.schema terms (sent_filter u contentions terms 0))
    → (counts : List Count) → AllowedTerms rows (sent_filter u contentions terms 0) counts
    → (stored : Stored) (document : PlainDocument) → StandsDocument u numbers stored document
    → matches (filter_sets rows (sent_filter u contentions terms 0) counts) stored ≡ plainly.matches terms document

-- a stored document can be read, and so can some
pub record IsRead (u : Under) (stored : Stored) : Type 0 where
  pub document : PlainDocument
  pub decodes : Decodes u (row_of stored) document

abbrev pub AreRead : Under → List Stored → Type 0
AreRead u docs = AllByRecursion (IsRead u) docs

-- a reply means something
pub record MeansSomething (u : Under) (reply : Reply) : Type 0 where
  pub plain : PlainReply
  pub answers : Answers u reply plain

-- in a journal of encoded commands every stored document can be read, and the last reply means something, whether labels
-- clash or not
pub record RepliesAreRead (u : Under) : Type 0 where
  pub stored : (plains : List PlainCommand) (journal : List JournalEntry) → IsEncoded u plains journal → AreRead u (state_of u.schema journal).docs
  pub last : (plains : List PlainCommand) (journal : List JournalEntry) (entry : JournalEntry) → IsEncoded u plains (journal ++ entry ∷ [])
      → MeansSomething u (done (state_of u.schema journal) entry).reply

-- an encrypted field whose greatest contention is as great as a number
abbrev pub IsUpTo : List Field → ℕ → ℕ → Type 0
IsUpTo fields field number = OfField fields field (λ kind. (is_encrypted kind ≡ true) × (number ≤ greatest_of kind))

abbrev pub IsRaiseUpTo : List Field → Option ℕ → ℕ → Type 0
IsRaiseUpTo fields None number = ⊥
IsRaiseUpTo fields (Some field) number = IsUpTo fields field number

-- what a caller may be told: the contention of the field that it raised, or that a term asked too little of, within the
-- field's greatest
abbrev pub CanLearn : List Field → PlainCommand → Outcome → Type 0
CanLearn fields plain (o.Raised to) = IsRaiseUpTo fields (raised_field plain) to
CanLearn fields plain (o.NotRaised asked now) = IsRaiseUpTo fields (raised_field plain) now
CanLearn fields plain (o.ContentionBelow field got now) = IsUpTo fields field now
CanLearn fields plain _ = Unit {0}

-- what the last command of a journal of encoded commands was answered can be learned
abbrev pub AnswersCanBeLearned : Under → Type 0
AnswersCanBeLearned u = (plains : List PlainCommand) (plain : PlainCommand) (journal : List JournalEntry) (entry : JournalEntry)
    → IsEncoded u (plains ++ plain ∷ []) (journal ++ entry ∷ []) → CanLearn u.schema plain entry.outcome

-- an entry raised a field's contention to a number
pub record IsRaisedBy (entry : JournalEntry) (field to : ℕ) : Type 0 where
  pub command : entry.command ≡ c.Raise field to
  pub outcome : entry.outcome ≡ o.Raised to

-- one of the entries did
abbrev pub HasRaise : List JournalEntry → ℕ → ℕ → Type 0
HasRaise [] field to = ⊥
HasRaise (entry ∷ entries) field to = IsRaisedBy entry field to ⊎ HasRaise entries field to

-- the last command of a journal of encoded commands is never refused since a value's factor were above its field's current
-- contention; and since a term asks for too few factors only where an earlier entry raised the field to the current one
pub record RefusalsHaveTheirCause (u : Under) : Type 0 where
  pub over : (plains : List PlainCommand) (journal : List JournalEntry) (entry : JournalEntry) → IsEncoded u plains (journal ++ entry ∷ [])
      → (field got now : ℕ) → entry.outcome ≡ o.ContentionOver field got now → ⊥
  pub below : (plains : List PlainCommand) (journal : List JournalEntry) (entry : JournalEntry) → IsEncoded u plains (journal ++ entry ∷ [])
      → (field got now : ℕ) → entry.outcome ≡ o.ContentionBelow field got now → HasRaise journal field now × (got < now)
