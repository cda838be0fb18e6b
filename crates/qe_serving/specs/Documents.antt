-- Documents by their numbers.
use Rattle.std.specs.Prelude.{◌≡◌, slice_get, ℕ, List, [], ◌∷◌, ◌++◌, filter, option_to_list, Bool, true, false, Option, None, Some}
use Rattle.std.specs.List.{list_any}
use Rattle.qe_base.specs.declared.maintenance.Count.{Count}
use Rattle.qe_store.specs.declared.stored.Cell.{Cell}
use Rattle.qe_store.specs.declared.stored.Stored.{Stored}
use Rattle.qe_store.specs.declared.stored.TermSet.{TermSet}
use Rattle.qe_store.specs.declared.stored.TermSet.TheVariants as set
use Rattle.qe_store.specs.Kept.{document_at, without, with_new}
use Rattle.qe_command_fits.specs.OfSchema.{IsIdValue}
use Rattle.qe_protocol.specs.Filters.{matches}
use Rattle.qe_command.specs.declared.cells.SentCell.{SentCell}
use Rattle.qe_command.specs.declared.filter.SentTerm.{SentTerm}
use Rattle.qe_protocol.specs.declared.reply.Reply.TheVariants as r
use Rattle.qe_protocol.specs.Documents.{with_cells, change_first, drop_first}
use Rattle.qe_protocol.specs.Next.{with_docs}
use Rattle.qe_indexing.specs.declared.plan.Plan.{Plan}
use Rattle.qe_indexing.specs.Plans.{planned}
use Rattle.qe_indexing.specs.Cells.{CellsPlanned}
use Rattle.qe_indexing.specs.Searches.{TermsMade}
use Rattle.qe_serving.specs.declared.collections.Collections.{Collections}
use Rattle.qe_serving.specs.declared.made.Made.{Made}
use Rattle.qe_serving.specs.Serving.{state_in, docs_in}

-- the documents of these numbers, in the order of the numbers
abbrev pub picked : List (ℕ × Stored) → List ℕ → List Stored
picked documents [] = []
picked documents (number ∷ numbers) = option_to_list (document_at number documents) ++ picked documents numbers

-- they are those that match
abbrev pub AreMatches : List (ℕ × Stored) → List TermSet → List ℕ → Type 0
AreMatches documents sets numbers = picked documents numbers ≡ filter (matches sets) (docs_in documents)

-- the first document that passes a test, by its number
pub record IsFirstOf (test : Stored → Bool) (documents : List (ℕ × Stored)) (number : ℕ) : Type 0 where
  pub document : Stored
  pub there : document_at number documents ≡ Some document
  pub some : list_any test (docs_in documents) ≡ true
  pub dropped : docs_in (without number documents) ≡ drop_first test (docs_in documents)
  pub changed : (change : Stored → Stored) → docs_in (with_new number (change document) documents) ≡ change_first test change (docs_in documents)

abbrev pub FirstOf : (Stored → Bool) → List (ℕ × Stored) → Option ℕ → Type 0
FirstOf test documents None = list_any test (docs_in documents) ≡ false
FirstOf test documents (Some number) = IsFirstOf test documents number

-- the first that matches
abbrev pub FirstMatch : List (ℕ × Stored) → List TermSet → Option ℕ → Type 0
FirstMatch documents sets first = FirstOf (matches sets) documents first

-- a condition on ids is one on an id's kinds of values
abbrev pub HasIdValue : TermSet → Type 0
HasIdValue (set.Id id) = IsIdValue id
HasIdValue (set.Tags tags) = Unit {0}

-- a filter is searched, and these are the numbers of the documents that match, in the order of insertion
pub record IsSearched (kept : Collections) (terms : List SentTerm) (start counts : List Count) (numbers : List ℕ) : Type 0 where
  pub sets : List TermSet
  pub made : TermsMade kept.esc.rows terms start counts sets
  pub matching : AreMatches kept.store.documents sets numbers
  pub first : FirstMatch kept.store.documents sets (slice_get numbers 0)

-- new values of the document of a number are planned, and the document with them
pub record UpdatePlanned (kept : Collections) (number : ℕ) (set : List (ℕ × SentCell)) (nonces : List (List ℕ)) (start plan : Plan) (stored : Stored) : Type 0 where
  pub put : List (ℕ × Cell)
  pub plans : CellsPlanned (state_in kept).index set nonces start plan put
  pub document : Stored
  pub there : document_at number kept.store.documents ≡ Some document
  pub is : stored ≡ with_cells put document

-- they take the place of the document's own, and the index has what was planned
pub record Replaces (old new : Collections) (number : ℕ) (set : List (ℕ × SentCell)) (nonces : List (List ℕ)) (counts : List Count) (made : Made) : Type 0 where
  pub start : Plan
  pub plan : Plan
  pub starts : planned (state_in old).index start ≡ (state_in old).index
  pub behind : start.counts ≡ counts
  pub put : List (ℕ × Cell)
  pub plans : CellsPlanned (state_in old).index set nonces start plan put
  pub document : Stored
  pub there : document_at number old.store.documents ≡ Some document
  pub state : state_in new ≡ with_docs (state_in old) (planned (state_in old).index plan) (docs_in (with_new number (with_cells put document) old.store.documents))
  pub made_is : made ≡ record { reply = r.Updated 1; counts = plan.counts; opened = [] }
