-- What holds of the relation.
use Rattle.std.specs.Prelude.{◌≡◌, ℕ, List, Some}
use Rattle.std.specs.List.{AllByRecursion}
use Rattle.std.specs.FinMap.{get}
use Rattle.qe_base.specs.declared.maintenance.Count.{Count}
use Rattle.qe_base.specs.declared.maintenance.JobKind.{JobKind}
use Rattle.qe_tokens.specs.Labels.{row_token}
use Rattle.qe_tokens.specs.declared.words.FieldToken.{FieldToken}
use Rattle.qe_tokens.specs.declared.words.Word.{Word}
use Rattle.qe_esc.specs.Rows.{Rows}
use Rattle.qe_ecoc.specs.declared.rows.Entry.{Entry}
use Rattle.qe_parts.specs.declared.edges.EdgeTokens.{EdgeTokens}
use Rattle.qe_protocol.specs.Counting.{IsCounted, counted}
use Rattle.qe_protocol.specs.State.{Index, Job, State}
use Rattle.qe_protocol.specs.Indexing.{index_items, AllowedItems}
use Rattle.qe_protocol.specs.Jobs.{begin_job, step_job, step_units, end_job, abandon_job, AllowedStep}
use Rattle.qe_protocol.specs.Laws.{AreLong, item_tags}
use Rattle.qe_protocol.specs.UnitLaws.{IsOnlyCount}
use Rattle.qe_protocol.specs.Units.{Work, units, AllowedUnits}
use Rattle.qe_labels.specs.Numbers.{Numbers, all_learned, all_raised}
use Rattle.qe_labels.specs.Tags.{AreTagsOf, words_under}
use Rattle.qe_labels.specs.Laws.{IsFree}
use Rattle.qe_relation.specs.Shape.{due_count}
use Rattle.qe_relation.specs.Stands.{RowsStand, IndexStands, StateStands, WorkStands}
use Rattle.qe_relation.specs.Items.{AreItemsOf}
use Rattle.qe_relation.specs.Steps.{IsOpenedKnown, TellsMismatch}

-- a search for a word has one true count, which says how often the word was indexed
pub record CountsWords (root : ℕ → List ℕ) (numbers : Numbers) (rows : Rows) : Type 0 where
  pub only : (word : Word) (n : ℕ) → get numbers word ≡ Some n → IsOnlyCount rows (due_count rows (row_token root word) n)
  pub number : (word : Word) (n : ℕ) → get numbers word ≡ Some n → (count : Count) → IsCounted rows (row_token root word) count → counted rows count ≡ n

abbrev pub CountAllWords : Type 0
CountAllWords = (root : ℕ → List ℕ) (numbers : Numbers) (rows : Rows) → IsFree root numbers → RowsStand root numbers rows → CountsWords root numbers rows

-- the relation stays where words become known, and where a value's items are indexed, which get tags of their words
pub record KeptByIndexing (root : ℕ → List ℕ) : Type 0 where
  pub learning : (words : List Word) (numbers : Numbers) (rows : Rows) (ecoc aside : List Entry) (captured doomed : List (List ℕ)) → IsFree root (all_learned numbers words)
      → IndexStands root numbers rows ecoc aside captured doomed → IndexStands root (all_learned numbers words) rows ecoc aside captured doomed
  pub items : (field factor : ℕ) (xs : List (List ℕ)) (items : List EdgeTokens) (counts : List Count) (nonces : List (List ℕ)) (numbers : Numbers) (index : Index)
      (aside : List Entry) (captured doomed : List (List ℕ)) → AreItemsOf root field factor xs items → AllowedItems field index items counts
      → IsFree root (all_raised numbers (words_under field factor xs)) → IndexStands root numbers index.rows index.ecoc aside captured doomed
      → let after = (index_items field factor index items nonces counts).index in
      IndexStands root (all_raised numbers (words_under field factor xs)) after.rows after.ecoc aside captured doomed
  pub tags : (field factor : ℕ) (xs : List (List ℕ)) (items : List EdgeTokens) (counts : List Count) (numbers : Numbers) (index : Index)
      (aside : List Entry) (captured doomed : List (List ℕ)) → AreItemsOf root field factor xs items → AllowedItems field index items counts
      → IsFree root (all_raised numbers (words_under field factor xs)) → IndexStands root numbers index.rows index.ecoc aside captured doomed
      → AreTagsOf root (all_raised numbers (words_under field factor xs)) (words_under field factor xs) (item_tags field index items counts)

-- the relation stays where a job begins, steps, ends and is abandoned, accepted or refused, whatever tokens were sent with
-- it: each row that a step opens has its field's token, or gives a stray word that is known
pub record KeptByMaintenance (root : ℕ → List ℕ) (numbers : Numbers) (state : State) : Type 0 where
  pub begun : (kind : JobKind) (tokens : List FieldToken) → StateStands root numbers (begin_job kind tokens state).state
  pub stepped : (asked : ℕ) (nonces : List (List ℕ)) (counts : List Count) → AreLong nonces → AllowedStep state asked nonces counts
      → ((job : Job) → state.jobs.job ≡ Some job → job.number ≡ asked → AllByRecursion (IsOpenedKnown root numbers job.tokens) (step_units state job nonces counts).opened)
      → StateStands root numbers (step_job state asked nonces counts).state
  pub ended : (asked : ℕ) → StateStands root numbers (end_job state asked).state
  pub abandoned : (asked : ℕ) → StateStands root numbers (abandon_job state asked).state

abbrev pub MaintenanceKeeps : Type 0
MaintenanceKeeps = (root : ℕ → List ℕ) (numbers : Numbers) (state : State) → IsFree root numbers → StateStands root numbers state → KeptByMaintenance root numbers state

-- a step meets a mismatch exactly at a row that it opens with another token than its field's
abbrev pub MismatchesAtStrays : Type 0
MismatchesAtStrays = (root : ℕ → List ℕ) (numbers : Numbers) (ecoc : List Entry) (kind : JobKind) (tokens : List FieldToken) (nonces : List (List ℕ)) (work : Work) (counts : List Count)
    → IsFree root numbers → AreLong nonces → WorkStands root numbers ecoc work → AllowedUnits kind tokens nonces work counts
    → AllByRecursion (IsOpenedKnown root numbers tokens) (units kind tokens nonces work counts).opened
    → TellsMismatch root tokens (units kind tokens nonces work counts).mismatch (units kind tokens nonces work counts).opened
