-- What each command leads to, and which counts go with it. The nonces are as many as the command needs.
use Rattle.std.specs.Prelude.{◌≡◌, ℕ, List, [], ◌∷◌, ◌++◌, length, map, filter, Bool, Option, None, Some, if◌then◌else◌}
use Rattle.std.specs.Bool.{MatchBool}
use Rattle.std.specs.List.{list_any}
use Rattle.qe_base.specs.declared.maintenance.Count.{Count}
use Rattle.qe_value.specs.declared.value.Value.{Value}
use Rattle.qe_value.specs.Views.{plain}
use Rattle.qe_store.specs.declared.stored.Stored.{Stored}
use Rattle.qe_store.specs.declared.stored.TermSet.{TermSet}
use Rattle.qe_command.specs.declared.cells.SentCell.{SentCell}
use Rattle.qe_command.specs.declared.command.Command.{Command}
use Rattle.qe_command.specs.declared.command.Command.TheVariants as c
use Rattle.qe_command.specs.declared.filter.SentTerm.{SentTerm}
use Rattle.qe_protocol.specs.declared.reply.Outcome.{Outcome}
use Rattle.qe_protocol.specs.declared.reply.Outcome.TheVariants as o
use Rattle.qe_protocol.specs.declared.reply.Reply.{Reply}
use Rattle.qe_protocol.specs.declared.reply.Reply.TheVariants as r
use Rattle.qe_protocol.specs.declared.row.Row.{Row}
use Rattle.qe_protocol.specs.State.{State, Index, Done, answered}
use Rattle.qe_protocol.specs.Contention.{refusal, raise}
use Rattle.qe_protocol.specs.Indexing.{CellsDone, index_cells, AllowedCells}
use Rattle.qe_protocol.specs.Filters.{filter_sets, filter_rest, matches, AllowedTerms}
use Rattle.qe_protocol.specs.Documents.{document_of, has_document, with_cells, change_first, drop_first}
use Rattle.qe_protocol.specs.Jobs.{begin_job, step_job, AllowedStep, end_job, abandon_job}

abbrev pub with_docs : State → Index → List Stored → State
with_docs state index docs = record { docs = docs; index = index; jobs = state.jobs; current = state.current }

-- the document comes behind all others
abbrev pub inserted : State → Value → CellsDone → Done
inserted state id done = answered (with_docs state done.index (state.docs ++ document_of id done.cells ∷ [])) r.Inserted

-- a document is added, where none has its id
abbrev pub insert_step : State → Value → List (ℕ × SentCell) → List (List ℕ) → List Count → Done
insert_step state id cells nonces counts =
    if has_document id state.docs then answered state r.DuplicateId
    else inserted state id (index_cells state.index cells nonces counts)

-- what documents must have for a filter
abbrev pub sets_for : State → List SentTerm → List Count → List TermSet
sets_for state terms counts = filter_sets state.index.rows terms counts

abbrev pub row_of : Stored → Row
row_of stored = record { id = stored.id; cells = stored.cells }

-- the documents, or their ids
abbrev pub find_reply : Bool → List Stored → Reply
find_reply ids found = if ids then r.Ids (map (λ stored. plain stored.id) found) else r.Found (map row_of found)

-- the documents that match are answered, in the order of insertion
abbrev pub find_step : State → List SentTerm → Bool → List Count → Done
find_step state terms ids counts = answered state (find_reply ids (filter (matches (sets_for state terms counts)) state.docs))

abbrev pub updated : State → List TermSet → CellsDone → Done
updated state sets done = answered (with_docs state done.index (change_first (matches sets) (with_cells done.cells) state.docs)) (r.Updated 1)

-- the first document that matches gets the cells, which are indexed then
abbrev pub update_step : State → List SentTerm → List (ℕ × SentCell) → List (List ℕ) → List Count → Done
update_step state terms cells nonces counts =
    let sets = sets_for state terms counts in
    if list_any (matches sets) state.docs then updated state sets (index_cells state.index cells nonces (filter_rest terms counts))
    else answered state (r.Updated 0)

abbrev pub deleted : State → List TermSet → Done
deleted state sets = answered (with_docs state state.index (drop_first (matches sets) state.docs)) (r.Deleted 1)

-- the first document that matches is taken out; the index stays
abbrev pub delete_step : State → List SentTerm → List Count → Done
delete_step state terms counts =
    let sets = sets_for state terms counts in
    if list_any (matches sets) state.docs then deleted state sets else answered state (r.Deleted 0)

-- what a command leads to that isn't refused before all else
abbrev pub served : State → Command → List (List ℕ) → List Count → Done
served state (c.Insert id cells) nonces counts = insert_step state id cells nonces counts
served state (c.Find terms ids) nonces counts = find_step state terms ids counts
served state (c.Update terms set) nonces counts = update_step state terms set nonces counts
served state (c.Delete terms) nonces counts = delete_step state terms counts
served state (c.Begin kind tokens) nonces counts = begin_job kind tokens state
served state (c.Step job limit) nonces counts = step_job state job nonces counts
served state (c.End job) nonces counts = end_job state job
served state (c.Abandon job) nonces counts = abandon_job state job
served state (c.Raise field contention) nonces counts = raise state field contention

abbrev pub unless_refused : State → Option Reply → Done → Done
unless_refused state None done = done
unless_refused state (Some reply) done = answered state reply

-- the state, the reply and the rows opened; the numbers of all searches are taken from the counts, in order
abbrev pub next : State → Command → List (List ℕ) → List Count → Done
next state command nonces counts = unless_refused state (refusal state.current command) (served state command nonces counts)

-- there is one true count for each search, in order, and none is left over
abbrev pub AllowedFilter : State → List SentTerm → List Count → Type 0
AllowedFilter state terms counts = AllowedTerms state.index.rows terms counts × (filter_rest terms counts ≡ [])

abbrev pub AllowedInsert : State → Value → List (ℕ × SentCell) → List (List ℕ) → List Count → Type 0
AllowedInsert state id cells nonces counts =
    MatchBool (has_document id state.docs) (counts ≡ []) (AllowedCells state.index cells nonces counts)

-- an update searches for its filter first, and then indexes its values, where a document matches
abbrev pub AllowedUpdate : State → List SentTerm → List (ℕ × SentCell) → List (List ℕ) → List Count → Type 0
AllowedUpdate state terms cells nonces counts =
    AllowedTerms state.index.rows terms counts
    × MatchBool (list_any (matches (sets_for state terms counts)) state.docs)
    (AllowedCells state.index cells nonces (filter_rest terms counts)) (filter_rest terms counts ≡ [])

abbrev pub AllowedServed : State → Command → List (List ℕ) → List Count → Type 0
AllowedServed state (c.Insert id cells) nonces counts = AllowedInsert state id cells nonces counts
AllowedServed state (c.Find terms ids) nonces counts = AllowedFilter state terms counts
AllowedServed state (c.Update terms set) nonces counts = AllowedUpdate state terms set nonces counts
AllowedServed state (c.Delete terms) nonces counts = AllowedFilter state terms counts
AllowedServed state (c.Step job limit) nonces counts = AllowedStep state job nonces counts
AllowedServed state command nonces counts = counts ≡ []

abbrev pub AllowedUnless : Option Reply → List Count → Type 0 → Type 0
AllowedUnless None counts Served = Served
AllowedUnless (Some reply) counts Served = counts ≡ []

-- the counts that go with a command
abbrev pub AllowedCounts : State → Command → List (List ℕ) → List Count → Type 0
AllowedCounts state command nonces counts =
    AllowedUnless (refusal state.current command) counts (AllowedServed state command nonces counts)

-- a reply with the number of rows or ids in their place
abbrev pub outcome_of : Reply → Outcome
outcome_of r.Inserted = o.Inserted
outcome_of r.DuplicateId = o.DuplicateId
outcome_of (r.Updated count) = o.Updated count
outcome_of (r.Deleted count) = o.Deleted count
outcome_of (r.Found rows) = o.Found (length rows)
outcome_of (r.Ids ids) = o.Ids (length ids)
outcome_of (r.Begun job) = o.Begun job
outcome_of (r.Stepped left) = o.Stepped left
outcome_of (r.Ended leaves) = o.Ended leaves
outcome_of r.Abandoned = o.Abandoned
outcome_of (r.JobRunning job) = o.JobRunning job
outcome_of (r.NoJob asked running) = o.NoJob asked running
outcome_of (r.TokenMissing field) = o.TokenMissing field
outcome_of (r.TokenMismatch field) = o.TokenMismatch field
outcome_of (r.NotDone left) = o.NotDone left
outcome_of (r.Raised to) = o.Raised to
outcome_of (r.NotRaised asked current) = o.NotRaised asked current
outcome_of (r.ContentionBelow field got current) = o.ContentionBelow field got current
outcome_of (r.ContentionOver field got current) = o.ContentionOver field got current
