-- The searches of an entry, in their order: for each the rows as they stand then, the token that is searched for, and the
-- count that the entry tells.
use Rattle.std.specs.Prelude.{ℕ, ◌==◌, List, [], ◌∷◌, ◌++◌, drop, Option, None, Some, if◌then◌else◌}
use Rattle.std.specs.List.{list_any}
use Rattle.qe_base.specs.declared.maintenance.Count.{Count}
use Rattle.qe_base.specs.declared.maintenance.JobKind.{JobKind}
use Rattle.qe_tokens.specs.declared.words.FieldToken.{FieldToken}
use Rattle.qe_esc.specs.Rows.{Rows}
use Rattle.qe_ecoc.specs.declared.rows.Entry.{Entry}
use Rattle.qe_parts.specs.declared.edges.EdgeTokens.{EdgeTokens}
use Rattle.qe_command.specs.declared.cells.SentCell.{SentCell}
use Rattle.qe_command.specs.declared.cells.SentCell.TheVariants as sent
use Rattle.qe_command.specs.declared.command.Command.{Command}
use Rattle.qe_command.specs.declared.command.Command.TheVariants as c
use Rattle.qe_command.specs.declared.filter.SentTerm.{SentTerm}
use Rattle.qe_command.specs.Items.{items_of}
use Rattle.qe_command.specs.Nonces.{cell_nonces}
use Rattle.qe_protocol.specs.declared.journal.JournalEntry.{JournalEntry}
use Rattle.qe_protocol.specs.declared.reply.Reply.{Reply}
use Rattle.qe_protocol.specs.Contention.{refusal}
use Rattle.qe_protocol.specs.Documents.{has_document}
use Rattle.qe_protocol.specs.Filters.{Search, behind, filter_rest, matches, term_searches}
use Rattle.qe_protocol.specs.Indexing.{index_cell, indexed}
use Rattle.qe_protocol.specs.Jobs.{work_of}
use Rattle.qe_protocol.specs.Next.{sets_for}
use Rattle.qe_protocol.specs.State.{Index, Job, State}
use Rattle.qe_protocol.specs.Units.{Work, captured_done, doomed_done, is_mismatch, opened_row, row_done}

pub record Searched : Type 0 where
  pub rows : Rows
  pub token : List ℕ
  pub count : Count

-- of a filter's term, in the same rows
abbrev pub in_rows : Rows → List Search → List Count → List Searched
in_rows rows [] counts = []
in_rows rows (search ∷ searches) [] = []
in_rows rows (search ∷ searches) (count ∷ counts) = record { rows = rows; token = search.token; count = count } ∷ in_rows rows searches counts

abbrev pub by_terms : Rows → List SentTerm → List Count → List Searched
by_terms rows [] counts = []
by_terms rows (term ∷ terms) counts = in_rows rows (term_searches term) counts ++ by_terms rows terms (behind term counts)

-- of a value's items, each in rows among which the earlier items' positions are
abbrev pub by_items : ℕ → Index → List EdgeTokens → List Count → List Searched
by_items field index [] counts = []
by_items field index (item ∷ items) [] = []
by_items field index (item ∷ items) (count ∷ counts) =
    record { rows = index.rows; token = item.s; count = count } ∷ by_items field (indexed field index count item) items counts

abbrev pub by_cell : ℕ → Index → SentCell → List Count → List Searched
by_cell field index (sent.Plain value) counts = []
by_cell field index (sent.Payload payload) counts = by_items field index (items_of payload) counts

abbrev pub by_cells : Index → List (ℕ × SentCell) → List (List ℕ) → List Count → List Searched
by_cells index [] nonces counts = []
by_cells index (cell ∷ cells) nonces counts =
    let done = index_cell cell.0 index cell.1 nonces counts in
    by_cell cell.0 index cell.1 counts ++ by_cells done.index cells (drop (cell_nonces cell.1) nonces) done.rest

-- of a step's units: one for each row that is opened, to the first mismatch
abbrev pub by_unit : (Work → List Count → List Searched) → JobKind → List FieldToken → List ℕ
    → List Entry → List (List ℕ) → List (List ℕ) → Work → List Count → List Searched
by_unit more kind tokens nonce (row ∷ rest) doomed captured work [] = []
by_unit more kind tokens nonce (row ∷ rest) doomed captured work (count ∷ counts) =
    record { rows = work.rows; token = (opened_row tokens row).token; count = count }
    ∷ (if is_mismatch work.rows count then [] else more (row_done kind tokens nonce work row rest count) counts)
by_unit more kind tokens nonce [] (id ∷ rest) captured work counts = more (doomed_done work id rest) counts
by_unit more kind tokens nonce [] [] (id ∷ rest) work counts = more (captured_done work id rest) counts
by_unit more kind tokens nonce [] [] [] work counts = []

abbrev pub by_units : JobKind → List FieldToken → List (List ℕ) → Work → List Count → List Searched
by_units kind tokens [] work counts = []
by_units kind tokens (nonce ∷ nonces) work counts =
    by_unit (by_units kind tokens nonces) kind tokens nonce work.aside work.doomed work.captured work counts

-- .. of the job that is asked for, where it runs
abbrev pub by_job : State → ℕ → List (List ℕ) → List Count → Option Job → List Searched
by_job state asked nonces counts None = []
by_job state asked nonces counts (Some job) =
    if job.number == asked then by_units job.kind job.tokens nonces (work_of state job) counts else []

-- an insert searches where no document has its id, an update for its values where a document matches
abbrev pub by_served : State → Command → List (List ℕ) → List Count → List Searched
by_served state (c.Insert id cells) nonces counts = if has_document id state.docs then [] else by_cells state.index cells nonces counts
by_served state (c.Find terms ids) nonces counts = by_terms state.index.rows terms counts
by_served state (c.Update terms set) nonces counts =
    by_terms state.index.rows terms counts
    ++ (if list_any (matches (sets_for state terms counts)) state.docs then by_cells state.index set nonces (filter_rest terms counts) else [])
by_served state (c.Delete terms) nonces counts = by_terms state.index.rows terms counts
by_served state (c.Step job limit) nonces counts = by_job state job nonces counts state.jobs.job
by_served state command nonces counts = []

-- what is refused before all else searches for nothing
abbrev pub if_served : Option Reply → List Searched → List Searched
if_served None searches = searches
if_served (Some reply) searches = []

abbrev pub searches_by : State → Command → List (List ℕ) → List Count → List Searched
searches_by state command nonces counts = if_served (refusal state.current command) (by_served state command nonces counts)

-- the searches of an entry where it stands
unfoldable pub searches_of : State → JournalEntry → List Searched
searches_of state entry = searches_by state entry.command entry.nonces entry.counts
