-- Sizes of what was sent, as the parts want them.
use Rattle.std.proofs.Common.{◌≤◌, ◌≤ℤ◌, ℕ, ℤ, pos, negsuc, List, [], ◌∷◌, length, nat_abs, Option, None, Some, arith}
use Rattle.std.specs.List.{All, AllByRecursion}
use Rattle.std.proofs.lemmas.List.Elements.{All-from_recursion}
use Rattle.std.proofs.lemmas.Int.{ints}
use Rattle.qe_insert.specs.declared.insert.InsertPayload.{InsertPayload}
use Rattle.qe_parts.specs.declared.edges.EdgeTokens.{EdgeTokens}
use Rattle.qe_insert.specs.Insert.{FewEdges}
use Rattle.qe_esc.specs.Rows.{Rows}
use Rattle.qe_base.specs.declared.maintenance.Count.{Count}
use Rattle.qe_command.specs.declared.cells.SentCell.{SentCell}
use Rattle.qe_command.specs.declared.cells.SentCell.TheVariants as sent
use Rattle.qe_command.specs.declared.filter.SentTerm.{SentTerm}
use Rattle.qe_command.specs.declared.filter.SentTerm.TheVariants as t
use Rattle.qe_command.specs.Items.{own_tokens, edges_or}
use Rattle.qe_command_fits.specs.Sizes.{HasSizes, IsSizedCell, IsSizedTerm}
use Rattle.qe_protocol.specs.Filters.{filter_sets, set_of, behind}
use Rattle.qe_indexing.specs.Cells.{IsStorable, CanStore}
use Rattle.qe_serving.specs.Documents.{HasIdValue}

byte_kind : (kind : ℤ) → pos 0 ≤ℤ kind → kind ≤ℤ pos 255 → nat_abs kind ≤ 255
byte_kind (pos n) least most = omega (arith, ints)
byte_kind (negsuc n) least most = absurd (omega (arith, ints))

some_items : (own : EdgeTokens) (edges : Option (List EdgeTokens)) → FewEdges edges → 1 ≤ length (edges_or own edges)
some_items own None few = omega arith
some_items own (Some edges) few = omega (arith, few.0)

few_items : (own : EdgeTokens) (edges : Option (List EdgeTokens)) → FewEdges edges → length (edges_or own edges) ≤ 255
few_items own None few = omega arith
few_items own (Some edges) few = omega (arith, few.1)

storable : (payload : InsertPayload) → HasSizes payload → IsStorable payload
storable payload sizes = record {
  kind = byte_kind payload.t sizes.kind_least sizes.kind_most;
  some = some_items (own_tokens payload) payload.g sizes.edges;
  few = few_items (own_tokens payload) payload.g sizes.edges;
}

can_store : (cell : SentCell) → IsSizedCell cell → CanStore cell
can_store (sent.Plain value) sized = tt
can_store (sent.Payload payload) sized = storable payload sized

all_can : (cells : List (ℕ × SentCell)) → AllByRecursion (λ cell. IsSizedCell cell.1) cells → AllByRecursion (λ cell. CanStore cell.1) cells
all_can [] sized = tt
all_can (cell ∷ cells) sized = (can_store cell.1 sized.0, all_can cells sized.1)

pub all_storable : (cells : List (ℕ × SentCell)) → AllByRecursion (λ cell. IsSizedCell cell.1) cells → All (λ cell. CanStore cell.1) cells
all_storable cells sized = All-from_recursion (λ (cell : ℕ × SentCell). CanStore cell.1) cells (all_can cells sized)

-- conditions of a filter whose ids are of an id's kinds
set_has_id : (rows : Rows) (term : SentTerm) (counts : List Count) → IsSizedTerm term → HasIdValue (set_of rows term counts)
set_has_id rows (t.Id id) counts sized = sized
set_has_id rows (t.Equal field payload) counts sized = tt
set_has_id rows (t.Range field payload) counts sized = tt

pub sets_have_ids : (rows : Rows) (terms : List SentTerm) (counts : List Count) → AllByRecursion IsSizedTerm terms
    → AllByRecursion HasIdValue (filter_sets rows terms counts)
sets_have_ids rows [] counts sized = tt
sets_have_ids rows (term ∷ terms) counts sized = (set_has_id rows term counts sized.0, sets_have_ids rows terms (behind term counts) sized.1)
