-- Slots of fields, taken one after another.
use Rattle.std.proofs.Common.{◌≡◌, ℕ, zero, suc, ◌+◌, ◌<◌, List, [], ◌∷◌, ◌++◌, length, map, drop, refl, sym, ap, ◌∙◌, subst, arith, inl, inr, Option, None, Some}
use Rattle.std.specs.Prelude.{slice_get, slice_index, slice_index_or, slice_set}
use Rattle.std.proofs.lemmas.Bool.{cases_lt}
use Rattle.std.proofs.lemmas.List.{drop_more, drop_all, drop-set-lt, get_or-drop, drop-drop, append_assoc, append-nil, length_push, map-append}
use Rattle.std.specs.List.Sorted.{IsStrictlyIncreasing}
use Rattle.qe_store.specs.Cells.{AreRising}
use Rattle.qe_field.specs.declared.field.Field.{Field}
use Rattle.qe_layout.specs.declared.malformed.Kind.{Kind}
use Rattle.qe_layout.specs.Layouts.{in_slot}
use Rattle.qe_command.specs.declared.cells.SentCell.{SentCell}
use Rattle.qe_command_parts.proofs.SlotLemmas.{slot_taken}
use Rattle.qe_command_document.specs.declared.part.CellPart.{CellPart}
use Rattle.qe_command_document.specs.declared.part.CellPart.TheVariants as part
use Rattle.qe_command_document.specs.CellDocuments.{cell_at, cells_from, field_rows, doc_rows}
use Rattle.qe_command_document.specs.Rising.{AreBelow}

-- cells behind others that are below
below-more : (i : ℕ) (cells : List (ℕ × SentCell)) → AreBelow i cells → AreBelow (i + 1) cells
below-more i [] below = tt
below-more i (cell ∷ cells) below = (omega (arith, below.0), below-more i cells below.1)

below-one : (i : ℕ) (cells : List (ℕ × SentCell)) (slot : Option CellPart) → AreBelow i cells → AreBelow (i + 1) (cells ++ cell_at i slot)
below-one i [] None below = tt
below-one i [] (Some (part.Id id)) below = tt
below-one i [] (Some (part.Cell cell)) below = (omega arith, tt)
below-one i (cell ∷ cells) slot below = (omega (arith, below.0), below-one i cells slot below.1)

below-at : (i : ℕ) (cells : List (ℕ × SentCell)) → AreBelow i cells → (k : ℕ) → k < length cells → slice_index (map (λ c. c.0) cells) k < i
below-at i [] below k less = absurd (omega arith)
below-at i (cell ∷ cells) below zero less = below.0
below-at i (cell ∷ cells) below (suc k) less = below-at i cells below.1 k (omega arith)

index-left : (xs : List ℕ) (y k : ℕ) → k < length xs → slice_index (xs ++ y ∷ []) k ≡ slice_index xs k
index-left [] y k less = absurd (omega arith)
index-left (x ∷ xs) y zero less = refl
index-left (x ∷ xs) y (suc k) less = index-left xs y k (omega arith)

index-end : (xs : List ℕ) (y k : ℕ) → k ≡ length xs → slice_index (xs ++ y ∷ []) k ≡ y
index-end [] y k is = rw is refl
index-end (x ∷ xs) y zero is = absurd (omega arith)
index-end (x ∷ xs) y (suc k) is = index-end xs y k (omega arith)

increasing-push : (xs : List ℕ) (y : ℕ) → IsStrictlyIncreasing xs → ((k : ℕ) → k < length xs → slice_index xs k < y) → IsStrictlyIncreasing (xs ++ y ∷ [])
increasing-push xs y rising below k less =
    let long = length_push xs y in
    elim (cases_lt (k + 1) (length xs)) [
      | inl inside ↦
          let one = index-left xs y k (omega (arith, inside)) in
          let two = index-left xs y (k + 1) inside in
          omega (arith, one, two, rising k inside)
      | inr last ↦
          let end : k + 1 ≡ length xs = omega (arith, last, long, less) in
          let one = index-left xs y k (omega (arith, end)) in
          let two = index-end xs y (k + 1) end in
          omega (arith, one, two, below k (omega (arith, end)))
    ]

length-numbers : (cells : List (ℕ × SentCell)) → length (map (λ c. c.0) cells) ≡ length cells
length-numbers [] = refl
length-numbers (cell ∷ cells) = ap suc (length-numbers cells)

pub rising_push : (cells : List (ℕ × SentCell)) (i : ℕ) (cell : SentCell) → AreRising cells → AreBelow i cells → AreRising (cells ++ (i, cell) ∷ [])
rising_push cells i cell rising below =
    subst IsStrictlyIncreasing (sym (map-append (λ (c : ℕ × SentCell). c.0) cells ((i, cell) ∷ [])))
    (increasing-push (map (λ c. c.0) cells) i rising (λ k less. below-at i cells below k (omega (arith, less, length-numbers cells))))

-- so far the cells of the slots before, and the slots behind are as they were
pub record Filling (first i : ℕ) (all now : List (Option CellPart)) (cells : List (ℕ × SentCell)) : Type 0 where
  pub left : drop (first + i) now ≡ drop (first + i) all
  pub so_far : cells ++ cells_from i (drop (first + i) all) ≡ cells_from 0 (drop first all)
  pub below : AreBelow i cells

pub filling_begins : (first : ℕ) (all : List (Option CellPart)) (cells : List (ℕ × SentCell)) → cells ≡ [] → Filling first 0 all all cells
filling_begins first all cells none = record {
  left = refl;
  so_far = ap (λ made. made ++ cells_from 0 (drop (first + 0) all)) none ∙ ap (λ n. cells_from 0 (drop n all)) (omega arith);
  below = subst (AreBelow 0) (sym none) tt;
}

pub filling_goes_on : (first i : ℕ) (all now after : List (Option CellPart)) (cells more : List (ℕ × SentCell)) (slot : Option CellPart)
    → Filling first i all now cells → first + i < length all → slot ≡ in_slot now (first + i) → after ≡ slice_set now (first + i) None
    → more ≡ cells ++ cell_at i slot → Filling first (i + 1) all after more
filling_goes_on first i all now after cells more slot f less slot_is after_is more_is =
    let taken = slot_taken (first + i) all now less f.left in
    let there : slot ≡ slice_index_or all (first + i) None = slot_is ∙ taken.0 in
    let rest = cells_from (i + 1) (drop (first + i + 1) all) in
    let place : first + (i + 1) ≡ first + i + 1 = omega arith in
    let ahead : drop (first + i) all ≡ slot ∷ drop (first + i + 1) all =
    drop_more all (first + i) None less ∙ ap (λ s. s ∷ drop (first + i + 1) all) (sym there) in
    record {
      left = ap (λ n. drop n after) place ∙ ap (drop (first + i + 1)) after_is ∙ taken.1 ∙ ap (λ n. drop n all) (sym place);
      so_far = ap (λ n. more ++ cells_from (i + 1) (drop n all)) place ∙ ap (λ made. made ++ rest) more_is ∙ append_assoc cells (cell_at i slot) rest
          ∙ ap (λ slots. cells ++ cells_from i slots) (sym ahead) ∙ f.so_far;
      below = subst (AreBelow (i + 1)) (sym more_is) (below-one i cells slot f.below);
    }

pub filling_ends : (first i : ℕ) (all now : List (Option CellPart)) (cells : List (ℕ × SentCell)) → Filling first i all now cells → length all ≡ first + i
    → cells ≡ cells_from 0 (drop first all)
filling_ends first i all now cells f long =
    sym (append-nil cells) ∙ ap (λ slots. cells ++ cells_from i slots) (sym (drop_all (first + i) all (omega (arith, long)))) ∙ f.so_far

-- the row of a field
abbrev may_lack : Option Kind
may_lack = None

field_row : (fields : List Field) (i : ℕ) (field : Field) → i < length fields → field ≡ slice_index_or fields i field → Some (field.path, may_lack) ≡ slice_get (field_rows fields) i
field_row [] i field less is = absurd (omega arith)
field_row (first ∷ fields) zero field less is = ap (λ (f : Field). Some (f.path, may_lack)) is
field_row (first ∷ fields) (suc i) field less is = field_row fields i field (omega arith) is

pub doc_row : (fields : List Field) (i place : ℕ) (field : Field) → place ≡ i + 1 → i < length fields → field ≡ slice_index_or fields i field
    → Some (field.path, may_lack) ≡ slice_get (doc_rows fields) place
doc_row fields i zero field at less is = absurd (omega arith)
doc_row fields i (suc place) field at less is =
    let same : place ≡ i = omega arith in
    field_row fields i field less is ∙ ap (slice_get (field_rows fields)) (sym same)
