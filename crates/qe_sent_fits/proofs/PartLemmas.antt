-- The parts of a document that isn't too long aren't either.
use Rattle.std.proofs.Common.{ℕ, suc, ◌≤◌, List, [], ◌∷◌, length, map, arith}
use Rattle.std.specs.List.{AllByRecursion}
use Rattle.std.proofs.lemmas.List.{length-map}
use Rattle.qe_value.specs.declared.value.Plain.{Plain}
use Rattle.qe_value.specs.declared.value.Plain.TheVariants as v
use Rattle.qe_value.specs.Measures.{items_length, value_length}
use Rattle.qe_encode.proofs.SizeLemmas.{value_length-Array, value_length-Doc}
use Rattle.qe_field.specs.declared.field.Field.{Field}
use Rattle.qe_layout.specs.Layouts.{Element}
use Rattle.qe_command.specs.declared.cells.SentCell.{SentCell}
use Rattle.qe_command.specs.declared.filter.SentTerm.{SentTerm}
use Rattle.qe_command_written.specs.Written.{cell_element, cell_elements, cell_value, filter_value, sought_value, term_name, term_value}
use Rattle.qe_held.proofs.LengthLemmas.{items_short, parts_short}

pub document_parts : (elements : List Element) (most : ℕ) → value_length (v.Doc elements) ≤ most → AllByRecursion (λ e. value_length e.1 ≤ most) elements
document_parts elements most short = parts_short elements most (omega (arith, short, value_length-Doc elements))

each_back : {A B : Type 0} (see : A → B) (P : B → Type 0) (xs : List A) → AllByRecursion P (map see xs) → AllByRecursion (λ x. P (see x)) xs
each_back see P [] each = tt
each_back see P (x ∷ xs) each = (each.0, each_back see P xs each.1)

module _ (fields : List Field) where
  pub cells_short : (cells : List (ℕ × SentCell)) (most : ℕ) → AllByRecursion (λ e. value_length e.1 ≤ most) (cell_elements fields cells)
      → AllByRecursion (λ one. value_length (cell_value one.1) ≤ most) cells
  cells_short cells most each = each_back (cell_element fields) (λ (e : Element). value_length e.1 ≤ most) cells each

  terms_apart : (terms : List SentTerm) (most : ℕ) → AllByRecursion (λ one. value_length (term_value fields one) ≤ most) terms
      → AllByRecursion (λ one. value_length (sought_value one) ≤ most) terms
  terms_apart [] most each = tt
  terms_apart (one ∷ terms) most each = ((document_parts ((term_name fields one, sought_value one) ∷ []) most each.0).0, terms_apart terms most each.1)

  pub terms_short : (terms : List SentTerm) (most : ℕ) → value_length (filter_value fields terms) ≤ most
      → AllByRecursion (λ one. value_length (sought_value one) ≤ most) terms
  terms_short terms most short =
      let whole = value_length-Array (map (term_value fields) terms) in
      let items = items_short 0 (map (term_value fields) terms) most (omega (arith, short, whole)) in
      terms_apart terms most (each_back (term_value fields) (λ (w : Plain). value_length w ≤ most) terms items)

  items_many : (k : ℕ) (ws : List Plain) → length ws ≤ items_length k (map value_length ws)
  items_many k [] = omega arith
  items_many k (w ∷ ws) = let rest = items_many (suc k) ws in omega (arith, rest)

  pub terms_few : (terms : List SentTerm) (most : ℕ) → value_length (filter_value fields terms) ≤ most → length terms ≤ most
  terms_few terms most short =
      omega (arith, short, value_length-Array (map (term_value fields) terms), items_many 0 (map (term_value fields) terms), length-map terms (term_value fields))
