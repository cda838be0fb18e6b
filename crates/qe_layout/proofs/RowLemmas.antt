-- Rows by their places.
use Rattle.std.proofs.Common.{◌≡◌, ℕ, zero, suc, ◌+◌, ◌≤◌, List, [], ◌∷◌, length, drop, refl, ap, sym, ◌∙◌, arith, add-one, if◌then◌else◌, Option, None, Some, Result, Ok, Err}
use Rattle.std.specs.Prelude.{bytes_eq, slice_get}
use Rattle.std.proofs.lemmas.List.{drop_all}
use Rattle.qe_layout.specs.declared.malformed.Kind.{Kind}
use Rattle.std.specs.Prelude.{IsErr}
use Rattle.qe_base.specs.Answers.{Refuses}
use Rattle.qe_layout.specs.declared.malformed.Malformed.{Malformed}
use Rattle.qe_layout.specs.declared.malformed.Malformed.TheVariants.{At, NoMemory}
use Rattle.qe_layout.specs.Refusal.{Refusal, refusal_of, Reads, bind}
use Rattle.qe_layout.specs.Layouts.{Rows, lack, in_slot, place_from}
use Rattle.qe_layout.proofs.Pass.{complete_in}

-- a refusal of the first of two steps is that of both
pub refuses-bind : {A B : Type 0} (fault : Malformed) (due : Result A Refusal) (on : A → Result B Refusal) → Refuses (refusal_of fault) due
    → Refuses (refusal_of fault) (bind due on)
refuses-bind (At path kind) due on is = ap (λ read. bind read on) is
refuses-bind NoMemory due on is = tt

pub stops : {B : Type 0} (result : Result B Malformed) (due : Result B Refusal) (on : B → Result B Refusal) → IsErr result → Reads result due
    → Reads result (bind due on)
stops (Ok answer) due on err reads = absurd (cc)
stops (Err fault) due on err reads = refuses-bind fault due on reads

-- a refusal of the first step is that of more steps
pub first_stops : {B : Type 0} (result : Result B Malformed) (clean : Result (Unit {0}) Refusal) (x : B) (on : Unit {0} → Result B Refusal) → IsErr result
    → Reads result (bind clean (λ _. Ok x)) → Reads result (bind clean on)
first_stops (Ok answer) clean x on err reads = absurd (cc)
first_stops (Err NoMemory) clean x on err reads = tt
first_stops (Err (At path kind)) (Ok _) x on err reads = absurd (cc)
first_stops (Err (At path kind)) (Err refusal) x on err reads = reads

-- the row at a place begins what is left there
pub row-next : (rows : Rows) (i : ℕ) (row : List ℕ × Option Kind) → Some row ≡ slice_get rows i → drop i rows ≡ row ∷ drop (i + 1) rows
row-next [] i row is = absurd (cc)
row-next (r ∷ rows) zero row is = let same : r ≡ row = cc in ap (λ first. first ∷ rows) same
row-next (r ∷ rows) (suc i) row is =
    row-next rows i row is ∙ ap (λ rest. row ∷ rest) (ap (λ n. drop n rows) (add-one i) ∙ ap (λ n. drop n (r ∷ rows)) (sym (add-one (suc i))))

pub place-next : (name : List ℕ) (rows : Rows) (i : ℕ) (row : List ℕ × Option Kind) → Some row ≡ slice_get rows i
    → place_from name i (drop i rows) ≡ (if bytes_eq name row.0 then Some i else place_from name (i + 1) (drop (i + 1) rows))
place-next name rows i row is = ap (place_from name i) (row-next rows i row is)

pub place-end : (name : List ℕ) (rows : Rows) (i : ℕ) → length rows ≤ i → place_from name i (drop i rows) ≡ None
place-end name rows i past = ap (place_from name i) (drop_all i rows past)

-- the slot at a place decides whether its row lacks
complete-first : {A : Type 0} (row : List ℕ × Option Kind) (rows : Rows) (slots : List (Option A)) (i : ℕ)
    → complete_in (row ∷ rows) (drop i slots) ≡ bind (lack row.0 row.1 (in_slot slots i)) (λ _. complete_in rows (drop (i + 1) slots))
complete-first row rows [] zero = refl
complete-first {A} row rows [] (suc i) =
    ap (λ rest. bind (lack {V = A} row.0 row.1 None) (λ _. complete_in {A = A} rows rest)) (sym (drop_all (suc i + 1) [] (omega arith)))
complete-first row rows (s ∷ slots) zero = refl
complete-first row rows (s ∷ slots) (suc i) =
    complete-first row rows slots i
    ∙ ap (λ rest. bind (lack row.0 row.1 (in_slot slots i)) (λ _. complete_in rows rest)) (ap (λ n. drop n slots) (add-one i) ∙ ap (λ n. drop n (s ∷ slots)) (sym (add-one (suc i))))

pub complete-next : {A : Type 0} (rows : Rows) (slots : List (Option A)) (i : ℕ) (row : List ℕ × Option Kind) → Some row ≡ slice_get rows i
    → complete_in (drop i rows) (drop i slots) ≡ bind (lack row.0 row.1 (in_slot slots i)) (λ _. complete_in (drop (i + 1) rows) (drop (i + 1) slots))
complete-next rows slots i row is = ap (λ left. complete_in left (drop i slots)) (row-next rows i row is) ∙ complete-first row (drop (i + 1) rows) slots i

pub complete-end : {A : Type 0} (rows : Rows) (slots : List (Option A)) (i : ℕ) → length rows ≤ i → complete_in (drop i rows) (drop i slots) ≡ Ok tt
complete-end rows slots i past = ap (λ left. complete_in left (drop i slots)) (drop_all i rows past)
