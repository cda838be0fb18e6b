-- Cells in rising order, and new ones among them.
use Rattle.std.proofs.Common.{◌≡◌, ℕ, zero, suc, ◌+◌, ◌<◌, ◌≤◌, Bool, true, false, List, [], ◌∷◌, ◌++◌, length, map, drop, refl, sym, ap, subst, ◌∙◌, arith, cond, inl, inr, nat_lt, ◌==◌, append_assoc, None, Some}
use Rattle.std.specs.Prelude.{slice_index, slice_get}
use Rattle.std.specs.List.Sorted.{IsStrictlyIncreasing}
use Rattle.std.proofs.lemmas.Bool.{cases_Bool, cond_both, eqb-true, eq-eqb, ne_eqb, lt-ltb, ltb-true, ltb-false, le-ltb}
use Rattle.qe_store.specs.Cells.{AreRising}
use Rattle.qe_store.specs.declared.stored.Cell.{Cell}
use Rattle.qe_protocol.specs.Documents.{put_cell, put_cells}
use Rattle.qe_indexing.specs.Merge.{Over, Rises, IsNextCell}
use Rattle.qe_indexing.proofs.CellLemmas.{rising_front}

-- RISING BY RECURSION

-- the place behind the next one, of a list with one number before it
next_place : (n : ℕ) (ns : List ℕ) (k : ℕ) → slice_index (n ∷ ns) (suc k + 1) ≡ slice_index ns (k + 1)
next_place n ns k = let same : suc k + 1 ≡ suc (k + 1) = omega arith in ap (slice_index (n ∷ ns)) same

behind_first : (n : ℕ) (ns : List ℕ) → IsStrictlyIncreasing (n ∷ ns) → IsStrictlyIncreasing ns
behind_first n ns increasing k less =
    let step = increasing (suc k) (omega (arith, less)) in subst (λ last. slice_index ns k < last) (next_place n ns k) step

before_first : (n : ℕ) (ns : List ℕ) → IsStrictlyIncreasing ns → (0 < length ns → n < slice_index ns 0) → IsStrictlyIncreasing (n ∷ ns)
before_first n ns increasing first zero less = first (omega (arith, less))
before_first n ns increasing first (suc k) less =
    let step = increasing k (omega (arith, less)) in subst (λ last. slice_index ns k < last) (sym (next_place n ns k)) step

module _ {C : Type 0} where
  over_less : (m n : ℕ) (cells : List (ℕ × C)) → m < n → Over n cells → Over m cells
  over_less m n [] less over = tt
  over_less m n (c ∷ cells) less over = (omega (arith, over.0), over_less m n cells less over.1)

  over_first : (n : ℕ) (cells : List (ℕ × C)) → IsStrictlyIncreasing (n ∷ map (λ c. c.0) cells) → Rises cells → Over n cells
  over_first n [] increasing all = tt
  over_first n (c ∷ cells) increasing all =
      let less : n < c.0 = increasing 0 (omega arith) in (less, over_less n c.0 cells less all.0)

  pub rises : (cells : List (ℕ × C)) → IsStrictlyIncreasing (map (λ c. c.0) cells) → Rises cells
  rises [] increasing = tt
  rises (c ∷ cells) increasing =
      let rest = rises cells (behind_first c.0 (map (λ c. c.0) cells) increasing) in (over_first c.0 cells increasing rest, rest)

pub rising : (cells : List (ℕ × Cell)) → Rises cells → AreRising cells
rising [] all = λ k less. absurd (omega arith)
rising (c ∷ []) all = before_first c.0 [] (λ k less. absurd (omega arith)) (λ less. absurd (omega arith))
rising (c ∷ d ∷ cells) all = before_first c.0 (map (λ c. c.0) (d ∷ cells)) (rising (d ∷ cells) all.1) (λ less. all.0.0)

rises_drop : (place : ℕ) (cells : List (ℕ × Cell)) → Rises cells → Rises (drop place cells)
rises_drop zero cells all = all
rises_drop (suc place) [] all = tt
rises_drop (suc place) (c ∷ cells) all = rises_drop place cells all.1

pub rising_drop : (place : ℕ) (cells : List (ℕ × Cell)) → AreRising cells → AreRising (drop place cells)
rising_drop place cells are = rising (drop place cells) (rises_drop place cells (rises cells are))

-- ONE CELL AND ALL CELLS

over_put : (n : ℕ) (new : ℕ × Cell) (cells : List (ℕ × Cell)) → n < new.0 → Over n cells → Over n (put_cell new cells)
over_put n new [] less over = (less, tt)
over_put n new (c ∷ cells) less over =
    cond_both (nat_lt c.0 new.0) _ _ (Over n) (λ _. (over.0, over_put n new cells less over.1))
    (λ _. cond_both (c.0 == new.0) _ _ (Over n) (λ _. (less, over.1)) (λ _. (less, over)))

rises_put : (new : ℕ × Cell) (cells : List (ℕ × Cell)) → Rises cells → Rises (put_cell new cells)
rises_put new [] rises = (tt, tt)
rises_put new (c ∷ cells) rises =
    cond_both (nat_lt c.0 new.0) _ _ Rises
    (λ below. (over_put c.0 new cells (ltb-true c.0 new.0 below) rises.0, rises_put new cells rises.1))
    (λ above. cond_both (c.0 == new.0) _ _ Rises
    (λ same. (subst (λ n. Over n cells) (eqb-true c.0 new.0 same) rises.0, rises.1))
    (λ other.
    let less : new.0 < c.0 = first_below new.0 c.0 (ltb-false c.0 new.0 above) other in
    ((less, over_less new.0 c.0 cells less rises.0), rises)))
  where
    first_below : (m n : ℕ) → m ≤ n → (n == m) ≡ false → m < n
    first_below m n le other = elim (cases_Bool (n == m)) [
      | inl same ↦ absurd (differ (n == m) same other)
      | inr f ↦ grind (arith, nat_same m n)
    ]
      where
        differ : (b : Bool) → b ≡ true → b ≡ false → ⊥
        differ b t f = cc

        nat_same : (m n : ℕ) → (n == m) ≡ false → (m ≡ n → ⊥)
        nat_same m n f same = differ (n == m) (eq-eqb n m (sym same)) f

pub rises_all : (cells set : List (ℕ × Cell)) → Rises cells → Rises (put_cells cells set)
rises_all cells [] rises = rises
rises_all cells (new ∷ set) rises = rises_all (put_cell new cells) set (rises_put new cells rises)

-- a cell before all new ones stays first
put_first : (c : ℕ × Cell) (cells set : List (ℕ × Cell)) → Over c.0 set → put_cells (c ∷ cells) set ≡ c ∷ put_cells cells set
put_first c cells [] over = refl
put_first c cells (new ∷ set) over =
    ap (λ b. put_cells (cond b (c ∷ put_cell new cells) (cond (c.0 == new.0) (new ∷ cells) (new ∷ (c ∷ cells)))) set) (lt-ltb c.0 new.0 over.0)
    ∙ put_first c (put_cell new cells) set over.1

pub next_old : (c : ℕ × Cell) (cells set : List (ℕ × Cell)) → Over c.0 set → IsNextCell (c ∷ cells) set c 1 0
next_old c cells set over = record { is = put_first c cells set over; some = omega arith; old_there = omega arith; new_there = omega arith }

pub next_both : (c new : ℕ × Cell) (cells set : List (ℕ × Cell)) → c.0 ≡ new.0 → Over new.0 set → IsNextCell (c ∷ cells) (new ∷ set) new 1 1
next_both c new cells set same over = record {
  is =
      ap (λ b. put_cells (cond b (c ∷ put_cell new cells) (cond (c.0 == new.0) (new ∷ cells) (new ∷ (c ∷ cells)))) set) (le-ltb c.0 new.0 (omega arith))
      ∙ ap (λ b. put_cells (cond b (new ∷ cells) (new ∷ (c ∷ cells))) set) (eq-eqb c.0 new.0 same)
      ∙ put_first new cells set over;
  some = omega arith;
  old_there = omega arith;
  new_there = omega arith;
}

pub next_new : (new : ℕ × Cell) (cells set : List (ℕ × Cell)) → Over new.0 cells → Over new.0 set → IsNextCell cells (new ∷ set) new 0 1
next_new new cells set below over = record {
  is = ap (λ all. put_cells all set) (put_new cells below) ∙ put_first new cells set over;
  some = omega arith;
  old_there = omega arith;
  new_there = omega arith;
}
  where
    put_new : (cells : List (ℕ × Cell)) → Over new.0 cells → put_cell new cells ≡ new ∷ cells
    put_new [] below = refl
    put_new (c ∷ cells) below =
        ap (λ b. cond b (c ∷ put_cell new cells) (cond (c.0 == new.0) (new ∷ cells) (new ∷ (c ∷ cells)))) (le-ltb c.0 new.0 (omega (arith, below.0)))
        ∙ ap (λ b. cond b (new ∷ cells) (new ∷ (c ∷ cells))) (ne_eqb c.0 new.0 (λ same. omega (arith, below.0)))

-- which of two comes first, by their numbers
pub first_old : (old new : ℕ × Cell) (olds news : List (ℕ × Cell)) → old.0 < new.0 → Rises (old ∷ olds) → Rises (new ∷ news) → IsNextCell (old ∷ olds) (new ∷ news) old 1 0
first_old old new olds news less a b = next_old old olds (new ∷ news) (less, over_less old.0 new.0 news less b.0)

pub first_both : (old new : ℕ × Cell) (olds news : List (ℕ × Cell)) → old.0 ≡ new.0 → Rises (old ∷ olds) → Rises (new ∷ news) → IsNextCell (old ∷ olds) (new ∷ news) new 1 1
first_both old new olds news same a b = next_both old new olds news same b.0

pub first_new : (old new : ℕ × Cell) (olds news : List (ℕ × Cell)) → new.0 < old.0 → Rises (old ∷ olds) → Rises (new ∷ news) → IsNextCell (old ∷ olds) (new ∷ news) new 0 1
first_new old new olds news less a b = next_new new (old ∷ olds) news (less, over_less new.0 old.0 olds less a.0) b.0

pub head_of : (cells : List (ℕ × Cell)) (cell : ℕ × Cell) → Some cell ≡ slice_get cells 0 → cells ≡ cell ∷ drop 1 cells
head_of [] cell is = absurd (no is)
  where
    no : Some cell ≡ None → ⊥
    no e = cc
head_of (c ∷ cells) cell is = ap (λ first. first ∷ cells) (same is)
  where
    same : Some cell ≡ Some c → c ≡ cell
    same e = cc

pub no_head : (cells : List (ℕ × Cell)) → None ≡ slice_get cells 0 → cells ≡ []
no_head [] is = refl
no_head (c ∷ cells) is = absurd (no is)
  where
    no : None ≡ Some c → ⊥
    no e = cc

-- the cells so far, and the next one
pub rising_so_far : (cells set all : List (ℕ × Cell)) (cell : ℕ × Cell) (rest : List (ℕ × Cell)) → AreRising cells
    → put_cells cells set ≡ all ++ (cell ∷ rest) → AreRising (all ++ cell ∷ [])
rising_so_far cells set all cell rest are is =
    rising_front (all ++ cell ∷ []) rest
    (subst AreRising (is ∙ sym (append_assoc all (cell ∷ []) rest)) (rising (put_cells cells set) (rises_all cells set (rises cells are))))
