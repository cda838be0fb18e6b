-- What stands in a field after a cell was put among others.
use Rattle.std.proofs.Common.{◌≡◌, ℕ, inl, inr, false, ◌==◌, List, [], ◌∷◌, Some, refl, sym, arith}
use Rattle.std.specs.Prelude.{nat_lt}
use Rattle.std.proofs.lemmas.Bool.{cases_Bool, eqb-true, eq-eqb, ltb-true}
use Rattle.qe_plain.specs.declared.command.PlainCell.{PlainCell}
use Rattle.qe_plain.specs.Collection.{put_cell, value_in}
use Rattle.qe_plain.specs.Laws.{PutsOne}

there : (new : PlainCell) (cells : List PlainCell) → value_in new.field (put_cell new cells) ≡ Some new.value
there new [] = let own = eq-eqb new.field new.field refl in rw own refl
there new (cell ∷ cells) =
    let own = eq-eqb new.field new.field refl in
    elim (cases_Bool (nat_lt cell.field new.field)) [
      | inl sure ↦ elim (cases_Bool (cell.field == new.field)) [
        | inl same ↦
            let is = eqb-true cell.field new.field same in
            let less = ltb-true cell.field new.field sure in
            absurd (omega arith)
        | inr other ↦ rw (sure, other) (there new cells)
      ]
      | inr failed ↦ elim (cases_Bool (cell.field == new.field)) [
        | inl same ↦ rw (failed, same, own) refl
        | inr other ↦ rw (failed, other, own) refl
      ]
    ]

others : (new : PlainCell) (cells : List PlainCell) (field : ℕ) → (new.field == field) ≡ false → value_in field (put_cell new cells) ≡ value_in field cells
others new [] field other = rw other refl
others new (cell ∷ cells) field other =
    elim (cases_Bool (nat_lt cell.field new.field)) [
      | inl sure ↦ elim (cases_Bool (cell.field == field)) [
        | inl here ↦ rw (sure, here) refl
        | inr further ↦ rw (sure, further) (others new cells field other)
      ]
      | inr failed ↦ elim (cases_Bool (cell.field == new.field)) [
        | inl same ↦
            let is = eqb-true cell.field new.field same in
            let passed : (cell.field == field) ≡ false = rw is other in
            rw (failed, same, other, passed) refl
        | inr differs ↦ rw (failed, differs, other) refl
      ]
    ]

pub puts_one : PutsOne
puts_one new cells = (
  there new cells,
  λ field differs.
      elim (cases_Bool (new.field == field)) [
        | inl same ↦ absurd (differs (sym (eqb-true new.field field same)))
        | inr other ↦ others new cells field other
      ],
)
