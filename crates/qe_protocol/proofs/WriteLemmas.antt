-- What a unit on a row writes.
use Rattle.std.proofs.Common.{◌≡◌, ℕ, zero, suc, ◌+◌, ◌%◌, ◌^◌, ◌≤◌, List, [], ◌∷◌, ◌++◌, length, true, false, ◌||◌, None, Some, refl, sym, ap, ◌∙◌, subst, arith, inl, inr}
use Rattle.std.specs.Prelude.{bytes_eq}
use Rattle.std.specs.List.{list_any}
use Rattle.std.proofs.lemmas.Bool.{cond_both, cases_lt, or_left, or_right}
use Rattle.std.proofs.lemmas.List.{length-append}
use Rattle.std.proofs.lemmas.List.Folds.{list_any-append}
use Rattle.std.proofs.lemmas.Slice.Eq.{bytes_eq-Decides}
use Rattle.qe_base.specs.declared.maintenance.Count.{Count}
use Rattle.qe_base.specs.declared.maintenance.JobKind.{JobKind}
use Rattle.qe_base.specs.declared.maintenance.JobKind.TheVariants.{Compact, Cleanup}
use Rattle.qe_tokens.specs.declared.words.FieldToken.{FieldToken}
use Rattle.qe_ecoc.specs.declared.rows.Entry.{Entry}
use Rattle.qe_esc.specs.Identifiers.{id_of}
use Rattle.qe_esc.specs.Pairs.{null_pair}
use Rattle.qe_esc.specs.declared.key.RowKind.TheVariants.{Anchor}
use Rattle.qe_protocol.specs.Units.{Work, UnitsDone, units, unit_then, stopped, with_opened, is_mismatch, row_done, anchors_after}
use Rattle.qe_protocol.specs.UnitLaws.{AreAnchors, HandlesRow, UnitsWrite}

-- the anchors behind a number
module _ (token : List ℕ) (from : ℕ) where
  abbrev Anchored : ℕ → List ℕ
  Anchored i = id_of Anchor token ((from + i) % 2 ^ 64)

  many : (hop : ℕ) → length (anchors_after token from hop) ≡ hop
  many zero = refl
  many (suc more) =
      let before : length (anchors_after token from more) ≡ more = many more in
      length-append (anchors_after token from more) (Anchored (suc more) ∷ []) ∙ (omega (arith, before))

  each : (hop i : ℕ) → 1 ≤ i → i ≤ hop → list_any (bytes_eq (Anchored i)) (anchors_after token from hop) ≡ true
  each zero i least most = absurd (omega (arith, least, most))
  each (suc more) i least most =
      let test = bytes_eq (Anchored i) in
      let front = anchors_after token from more in
      let last = Anchored (suc more) ∷ [] in
      let parted : list_any test (front ++ last) ≡ (list_any test front || list_any test last) = list_any-append test front last in
      elim (cases_lt more i) [
        | inr below ↦ parted ∙ or_left (list_any test front) (list_any test last) (each more i least below)
        | inl above ↦
            let is : i ≡ suc more = omega (arith, above, most) in
            let same : Anchored i ≡ Anchored (suc more) = ap Anchored is in
            let here : bytes_eq (Anchored i) (Anchored (suc more)) ≡ true = (bytes_eq-Decides (Anchored i) (Anchored (suc more))).1 same in
            parted ∙ or_right (list_any test front) (list_any test last) (or_left (test (Anchored (suc more))) false here)
      ]

  are_anchors : (hop : ℕ) → AreAnchors token from hop (anchors_after token from hop)
  are_anchors hop = record { many = many hop; each = each hop }

row_handled : (kind : JobKind) (tokens : List FieldToken) (work : Work) (row : Entry) (rest : List Entry) (count : Count) (nonce : List ℕ)
    → HandlesRow kind tokens work row count nonce (row_done kind tokens nonce work row rest count)
row_handled Compact tokens work row rest count nonce = record { writes = (refl, refl); leaves = refl }
row_handled Cleanup tokens work row rest count nonce =
    let from = (null_pair work.rows count.token).0 in
    record { writes = (refl, (anchors_after count.token from count.hop, (refl, are_anchors count.token from count.hop))); leaves = refl }

-- a unit, by the rows aside
module _ (kind : JobKind) (tokens : List FieldToken) (nonce : List ℕ) (work : Work) (row : Entry) (rest : List Entry) (count : Count) where
  abbrev Unit_of : List Entry → UnitsDone
  Unit_of rows = unit_then (units kind tokens []) kind tokens nonce rows work.doomed work.captured work (count ∷ [])

  abbrev Writes : UnitsDone → Type 0
  Writes done = done.mismatch ≡ None → HandlesRow kind tokens work row count nonce done.work

  writes_first : Writes (Unit_of (row ∷ rest))
  writes_first =
      cond_both (is_mismatch work.rows count) (stopped work (Some row.field) (row ∷ []) [])
      (with_opened row (stopped (row_done kind tokens nonce work row rest count) None [] [])) Writes
      (λ _ (other : Some row.field ≡ None). absurd (cc)) (λ _ _. row_handled kind tokens work row rest count nonce)

pub units_write : UnitsWrite
units_write kind tokens nonce work row rest count is =
    subst (λ rows. Writes kind tokens nonce work row rest count (Unit_of kind tokens nonce work row rest count rows)) (sym is)
    (writes_first kind tokens nonce work row rest count)
