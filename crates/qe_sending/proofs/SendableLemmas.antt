-- What was resolved under a schema, and fits, can be sent.
use Rattle.std.proofs.Common.{◌≡◌, ◌<◌, ◌≤◌, ◌+◌, ◌^◌, ◌==◌, ◌||◌, ℕ, zero, suc, Bool, true, false, cond, List, [], ◌∷◌, length, map, get_or, Option, None, Some, refl, sym, ap, subst, inl, inr, arith}
use Rattle.std.specs.Prelude.{All, slice_get, slice_index, ◌&&◌, nat_le, is_none}
use Rattle.std.specs.List.Sorted.{IsStrictlyIncreasing}
use Rattle.std.specs.Option.{option_or}
use Rattle.std.proofs.lemmas.Bool.{cases_lt, eqb-true, leb-true}
use Rattle.std.proofs.lemmas.List.{length-map, get_or-map}
use Rattle.std.proofs.lemmas.Option.{slice_get_cases}
use Rattle.qe_value.specs.declared.value.Plain.{Plain}
use Rattle.qe_value.specs.declared.value.Plain.TheVariants as v
use Rattle.qe_value.specs.Measures.{items_length}
use Rattle.qe_field.specs.declared.field.Field.{Field}
use Rattle.qe_field.specs.declared.field.FieldKind.{FieldKind}
use Rattle.qe_field.specs.declared.field.FieldKind.TheVariants as k
use Rattle.qe_field.specs.Lookup.{greatest_of}
use Rattle.qe_field.specs.Schema.{IsKind, IsSchema, is_number_kind, is_value_kind}
use Rattle.qe_plain.specs.declared.command.Pair.{Pair}
use Rattle.qe_plain.specs.declared.command.PlainCell.{PlainCell}
use Rattle.qe_plain.specs.declared.command.PlainCommand.{PlainCommand}
use Rattle.qe_plain.specs.declared.command.PlainCommand.TheVariants as c
use Rattle.qe_plain.specs.declared.command.Term.{Term}
use Rattle.qe_plain.specs.declared.command.Term.TheVariants as t
use Rattle.qe_value.specs.Limits.{most_bytes}
use Rattle.qe_fits.specs.declared.part.Part.{Part}
use Rattle.qe_fits.specs.Fits.{fits, job_fits, bad_value, long_part}
use Rattle.qe_fits.specs.Sizes.{counted_length, term_size}
use Rattle.qe_schema.specs.Resolved.{AreCells, ArePairs, IsCell, IsEqualityOf, IsEncrypted, IsKeptBy, IsResolved, IsTerm}
use Rattle.qe_encodes.specs.Fields.{kind_at, kind_or_plain}
use Rattle.qe_encodes.specs.Words.{plain_terms}
use Rattle.qe_encodes.proofs.FieldLemmas.{allowed_at}
use Rattle.qe_encodes.specs.Callers.{Contentions}
use Rattle.qe_sending.specs.Sendable.{AreLimited, AreWithin, CanSend, CanSendCell, CanSendCells, CanSendPairs, CanSendTerm, CanSendTerms, IsLeaf, IsLeafIn}

-- numbers are values
number_is_value : (kind : ℕ) → is_number_kind kind ≡ true → is_value_kind kind ≡ true
number_is_value kind is = by_test (kind == 0x10) refl is
  where
    by_test : (b : Bool) → (kind == 0x10) ≡ b → (b || (kind == 0x12)) ≡ true → is_value_kind kind ≡ true
    by_test true same is = subst (λ (n : ℕ). is_value_kind n ≡ true) (sym (eqb-true kind 0x10 same)) refl
    by_test false other is = subst (λ (n : ℕ). is_value_kind n ≡ true) (sym (eqb-true kind 0x12 is)) refl

leaf_in : (kind : FieldKind) (value : Plain) → IsKind kind → IsKeptBy value kind → IsLeafIn kind value
leaf_in k.Plain value is kept = tt
leaf_in (k.Equality id kind contention greatest) value is kept = subst (λ (n : ℕ). is_value_kind n ≡ true) (sym kept) is.0
leaf_in (k.Range id kind contention greatest domain) value is kept = subst (λ (n : ℕ). is_value_kind n ≡ true) (sym kept.0) (number_is_value kind is.0)

leaf_sought : (kind : FieldKind) (value : Plain) → IsKind kind → IsEqualityOf value kind → IsLeaf value
leaf_sought k.Plain value is of = absurd of
leaf_sought (k.Equality id kind contention greatest) value is of = subst (λ (n : ℕ). is_value_kind n ≡ true) (sym of) is.0
leaf_sought (k.Range id kind contention greatest domain) value is of = absurd of

-- rising numbers below a bound are at most as many
at_least : (xs : List ℕ) → IsStrictlyIncreasing xs → (n : ℕ) → n < length xs → n ≤ slice_index xs n
at_least xs rising zero less = omega arith
at_least xs rising (suc n) less =
    let before = at_least xs rising n (omega (arith, less)) in
    let step = rising n (omega (arith, less)) in
    let place : n + 1 ≡ suc n = omega arith in
    let same : slice_index xs (n + 1) ≡ slice_index xs (suc n) = ap (slice_index xs) place in
    omega (arith, before, step, same)

rising_few : (xs : List ℕ) (most : ℕ) → IsStrictlyIncreasing xs → ((n : ℕ) → n < length xs → slice_index xs n < most) → length xs ≤ most
rising_few xs most rising below =
    elim (cases_lt most (length xs)) [
      | inl more ↦
          let least = at_least xs rising most more in
          let less = below most more in
          omega (arith, least, less)
      | inr few ↦ few
    ]

-- a field that is there has a number below the count
number_below : (fields : List Field) (number : ℕ) (field : Field) → slice_get fields number ≡ Some field → number < length fields
number_below [] number field is = absurd (cc)
number_below (first ∷ fields) zero field is = omega arith
number_below (first ∷ fields) (suc number) field is = let less = number_below fields number field is in omega (arith, less)

-- the numbers of cells
number_of : PlainCell → ℕ
number_of cell = cell.field

no_cell : PlainCell
no_cell = record { field = 0; value = v.Null }

module _ (fields : List Field) (schema : IsSchema fields) where
  is_kind : (number : ℕ) → IsKind (kind_at fields number)
  is_kind number = elim ((slice_get_cases fields number).1) [
    | inl found ↦ subst (λ (o : Option Field). IsKind (kind_or_plain o)) (sym found.2)
        (subst (λ (field : Field). IsKind field.kind) found.3 (schema.each number found.0 found.1).kind)
    | inr beyond ↦ subst (λ (o : Option Field). IsKind (kind_or_plain o)) (sym beyond.1) tt
  ]

  can_cell : (cell : PlainCell) → IsCell fields cell → CanSendCell fields cell
  can_cell cell is =
      let kept = allowed_at fields cell.field (IsKeptBy cell.value) is in
      record { kept = kept; leaf = leaf_in (kind_at fields cell.field) cell.value (is_kind cell.field) kept }

  pub can_cells : (cells : List PlainCell) → AreCells fields cells → CanSendCells fields cells
  can_cells cells are =
      let long : length (map (λ (cell : PlainCell). cell.field) cells) ≡ length cells = length-map cells (λ (cell : PlainCell). cell.field) in
      let at : (n : ℕ) → n < length cells → slice_index (map (λ (cell : PlainCell). cell.field) cells) n ≡ (get_or cells n no_cell).field =
      λ n less. get_or-map (λ (cell : PlainCell). cell.field) cells n no_cell 0 less in
      let rise : IsStrictlyIncreasing (map (λ (cell : PlainCell). cell.field) cells) =
      λ n less.
      let next : n + 1 < length cells = omega (arith, less, long) in
      omega (arith, at n (omega (arith, next)), at (n + 1) next, are.rise n (n + 1) no_cell (omega arith) next) in
      let below : (n : ℕ) → n < length (map (λ (cell : PlainCell). cell.field) cells) → slice_index (map (λ (cell : PlainCell). cell.field) cells) n < length fields =
      λ n less.
      let here : n < length cells = omega (arith, less, long) in
      let is = are.each n no_cell here in
      omega (arith, at n here, number_below fields (get_or cells n no_cell).field is.field is.there) in
      record {
        each = λ n d less. can_cell (get_or cells n d) (are.each n d less);
        rise = rise;
        few = omega (arith, long, rising_few (map (λ (cell : PlainCell). cell.field) cells) (length fields) rise below, schema.few);
      }

  can_term : (term : Term) → IsTerm fields term → CanSendTerm fields term
  can_term (t.Id value) is = record { is = is; leaf = tt }
  can_term (t.Equal field value) is =
      record { is = is; leaf = leaf_sought (kind_at fields field) value (is_kind field) (allowed_at fields field (IsEqualityOf value) is) }
  can_term (t.Between field lo hi) is = record { is = is; leaf = tt }

  pub can_terms : (terms : List Term) → All (IsTerm fields) terms → length terms ≤ 2 ^ 31 → CanSendTerms fields terms
  can_terms terms are few = record { each = λ n d less. can_term (get_or terms n d) (are n d less); few = few }

  pub can_pairs : (pairs : List Pair) → ArePairs fields pairs → CanSendPairs fields pairs
  can_pairs pairs are = λ n d less. allowed_at fields (get_or pairs n d).sent IsEncrypted (are.each n d less).1

  can_send_few : (plain : PlainCommand) → IsResolved fields plain → length (plain_terms plain) ≤ 2 ^ 31 → CanSend fields plain
  can_send_few (c.Insert document) is few = can_cells document.cells is.cells
  can_send_few (c.Find terms ids) is few = can_terms terms is few
  can_send_few (c.Update terms set) is few = (can_terms terms is.0 few, can_cells set is.1)
  can_send_few (c.Delete terms) is few = can_terms terms is few
  can_send_few (c.Begin kind pairs) is few = can_pairs pairs is
  can_send_few (c.Step job limit) is few = tt
  can_send_few (c.End job) is few = tt
  can_send_few (c.Abandon job) is few = tt
  can_send_few (c.Raise field contention) is few = tt

-- each item of an array takes a byte or more
items_long : (place : ℕ) (sizes : List ℕ) → length sizes ≤ items_length place sizes
items_long place [] = omega arith
items_long place (size ∷ sizes) = let rest = items_long (suc place) sizes in omega (arith, rest)

-- the terms of a command are within its counted length
terms_counted : (fields : List Field) (plain : PlainCommand) → length (plain_terms plain) ≤ counted_length fields plain
unfolding counted_length
terms_counted fields (c.Find terms ids) = omega (arith, items_long 0 (map (term_size fields) terms), length-map terms (term_size fields))
terms_counted fields (c.Update terms set) = omega (arith, items_long 0 (map (term_size fields) terms), length-map terms (term_size fields))
terms_counted fields (c.Delete terms) = omega (arith, items_long 0 (map (term_size fields) terms), length-map terms (term_size fields))
terms_counted fields (c.Insert document) = omega arith
terms_counted fields (c.Begin kind pairs) = omega arith
terms_counted fields (c.Step job limit) = omega arith
terms_counted fields (c.End job) = omega arith
terms_counted fields (c.Abandon job) = omega arith
terms_counted fields (c.Raise field contention) = omega arith

-- a command that fits has a counted length within the limit
counted_within : (fields : List Field) (plain : PlainCommand) → fits fields plain ≡ true → counted_length fields plain ≤ most_bytes
counted_within fields plain is =
    leb-true (counted_length fields plain) most_bytes
    (by_test (job_fits plain) (bad_value fields plain) (long_part plain) (nat_le (counted_length fields plain) most_bytes) is)
  where
    by_test : (job : Bool) (bad : Option Part) (part : Part) (b : Bool) → (job && is_none (option_or bad (cond b None (Some part)))) ≡ true → b ≡ true
    by_test false bad part b is = absurd cc
    by_test true (Some other) part b is = absurd cc
    by_test true None part true is = refl
    by_test true None part false is = absurd cc

-- a command that was resolved under a schema, and fits, can be sent
pub can_send : (fields : List Field) (plain : PlainCommand) → IsSchema fields → IsResolved fields plain → fits fields plain ≡ true → CanSend fields plain
can_send fields plain schema resolved fit =
    can_send_few fields schema plain resolved (omega (arith, terms_counted fields plain, counted_within fields plain fit))

-- contentions within the greatest ones are within 1,000
greatest_small : (kind : FieldKind) → IsKind kind → greatest_of kind ≤ 1000
greatest_small k.Plain is = omega arith
greatest_small (k.Equality id kind contention greatest) is = is.1.small
greatest_small (k.Range id kind contention greatest domain) is = is.2.small

pub are_limited : (fields : List Field) (contentions : Contentions) → IsSchema fields → AreWithin fields contentions → AreLimited contentions
are_limited fields contentions schema within field =
    omega (arith, within field, greatest_small (kind_at fields field) (is_kind fields schema field))
