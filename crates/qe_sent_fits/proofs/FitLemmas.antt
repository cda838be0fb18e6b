-- What holds of a plain command that fits: its counted length is within the limit, and its plain values may stand in a document.
use Rattle.std.proofs.Common.{◌≡◌, ◌≤◌, ◌<◌, ◌+◌, ◌^◌, ◌&&◌, ℕ, Bool, true, false, cond, List, [], ◌∷◌, Option, None, Some, refl, subst, arith}
use Rattle.std.specs.Prelude.{is_none, nat_le, nat_lt, not, slice_get}
use Rattle.std.specs.List.{AllByRecursion, list_any}
use Rattle.std.specs.Option.{option_or}
use Rattle.std.proofs.lemmas.Bool.{leb-true, ltb-true, or_parts}
use Rattle.qe_value.specs.declared.value.Plain.{Plain}
use Rattle.qe_value.specs.Limits.{most_bytes, most_levels}
use Rattle.qe_value.specs.Measures.{depth, zero_in}
use Rattle.qe_field.specs.declared.field.Field.{Field}
use Rattle.qe_field.specs.declared.field.FieldKind.{FieldKind}
use Rattle.qe_field.specs.declared.field.FieldKind.TheVariants as k
use Rattle.qe_field.specs.Lookup.{is_encrypted}
use Rattle.qe_plain.specs.declared.command.PlainCell.{PlainCell}
use Rattle.qe_plain.specs.declared.command.PlainCommand.{PlainCommand}
use Rattle.qe_fits.specs.declared.part.Part.{Part}
use Rattle.qe_fits.specs.Fits.{bad_part, bad_value, fits, is_bad_cell, is_bad_value, is_plain, job_fits, long_part}
use Rattle.qe_fits.specs.Sizes.{counted_length}

pub record IsFitting (fields : List Field) (plain : PlainCommand) : Type 0 where
  pub job : job_fits plain ≡ true
  pub good : bad_value fields plain ≡ None
  pub counted : counted_length fields plain ≤ 16777216

by_tests : (job : Bool) (bad : Option Part) (part : Part) (short : Bool) → (job && is_none (option_or bad (cond short None (Some part)))) ≡ true
    → (job ≡ true) × ((bad ≡ None) × (short ≡ true))
by_tests false bad part short is = absurd (cc)
by_tests true (Some other) part short is = absurd (cc)
by_tests true None part true is = (refl, (refl, refl))
by_tests true None part false is = absurd (cc)

pub fitting : (fields : List Field) (plain : PlainCommand) → fits fields plain ≡ true → IsFitting fields plain
fitting fields plain is =
    let tests = by_tests (job_fits plain) (bad_value fields plain) (long_part plain) (nat_le (counted_length fields plain) most_bytes) is in
    record { job = tests.0; good = tests.1.0; counted = leb-true (counted_length fields plain) most_bytes tests.1.1 }

pub job_small : (job : ℕ) → nat_lt job (2 ^ 63) ≡ true → job < 2 ^ 63
job_small job is = ltb-true job (2 ^ 63) is

-- ---- plain values
pub none_bad : (part : Part) (bad : Bool) → bad_part part bad ≡ None → bad ≡ false
none_bad part true is = absurd (cc)
none_bad part false is = refl

pub each_good : {A : Type 0} (bad : A → Bool) (xs : List A) → list_any bad xs ≡ false → AllByRecursion (λ x. bad x ≡ false) xs
each_good bad [] none = tt
each_good bad (x ∷ xs) none = let parts = or_parts (bad x) (list_any bad xs) none in (parts.0, each_good bad xs parts.1)

-- what a plain field keeps may stand two levels down
abbrev pub MayStand : FieldKind → Plain → Type 0
MayStand k.Plain value = (depth value ≤ 98) × (zero_in value ≡ false)
MayStand _ value = Unit {0}

not_false : (b : Bool) → not b ≡ false → b ≡ true
not_false true is = refl
not_false false is = absurd (cc)

good_value : (value : Plain) → is_bad_value value ≡ false → (depth value ≤ 98) × (zero_in value ≡ false)
good_value value is =
    let parts = or_parts (zero_in value) (not (nat_le (depth value + 2) most_levels)) is in
    let few = leb-true (depth value + 2) most_levels (not_false (nat_le (depth value + 2) most_levels) parts.1) in
    (omega (arith, few), parts.0)

good_kept : (kind : FieldKind) (value : Plain) → (not (is_encrypted kind) && is_bad_value value) ≡ false → MayStand kind value
good_kept k.Plain value is = good_value value is
good_kept (k.Equality id kind contention greatest) value is = tt
good_kept (k.Range id kind contention greatest domain) value is = tt

pub may_stand : (fields : List Field) (cell : PlainCell) (field : Field) → slice_get fields cell.field ≡ Some field → is_bad_cell fields cell ≡ false
    → MayStand field.kind cell.value
may_stand fields cell field there is =
    good_kept field.kind cell.value (subst (λ (o : Option Field). (is_plain o && is_bad_value cell.value) ≡ false) there is)
