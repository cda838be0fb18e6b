-- No field is found exactly where none has the path.
use Rattle.std.proofs.Common.{◌≡◌, ◌≢◌, ℕ, ◌+◌, inl, inr, refl, true, List, [], ◌∷◌, None, sym}
use Rattle.std.specs.Prelude.{bytes_eq}
use Rattle.std.specs.List.{AllByRecursion}
use Rattle.std.proofs.lemmas.Bool.{cases_Bool}
use Rattle.std.proofs.lemmas.List.Elements.{All-from_recursion, recursion_from_All}
use Rattle.std.proofs.lemmas.Slice.Eq.{bytes_eq-Decides}
use Rattle.qe_field.specs.declared.field.Field.{Field}
use Rattle.qe_field.specs.Lookup.{known_from}
use Rattle.qe_schema.specs.Laws.{IsUnknownWhereNone}

abbrev IsOther : List ℕ → Field → Type 0
IsOther path field = field.path ≢ path

none_has : (i : ℕ) (path : List ℕ) (fields : List Field) → known_from i path fields ≡ None → AllByRecursion (IsOther path) fields
none_has i path [] h = tt
none_has i path (field ∷ fields) h =
    elim (cases_Bool (bytes_eq path field.path)) [
      | inl sure ↦ let found = rw sure at h in cc
      | inr failed ↦ (λ same. let sure : bytes_eq path field.path ≡ true = (bytes_eq-Decides path field.path).1 (sym same) in cc, none_has (i + 1) path fields (rw failed at h))
    ]

not_found : (i : ℕ) (path : List ℕ) (fields : List Field) → AllByRecursion (IsOther path) fields → known_from i path fields ≡ None
not_found i path [] all = refl
not_found i path (field ∷ fields) all =
    elim (cases_Bool (bytes_eq path field.path)) [
      | inl sure ↦ absurd (all.0 (sym ((bytes_eq-Decides path field.path).0 sure)))
      | inr failed ↦ rw failed (not_found (i + 1) path fields all.1)
    ]

pub unknown_where_none : IsUnknownWhereNone
unknown_where_none fields path =
    (λ h. All-from_recursion (IsOther path) fields (none_has 0 path fields h), λ all. not_found 0 path fields (recursion_from_All (IsOther path) fields all))
