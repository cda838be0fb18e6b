-- Fields of a schema, by their paths and by their numbers.
use Rattle.std.proofs.Common.{◌≡◌, ℕ, zero, suc, ◌+◌, ◌<◌, Bool, true, false, List, [], ◌∷◌, length, refl, ap, sym, subst, ◌∙◌, arith, if◌then◌else◌, Some}
use Rattle.std.specs.Prelude.{bytes_eq, slice_get}
use Rattle.std.proofs.lemmas.Bool.{cond-true, cond-false, or_parts}
use Rattle.std.proofs.lemmas.Slice.Eq.{bytes_eq-Decides}
use Rattle.qe_document.specs.Names.{Distinct, is_named}
use Rattle.qe_field.specs.declared.field.Field.{Field}
use Rattle.qe_field.specs.declared.field.FieldKind.{FieldKind}
use Rattle.qe_field.specs.Lookup.{known_from, known, path_or_none, path_of}
use Rattle.qe_layout.proofs.FillLemmas.{bytes_eq-sym}
use Rattle.qe_command_document.specs.CellDocuments.{field_rows}
use Rattle.qe_command_fits.specs.OfSchema.{IsFieldAt}

-- the field that a path is of
pub record IsKnown (i : ℕ) (fields : List Field) (path : List ℕ) (n : ℕ) (kind : FieldKind) : Type 0 where
  pub place : ℕ
  pub at : n ≡ i + place
  pub field : Field
  pub there : slice_get fields place ≡ Some field
  pub kind_is : field.kind ≡ kind
  pub path_is : path ≡ field.path

known_from_is : (path : List ℕ) (i : ℕ) (fields : List Field) (n : ℕ) (kind : FieldKind) → known_from i path fields ≡ Some (n, kind) → IsKnown i fields path n kind
known_from_is path i [] n kind is = absurd (cc)
known_from_is path i (field ∷ fields) n kind is =
    by_test (known_from_is path (i + 1) fields n kind) (bytes_eq path field.path) (bytes_eq-Decides path field.path).0 is
  where
    by_test : (known_from (i + 1) path fields ≡ Some (n, kind) → IsKnown (i + 1) fields path n kind) → (b : Bool) → (b ≡ true → path ≡ field.path)
        → (if b then Some (i, field.kind) else known_from (i + 1) path fields) ≡ Some (n, kind) → IsKnown i (field ∷ fields) path n kind
    by_test later true same is =
        let plus : i ≡ i + 0 = omega arith in
        let both : (i, field.kind) ≡ (n, kind) = cc in
        let at : i ≡ n = ap (λ (f : ℕ × FieldKind). f.0) both in
        let place : n ≡ i + 0 = sym at ∙ plus in
        record { place = 0; at = place; field = field; there = refl; kind_is = ap (λ (f : ℕ × FieldKind). f.1) both; path_is = same refl }
    by_test later false same is =
        let rest = later is in
        record { place = suc rest.place; at = omega (arith, rest.at); field = rest.field; there = rest.there; kind_is = rest.kind_is; path_is = rest.path_is }

pub known_is : (fields : List Field) (path : List ℕ) (n : ℕ) (kind : FieldKind) → known fields path ≡ Some (n, kind) → IsKnown 0 fields path n kind
known_is fields path n kind is = known_from_is path 0 fields n kind is

pub known_path : (fields : List Field) (path : List ℕ) (n : ℕ) (kind : FieldKind) → known fields path ≡ Some (n, kind) → path ≡ path_of fields n
known_path fields path n kind is =
    let found = known_is fields path n kind is in
    let place : found.place ≡ n = omega (arith, found.at) in
    found.path_is ∙ sym (ap path_or_none found.there) ∙ ap (path_of fields) place

pub get_below : (fields : List Field) (j : ℕ) (field : Field) → slice_get fields j ≡ Some field → j < length fields
get_below [] j field is = absurd (cc)
get_below (first ∷ fields) zero field is = omega arith
get_below (first ∷ fields) (suc j) field is = let less = get_below fields j field is in omega (arith, less)

-- what holds of the kind that a path has holds of the field of its number
pub field_at : (fields : List Field) (path : List ℕ) (n : ℕ) (kind : FieldKind) (Holds : FieldKind → Type 0) → known fields path ≡ Some (n, kind) → Holds kind
    → IsFieldAt fields n Holds
field_at fields path n kind Holds is holds =
    let found = known_is fields path n kind is in
    let place : found.place ≡ n = omega (arith, found.at) in
    let there : slice_get fields n ≡ Some found.field = ap (slice_get fields) (sym place) ∙ found.there in
    record { below = get_below fields n found.field there; field = found.field; there = there; kind = subst Holds (sym found.kind_is) holds }

other_path : (name : List ℕ) (fields : List Field) (j : ℕ) (field : Field) → is_named name (field_rows fields) ≡ false → slice_get fields j ≡ Some field
    → bytes_eq name field.path ≡ false
other_path name [] j field new is = absurd (cc)
other_path name (first ∷ fields) zero field new is =
    let same : first ≡ field = cc in
    subst (λ (f : Field). bytes_eq name f.path ≡ false) same (or_parts (bytes_eq name first.path) (is_named name (field_rows fields)) new).0
other_path name (first ∷ fields) (suc j) field new is =
    other_path name fields j field (or_parts (bytes_eq name first.path) (is_named name (field_rows fields)) new).1 is

-- where paths are distinct, a field is known by its own
pub own_known : (i : ℕ) (fields : List Field) (j : ℕ) (field : Field) → Distinct (field_rows fields) → slice_get fields j ≡ Some field
    → known_from i field.path fields ≡ Some (i + j, field.kind)
own_known i [] j field apart is = absurd (cc)
own_known i (first ∷ fields) zero field apart is =
    let same : first ≡ field = cc in
    let place : i ≡ i + 0 = omega arith in
    subst (λ (f : Field). known_from i f.path (first ∷ fields) ≡ Some (i + 0, f.kind)) same
    (cond-true (bytes_eq first.path first.path) (Some (i, first.kind)) (known_from (i + 1) first.path fields) ((bytes_eq-Decides first.path first.path).1 refl)
    ∙ ap (λ n. Some (n, first.kind)) place)
own_known i (first ∷ fields) (suc j) field apart is =
    let other = bytes_eq-sym field.path first.path ∙ other_path first.path fields j field apart.0 is in
    let place : i + 1 + j ≡ i + suc j = omega arith in
    cond-false (bytes_eq field.path first.path) (Some (i, first.kind)) (known_from (i + 1) field.path fields) other
    ∙ own_known (i + 1) fields j field apart.1 is ∙ ap (λ n. Some (n, field.kind)) place
