-- Fields by their numbers.
use Rattle.std.proofs.Common.{◌≡◌, ℕ, List, Option, Some, sym, subst, inl, inr}
use Rattle.std.specs.Prelude.{slice_get}
use Rattle.std.proofs.lemmas.Option.{slice_get_cases}
use Rattle.qe_field.specs.declared.field.Field.{Field}
use Rattle.qe_field.specs.declared.field.FieldKind.{FieldKind}
use Rattle.qe_field.specs.Schema.{IsKind}
use Rattle.qe_schema.specs.Resolved.{OfField}
use Rattle.qe_labels.specs.Under.{Under}
use Rattle.qe_encodes.specs.Fields.{IsKeyed, IsUnder, kind_at, kind_or_plain}

-- what a field's kind allows, of the kind at its number
pub kind_there : (fields : List Field) (number : ℕ) (field : Field) (Allows : FieldKind → Type 0) → slice_get fields number ≡ Some field → Allows field.kind
    → Allows (kind_at fields number)
kind_there fields number field Allows there allows = subst (λ (o : Option Field). Allows (kind_or_plain o)) (sym there) allows

pub allowed_at : (fields : List Field) (number : ℕ) (Allows : FieldKind → Type 0) → OfField fields number Allows → Allows (kind_at fields number)
allowed_at fields number Allows is = kind_there fields number is.field Allows is.there is.allows

-- each kind of the schema has a key id of its length, and a domain that is one
pub keyed_at : (u : Under) → IsUnder u → (number : ℕ) → IsKeyed (kind_at u.schema number)
keyed_at u is number = elim ((slice_get_cases u.schema number).1) [
  | inl found ↦ subst (λ (o : Option Field). IsKeyed (kind_or_plain o)) (sym found.2)
      (subst (λ (field : Field). IsKeyed field.kind) found.3 (is.fields number found.0 found.1))
  | inr beyond ↦ subst (λ (o : Option Field). IsKeyed (kind_or_plain o)) (sym beyond.1) tt
]

-- .. and contentions within their limits
pub is_kind_at : (u : Under) → IsUnder u → (number : ℕ) → IsKind (kind_at u.schema number)
is_kind_at u is number = elim ((slice_get_cases u.schema number).1) [
  | inl found ↦ subst (λ (o : Option Field). IsKind (kind_or_plain o)) (sym found.2)
      (subst (λ (field : Field). IsKind field.kind) found.3 (is.schema.each number found.0 found.1).kind)
  | inr beyond ↦ subst (λ (o : Option Field). IsKind (kind_or_plain o)) (sym beyond.1) tt
]
