-- When two ids are the same.
use Rattle.std.proofs.Common.{◌≡◌, ℕ, ℤ, Bool, true, false, List, ◌↔◌, refl, ap, sym, subst}
use Rattle.std.proofs.lemmas.Bool.{and_from, and_parts, eqb-true, eq-eqb}
use Rattle.std.proofs.lemmas.Bool.Decides.{Decides-int_eq}
use Rattle.std.proofs.lemmas.Slice.Eq.{bytes_eq-Decides}
use Rattle.qe_value.specs.declared.value.Value.{Value}
use Rattle.qe_value.specs.declared.value.Value.TheVariants as v
use Rattle.qe_value.specs.declared.value.Plain.{Plain}
use Rattle.qe_value.specs.Spelling.{spelled}
use Rattle.qe_value.specs.Views.{plain}
use Rattle.qe_value.proofs.AloneLemmas.{alone_one}
use Rattle.qe_value.proofs.EqualLemmas.{plain_one}
use Rattle.qe_field.specs.Values.{kind_of}
use Rattle.qe_plain.specs.Collection.{same_value}
use Rattle.qe_plain.specs.Laws.{IsWritable}
use Rattle.qe_command_fits.specs.OfSchema.{IsIdValue}
use Rattle.qe_protocol.specs.Filters.{same_id}
use Rattle.qe_protocol.specs.Laws.{IdsAgree}

-- an id has one of four types
by_type : (P : Value → Type 0) → ((z : ℤ) → P (v.Int32 z)) → ((z : ℤ) → P (v.Int64 z)) → ((t : List ℕ) → P (v.Str t)) → ((b : List ℕ) → P (v.ObjectId b))
    → (a : Value) → IsIdValue a → P a
by_type P int32 int64 str object (v.Int32 z) is = int32 z
by_type P int32 int64 str object (v.Int64 z) is = int64 z
by_type P int32 int64 str object (v.Str t) is = str t
by_type P int32 int64 str object (v.ObjectId b) is = object b
by_type P int32 int64 str object (v.Double b) is = absurd is
by_type P int32 int64 str object (v.Doc fs) is = absurd is
by_type P int32 int64 str object (v.Array vs) is = absurd is
by_type P int32 int64 str object (v.Binary s b) is = absurd is
by_type P int32 int64 str object (v.Bool b) is = absurd is
by_type P int32 int64 str object (v.Date z) is = absurd is
by_type P int32 int64 str object v.Null is = absurd is
by_type P int32 int64 str object (v.Timestamp n) is = absurd is
by_type P int32 int64 str object (v.Decimal b) is = absurd is

abbrev Same : Value → Value → Type 0
Same a b = (same_id a b ≡ true) ↔ (a ≡ b)

same_equal : (a b : Value) → IsIdValue a → IsIdValue b → Same a b
same_equal a b one other =
    by_type (λ a. Same a b)
    (λ x. by_type (Same (v.Int32 x))
    (λ y. (λ is. ap (λ z. v.Int32 z) ((Decides-int_eq x y).0 is), λ (is : v.Int32 x ≡ v.Int32 y). let same : x ≡ y = cc in (Decides-int_eq x y).1 same))
    (λ y. (λ (no : false ≡ true). absurd (cc), λ (no : v.Int32 x ≡ v.Int64 y). absurd (cc)))
    (λ y. (λ (no : false ≡ true). absurd (cc), λ (no : v.Int32 x ≡ v.Str y). absurd (cc)))
    (λ y. (λ (no : false ≡ true). absurd (cc), λ (no : v.Int32 x ≡ v.ObjectId y). absurd (cc))) b other)
    (λ x. by_type (Same (v.Int64 x))
    (λ y. (λ (no : false ≡ true). absurd (cc), λ (no : v.Int64 x ≡ v.Int32 y). absurd (cc)))
    (λ y. (λ is. ap (λ z. v.Int64 z) ((Decides-int_eq x y).0 is), λ (is : v.Int64 x ≡ v.Int64 y). let same : x ≡ y = cc in (Decides-int_eq x y).1 same))
    (λ y. (λ (no : false ≡ true). absurd (cc), λ (no : v.Int64 x ≡ v.Str y). absurd (cc)))
    (λ y. (λ (no : false ≡ true). absurd (cc), λ (no : v.Int64 x ≡ v.ObjectId y). absurd (cc))) b other)
    (λ x. by_type (Same (v.Str x))
    (λ y. (λ (no : false ≡ true). absurd (cc), λ (no : v.Str x ≡ v.Int32 y). absurd (cc)))
    (λ y. (λ (no : false ≡ true). absurd (cc), λ (no : v.Str x ≡ v.Int64 y). absurd (cc)))
    (λ y. (λ is. ap (λ z. v.Str z) ((bytes_eq-Decides x y).0 is), λ (is : v.Str x ≡ v.Str y). let same : x ≡ y = cc in (bytes_eq-Decides x y).1 same))
    (λ y. (λ (no : false ≡ true). absurd (cc), λ (no : v.Str x ≡ v.ObjectId y). absurd (cc))) b other)
    (λ x. by_type (Same (v.ObjectId x))
    (λ y. (λ (no : false ≡ true). absurd (cc), λ (no : v.ObjectId x ≡ v.Int32 y). absurd (cc)))
    (λ y. (λ (no : false ≡ true). absurd (cc), λ (no : v.ObjectId x ≡ v.Int64 y). absurd (cc)))
    (λ y. (λ (no : false ≡ true). absurd (cc), λ (no : v.ObjectId x ≡ v.Str y). absurd (cc)))
    (λ y. (λ is. ap (λ z. v.ObjectId z) ((bytes_eq-Decides x y).0 is), λ (is : v.ObjectId x ≡ v.ObjectId y). let same : x ≡ y = cc in (bytes_eq-Decides x y).1 same)) b other)
    a one

-- two tests that say the same
one_answer : (p q : Bool) → (p ≡ true → q ≡ true) → (q ≡ true → p ≡ true) → p ≡ q
one_answer true q there back = sym (there refl)
one_answer false true there back = back refl
one_answer false false there back = refl

-- values of one type and the same bytes are equal
one_value : (a b : Plain) → IsWritable a → IsWritable b → same_value a b ≡ true → a ≡ b
one_value a b one other same =
    let parts = and_parts _ _ same in
    let kinds = eqb-true (kind_of a) (kind_of b) parts.0 in
    let bytes = (bytes_eq-Decides (spelled a).bytes (spelled b).bytes).0 parts.1 in
    alone_one (kind_of a) (spelled a).bytes a b one (rw (kinds, bytes) other)

itself : (a b : Plain) → a ≡ b → same_value a b ≡ true
itself a b is =
    subst (λ other. same_value a other ≡ true) is
    (and_from _ _ (eq-eqb (kind_of a) (kind_of a) refl) ((bytes_eq-Decides (spelled a).bytes (spelled a).bytes).1 refl))

same_values : (a b : Value) → Same a b → IsWritable (plain a) → IsWritable (plain b) → same_id a b ≡ same_value (plain a) (plain b)
same_values a b same one other =
    one_answer (same_id a b) (same_value (plain a) (plain b)) (λ is. itself (plain a) (plain b) (ap plain (same.0 is)))
    (λ is. same.1 (plain_one a b (one_value (plain a) (plain b) one other is)))

pub ids_agree : IdsAgree
ids_agree a b one other = let same = same_equal a b one other in record { equal = same; value = same_values a b same }
