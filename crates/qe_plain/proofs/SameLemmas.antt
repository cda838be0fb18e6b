-- Values that can be written are the same exactly where they are equal.
use Rattle.std.proofs.Common.{◌≡◌, true, refl, subst}
use Rattle.std.proofs.lemmas.Bool.{and_from, and_parts, eqb-true, eq-eqb}
use Rattle.std.proofs.lemmas.Slice.Eq.{bytes_eq-Decides}
use Rattle.qe_value.specs.declared.value.Plain.{Plain}
use Rattle.qe_value.specs.Spelling.{spelled}
use Rattle.qe_value.proofs.AloneLemmas.{alone_one}
use Rattle.qe_field.specs.Values.{kind_of}
use Rattle.qe_plain.specs.Collection.{same_value}
use Rattle.qe_plain.specs.Laws.{IsWritable, SameAreEqual}

equal : (a b : Plain) → IsWritable a → IsWritable b → same_value a b ≡ true → a ≡ b
equal a b one other h =
    let parts = and_parts _ _ h in
    let kinds = eqb-true (kind_of a) (kind_of b) parts.0 in
    let bytes = (bytes_eq-Decides (spelled a).bytes (spelled b).bytes).0 parts.1 in
    alone_one (kind_of a) (spelled a).bytes a b one (rw (kinds, bytes) other)

self_same : (a : Plain) → same_value a a ≡ true
self_same a = and_from _ _ (eq-eqb (kind_of a) (kind_of a) refl) ((bytes_eq-Decides (spelled a).bytes (spelled a).bytes).1 refl)

same : (a b : Plain) → a ≡ b → same_value a b ≡ true
same a b e = subst (λ w. same_value a w ≡ true) e (self_same a)

pub same_are_equal : SameAreEqual
same_are_equal a b one other = (equal a b one other, same a b)
