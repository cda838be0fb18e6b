-- The first refusal, by the first byte.
use Rattle.std.proofs.Common.{◌≡◌, ◌≢◌, ℕ, List, [], ◌∷◌, length, refl, ap, sym, ◌∙◌, Option, Some, None}
use Rattle.std.proofs.lemmas.Bool.{ne_eqb}
use Rattle.std.specs.Prelude.{slice_get, slice_index, Err}
use Rattle.qe_base.specs.Answers.{Refuses}
use Rattle.qe_indexed.specs.declared.fault.IndexedFault.{IndexedFault}
use Rattle.qe_indexed.specs.declared.fault.IndexedFault.TheVariants.{Short, BlobSubtype}
use Rattle.qe_indexed.specs.Faults.{refusal_of, equality_refusal, range_refusal, unless_refused}

pub refused_empty : (bytes : List ℕ) → None ≡ slice_get bytes 0 → refusal_of bytes ≡ Some Short
unfolding refusal_of
refused_empty [] is = refl
refused_empty (b ∷ rest) is = absurd (cc)

pub refusal_of-14 : (bytes : List ℕ) (first : ℕ) → Some first ≡ slice_get bytes 0 → first ≡ 14 → refusal_of bytes ≡ equality_refusal (length bytes)
unfolding refusal_of
refusal_of-14 [] first is same = absurd (cc)
refusal_of-14 (b ∷ rest) first is same =
    let begins : first ≡ b = cc in
    rw (sym begins ∙ same) refl

pub refusal_of-15 : (bytes : List ℕ) (first : ℕ) → Some first ≡ slice_get bytes 0 → first ≡ 15
    → refusal_of bytes ≡ range_refusal (length bytes) (slice_index bytes 18)
unfolding refusal_of
refusal_of-15 [] first is same = absurd (cc)
refusal_of-15 (b ∷ rest) first is same =
    let begins : first ≡ b = cc in
    rw (sym begins ∙ same) refl

pub refusal_of-other : (bytes : List ℕ) (first : ℕ) → Some first ≡ slice_get bytes 0 → first ≢ 14 → first ≢ 15 → refusal_of bytes ≡ Some (BlobSubtype first)
unfolding refusal_of
refusal_of-other [] first is not_14 not_15 = absurd (cc)
refusal_of-other (b ∷ rest) first is not_14 not_15 =
    let begins : first ≡ b = cc in
    rw (sym begins, ne_eqb first 14 not_14, ne_eqb first 15 not_15) refl

-- what is refused is refused whatever the answer were
refused_alike : {A B : Type 0} (due : Option IndexedFault) (fault : IndexedFault) (answer : A) (other : B) → unless_refused due answer ≡ Err fault
    → unless_refused due other ≡ Err fault
refused_alike None fault answer other is = absurd (cc)
refused_alike (Some first) fault answer other is = let same : first ≡ fault = cc in ap Err same

pub Refuses-alike : {A B : Type 0} (kept due : Option IndexedFault) (answer : A) (other : B) → Refuses kept (unless_refused due answer)
    → Refuses kept (unless_refused due other)
Refuses-alike None due answer other refuses = tt
Refuses-alike (Some fault) due answer other refuses = refused_alike due fault answer other refuses
