-- Keys of labels are the same where groups and identifiers are.
use Rattle.std.proofs.Common.{◌≡◌, ℕ, Bool, true, List, refl}
use Rattle.std.proofs.lemmas.Bool.{and_parts, and_from}
use Rattle.std.proofs.lemmas.Slice.Eq.{bytes_eq-Decides}
use Rattle.std.specs.Bool.{beq}
use Rattle.std.specs.Str.{bytes_eq}
use Rattle.qe_labels.specs.Clashes.{same_key}
use Rattle.qe_labels.proofs.ClashLemmas.{beq_true, beq_same}

pub same_exact : (a b : Bool × List ℕ) → same_key a b ≡ true → a ≡ b
same_exact a b is =
    let parts = and_parts (beq a.0 b.0) (bytes_eq a.1 b.1) is in
    let groups : a.0 ≡ b.0 = beq_true a.0 b.0 parts.0 in
    let ids : a.1 ≡ b.1 = (bytes_eq-Decides a.1 b.1).0 parts.1 in
    λ i. (groups i, ids i)

pub same_itself : (a : Bool × List ℕ) → same_key a a ≡ true
same_itself a = and_from (beq a.0 a.0) (bytes_eq a.1 a.1) (beq_same a.0 a.0 refl) ((bytes_eq-Decides a.1 a.1).1 refl)
