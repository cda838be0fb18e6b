-- Bytes are in the range of their type.
use Rattle.std.proofs.Common.{◌≡◌, ℕ, suc, ◌<◌, List, [], ◌∷◌, get_or, Bool, true, refl, arith}
use Rattle.std.proofs.lemmas.Bool.Decides.{nat_tests}
use Rattle.std.specs.Prelude.{◌&&◌, nat_lt}
use Rattle.qe_base.specs.Bytes.{are_bytes}

pub and_true : (a b : Bool) → a ≡ true → b ≡ true → (a && b) ≡ true
and_true a b first second = rw (first, second) refl

-- numbers below 256 at each place are bytes
pub are_bytes-below : (bytes : List ℕ) → ((i : ℕ) → get_or bytes i 0 < 256) → are_bytes bytes ≡ true
are_bytes-below [] below = refl
are_bytes-below (b ∷ bytes) below =
    let here : b < 256 = below 0 in
    let first : nat_lt b 256 ≡ true = grind (arith, nat_tests) in and_true (nat_lt b 256) (are_bytes bytes) first (are_bytes-below bytes (λ i. below (suc i)))
