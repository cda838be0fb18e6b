-- What a test tells that a value passed.
use Rattle.std.proofs.Common.{◌≡◌, Bool, true, false, if◌then◌else◌, Result, Ok, Err, refl}

-- an answer that comes where a test holds
pub passed : {A E : Type 0} (test : Bool) (fault : E) (answer : Result A E) (x : A) → (if test then answer else Err fault) ≡ Ok x → (test ≡ true) × (answer ≡ Ok x)
passed true fault answer x is = (refl, is)
passed false fault answer x is = cc

-- an answer that comes where it doesn't
pub past : {A E : Type 0} (test : Bool) (fault : E) (answer : Result A E) (x : A) → (if test then Err fault else answer) ≡ Ok x → answer ≡ Ok x
past true fault answer x is = cc
past false fault answer x is = is
