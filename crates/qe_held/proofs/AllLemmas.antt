-- What holds of each item, item by item.
use Rattle.std.proofs.Common.{ℕ, suc, ◌+◌, ◌<◌, List, [], ◌∷◌, map, arith}
use Rattle.std.specs.Prelude.{All}
use Rattle.std.specs.List.{AllByRecursion}

pub all_each : {A : Type 0} (P : A → Type 0) (xs : List A) → All P xs → AllByRecursion P xs
all_each P [] all = tt
all_each P (x ∷ xs) all = (all 0 x (omega arith), all_each P xs (λ i d less. all (suc i) d (omega (arith, less))))

-- what holds of each as it is seen
pub all_seen : {A B : Type 0} (see : A → B) (P : B → Type 0) (xs : List A) → All (λ x. P (see x)) xs → AllByRecursion P (map see xs)
all_seen see P [] all = tt
all_seen see P (x ∷ xs) all = (all 0 x (omega arith), all_seen see P xs (λ k d less. all (suc k) d (omega (arith, less))))
