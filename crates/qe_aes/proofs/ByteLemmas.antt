-- Lists of bytes stay lists of bytes.
use Rattle.std.proofs.Common.{◌<◌, ℕ, zero, suc, List, [], ◌∷◌, ◌++◌, take, drop, map, bit_xor, lit<}
use Rattle.std.proofs.lemmas.Nat.{xor_lt}
use Rattle.qe_aes.specs.Field.{xor_bytes}
use Rattle.qe_base.specs.Bytes.{AreBytes}

-- of no bytes
pub AreBytes-nil : AreBytes []
AreBytes-nil k = lit< tt

-- with a byte before them
pub AreBytes-cons : (x : ℕ) (xs : List ℕ) → x < 256 → AreBytes xs → AreBytes (x ∷ xs)
AreBytes-cons x xs lt bytes zero = lt
AreBytes-cons x xs lt bytes (suc k) = bytes k

-- without the first
AreBytes-rest : (x : ℕ) (xs : List ℕ) → AreBytes (x ∷ xs) → AreBytes xs
AreBytes-rest x xs bytes k = bytes (suc k)

-- one after the other
pub AreBytes-append : (xs ys : List ℕ) → AreBytes xs → AreBytes ys → AreBytes (xs ++ ys)
AreBytes-append [] ys bytes more = more
AreBytes-append (x ∷ xs) ys bytes more = AreBytes-cons x (xs ++ ys) (bytes 0) (AreBytes-append xs ys (AreBytes-rest x xs bytes) more)

-- at the front
pub AreBytes-take : (n : ℕ) (xs : List ℕ) → AreBytes xs → AreBytes (take n xs)
AreBytes-take zero xs bytes = AreBytes-nil
AreBytes-take (suc n) [] bytes = AreBytes-nil
AreBytes-take (suc n) (x ∷ xs) bytes = AreBytes-cons x (take n xs) (bytes 0) (AreBytes-take n xs (AreBytes-rest x xs bytes))

-- and behind it
pub AreBytes-drop : (n : ℕ) (xs : List ℕ) → AreBytes xs → AreBytes (drop n xs)
AreBytes-drop zero xs bytes = bytes
AreBytes-drop (suc n) [] bytes = AreBytes-nil
AreBytes-drop (suc n) (x ∷ xs) bytes = AreBytes-drop n xs (AreBytes-rest x xs bytes)

-- each put through a function
pub AreBytes-map : (f : ℕ → ℕ) (xs : List ℕ) → ((b : ℕ) → b < 256 → f b < 256) → AreBytes xs → AreBytes (map f xs)
AreBytes-map f [] keeps bytes = AreBytes-nil
AreBytes-map f (x ∷ xs) keeps bytes = AreBytes-cons (f x) (map f xs) (keeps x (bytes 0)) (AreBytes-map f xs keeps (AreBytes-rest x xs bytes))

-- and added
pub AreBytes-xor_bytes : (xs ys : List ℕ) → AreBytes xs → AreBytes ys → AreBytes (xor_bytes xs ys)
unfolding xor_bytes
AreBytes-xor_bytes [] ys bytes more = AreBytes-nil
AreBytes-xor_bytes (x ∷ xs) [] bytes more = AreBytes-nil
AreBytes-xor_bytes (x ∷ xs) (y ∷ ys) bytes more =
    AreBytes-cons (bit_xor x y) (xor_bytes xs ys) (xor_lt 8 x y (bytes 0) (more 0))
    (AreBytes-xor_bytes xs ys (AreBytes-rest x xs bytes) (AreBytes-rest y ys more))
