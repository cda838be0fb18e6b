-- Numbers of four and of eight bytes.
use Rattle.std.proofs.Common.{◌≡◌, ℕ, ◌^◌, ◌<◌, List, length, refl, ap, ◌∙◌, arith}
use Rattle.std.specs.Int.{w32, w64, to_le_bytes, from_le_bytes, cast_signed, cast_unsigned}
use Rattle.std.proofs.lemmas.Int.{of_z-to_z}
use Rattle.std.proofs.lemmas.Nat.{le_bytes_4, le_bytes_8}
use Rattle.qe_base.specs.Bytes.{AreBytes}

-- four and eight bytes are the spelling of their number
pub le_back_4 : (t : List ℕ) → AreBytes t → length t ≡ 4 → to_le_bytes w32 (from_le_bytes w32 t) ≡ t
le_back_4 t fits len = le_bytes_4 t (from_le_bytes w32 t) len fits refl

pub le_back_8 : (t : List ℕ) → AreBytes t → length t ≡ 8 → to_le_bytes w64 (from_le_bytes w64 t) ≡ t
le_back_8 t fits len = le_bytes_8 t (from_le_bytes w64 t) len fits refl

pub below_4 : (t : List ℕ) → AreBytes t → from_le_bytes w32 t < 2 ^ 32
below_4 t fits = omega (arith, fits 0, fits 1, fits 2, fits 3)

pub below_8 : (t : List ℕ) → AreBytes t → from_le_bytes w64 t < 2 ^ 64
below_8 t fits = omega (arith, fits 0, fits 1, fits 2, fits 3, fits 4, fits 5, fits 6, fits 7)

pub signed_4 : (t : List ℕ) → AreBytes t → length t ≡ 4 → to_le_bytes w32 (cast_unsigned w32 (cast_signed w32 (from_le_bytes w32 t))) ≡ t
signed_4 t fits len = ap (λ (k : ℕ). to_le_bytes w32 k) (of_z-to_z w32 (from_le_bytes w32 t) (below_4 t fits)) ∙ le_back_4 t fits len

pub signed_8 : (t : List ℕ) → AreBytes t → length t ≡ 8 → to_le_bytes w64 (cast_unsigned w64 (cast_signed w64 (from_le_bytes w64 t))) ≡ t
signed_8 t fits len = ap (λ (k : ℕ). to_le_bytes w64 k) (of_z-to_z w64 (from_le_bytes w64 t) (below_8 t fits)) ∙ le_back_8 t fits len
