-- What is drawn may be drawn: IVs have 16 bytes, and a factor isn't above the number that it is drawn for.
use Rattle.std.proofs.Common.{◌<◌, ◌≤◌, ◌+◌, ◌/◌, ◌%◌, ℕ, [], ◌∷◌, ◌++◌, refl, arith}
use Rattle.std.proofs.Math.Nat.{mod-lt}
use Rattle.std.specs.Int.{w32, to_le_bytes}
use Rattle.qe_base.specs.Bytes.{AreBytes}
use Rattle.qe_aes.specs.Laws.{IsBlock}
use Rattle.qe_aes.proofs.ByteLemmas.{AreBytes-nil, AreBytes-cons, AreBytes-append}
use Rattle.qe_encodes.specs.Draws.{Stream, draw_at, iv_at, number_at, drawn_at}
use Rattle.qe_encodes.specs.Encodes.{AreDrawn}

AreBytes-word : (x : ℕ) → AreBytes (to_le_bytes w32 x)
AreBytes-word x =
    let a : x % 256 < 256 = omega arith in
    let b : x / 256 % 256 < 256 = omega arith in
    let c : x / 65536 % 256 < 256 = omega arith in
    let d : x / 16777216 % 256 < 256 = omega arith in
    AreBytes-cons _ (x / 256 % 256 ∷ x / 65536 % 256 ∷ x / 16777216 % 256 ∷ []) a
    (AreBytes-cons _ (x / 65536 % 256 ∷ x / 16777216 % 256 ∷ []) b (AreBytes-cons _ (x / 16777216 % 256 ∷ []) c (AreBytes-cons _ [] d AreBytes-nil)))

four_words : (x y z w : ℕ) → IsBlock (to_le_bytes w32 x ++ (to_le_bytes w32 y ++ (to_le_bytes w32 z ++ to_le_bytes w32 w)))
four_words x y z w =
    let last : AreBytes (to_le_bytes w32 z ++ to_le_bytes w32 w) = AreBytes-append (to_le_bytes w32 z) (to_le_bytes w32 w) (AreBytes-word z) (AreBytes-word w) in
    let rest : AreBytes (to_le_bytes w32 y ++ (to_le_bytes w32 z ++ to_le_bytes w32 w)) =
    AreBytes-append (to_le_bytes w32 y) (to_le_bytes w32 z ++ to_le_bytes w32 w) (AreBytes-word y) last in
    record {
      long = refl;
      bytes = AreBytes-append (to_le_bytes w32 x) (to_le_bytes w32 y ++ (to_le_bytes w32 z ++ to_le_bytes w32 w)) (AreBytes-word x) rest;
    }

pub IsBlock-iv_at : (stream : Stream) (place : ℕ) → IsBlock (iv_at stream place)
unfolding iv_at
IsBlock-iv_at stream place =
    four_words (draw_at stream place) (draw_at stream (place + 1)) (draw_at stream (place + 2)) (draw_at stream (place + 3))

factor_within : (number most : ℕ) → number % (most + 1) ≤ most
factor_within number most = let below : number % (most + 1) < most + 1 = mod-lt number (omega arith) in omega (arith, below)

pub are_drawn : (stream : Stream) (most place : ℕ) → AreDrawn most (drawn_at stream most place)
are_drawn stream most place = record {
  factor = factor_within (number_at stream place) most;
  value_iv = IsBlock-iv_at stream (place + 2);
  token_iv = IsBlock-iv_at stream (place + 6);
  edge_iv = λ i. IsBlock-iv_at stream _;
}
