-- Words of a stream, as bytes and as IVs.
use Rattle.std.proofs.Common.{◌≡◌, ◌<◌, ◌+◌, ◌-◌, ℕ, zero, suc, List, [], ◌∷◌, ◌++◌, get_or, refl, sym, ap, ◌∙◌, append_assoc, arith}
use Rattle.std.specs.Int.{w32, to_le_bytes}
use Rattle.qe_encodes.specs.Draws.{Stream, draw_at, word_bytes, iv_at, ivs_from}

-- an array of the bytes of four words
words_listed : (x y z w : ℕ) (a b c d : List ℕ) → a ≡ to_le_bytes w32 x → b ≡ to_le_bytes w32 y → c ≡ to_le_bytes w32 z → d ≡ to_le_bytes w32 w
    → get_or a 0 0 ∷ get_or a 1 0 ∷ get_or a 2 0 ∷ get_or a 3 0 ∷ get_or b 0 0 ∷ get_or b 1 0 ∷ get_or b 2 0 ∷ get_or b 3 0 ∷ get_or c 0 0 ∷ get_or c 1 0
    ∷ get_or c 2 0 ∷ get_or c 3 0 ∷ get_or d 0 0 ∷ get_or d 1 0 ∷ get_or d 2 0 ∷ get_or d 3 0 ∷ []
    ≡ to_le_bytes w32 x ++ (to_le_bytes w32 y ++ (to_le_bytes w32 z ++ to_le_bytes w32 w))
words_listed x y z w a b c d is_a is_b is_c is_d = rw (is_a, is_b, is_c, is_d) refl

pub iv_listed : (stream : Stream) (place : ℕ) (a b c d : List ℕ) → a ≡ word_bytes stream place → b ≡ word_bytes stream (place + 1)
    → c ≡ word_bytes stream (place + 2) → d ≡ word_bytes stream (place + 3)
    → get_or a 0 0 ∷ get_or a 1 0 ∷ get_or a 2 0 ∷ get_or a 3 0 ∷ get_or b 0 0 ∷ get_or b 1 0 ∷ get_or b 2 0 ∷ get_or b 3 0 ∷ get_or c 0 0 ∷ get_or c 1 0
    ∷ get_or c 2 0 ∷ get_or c 3 0 ∷ get_or d 0 0 ∷ get_or d 1 0 ∷ get_or d 2 0 ∷ get_or d 3 0 ∷ []
    ≡ iv_at stream place
unfolding iv_at
iv_listed stream place a b c d is_a is_b is_c is_d =
    words_listed (draw_at stream place) (draw_at stream (place + 1)) (draw_at stream (place + 2)) (draw_at stream (place + 3)) a b c d is_a is_b is_c is_d

-- the first of some IVs, and those behind it
pub ivs_more : (stream : Stream) (count place : ℕ) → 0 < count → ivs_from stream count place ≡ iv_at stream place ∷ ivs_from stream (count - 1) (place + 4)
ivs_more stream zero place some = absurd (omega arith)
ivs_more stream (suc count) place some = let one : suc count - 1 ≡ count = omega arith in rw one refl

-- one IV more
pub ivs_next : (stream : Stream) (made whole : List (List ℕ)) (count done place : ℕ) → done < count → made ++ ivs_from stream (count - done) place ≡ whole
    → (made ++ iv_at stream place ∷ []) ++ ivs_from stream (count - (done + 1)) (place + 4) ≡ whole
ivs_next stream made whole count done place less so_far =
    let rest = ivs_from stream (count - (done + 1)) (place + 4) in
    let left : count - done - 1 ≡ count - (done + 1) = omega arith in
    let more : ivs_from stream (count - done) place ≡ iv_at stream place ∷ rest =
    ivs_more stream (count - done) place (omega arith) ∙ ap (λ n. iv_at stream place ∷ ivs_from stream n (place + 4)) left in
    append_assoc made (iv_at stream place ∷ []) rest ∙ ap (λ after. made ++ after) (sym more) ∙ so_far
