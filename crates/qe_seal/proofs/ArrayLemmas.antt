-- Arrays that are filled piece by piece.
use Rattle.std.proofs.Common.{◌≡◌, ℕ, ◌+◌, ◌≤◌, List, ◌++◌, length, take, drop, ap, sym, ◌∙◌, arith, length-append}
use Rattle.std.proofs.lemmas.List.{take_all, take_at, append_assoc, length-take-le}

-- the front of the bytes, once a piece is written behind n of them
pub front-write_at : (old new piece : List ℕ) (n : ℕ) → n ≤ length old → new ≡ take n old ++ (piece ++ drop (n + length piece) old)
    → take (n + length piece) new ≡ take n old ++ piece
front-write_at old new piece n within is =
    let rest = drop (n + length piece) old in
    ap (take (n + length piece)) (is ∙ sym (append_assoc (take n old) piece rest))
    ∙ take_at (take n old ++ piece) rest (n + length piece)
    (length-append (take n old) piece ∙ ap (λ k. k + length piece) (length-take-le n old within))

-- two pieces, written one after the other
pub in_two : (zeros one two a b : List ℕ) (n : ℕ) → length a ≡ n → length one ≡ n + length b → length two ≡ n + length b
    → one ≡ take 0 zeros ++ (a ++ drop (0 + length a) zeros) → two ≡ take n one ++ (b ++ drop (n + length b) one) → two ≡ a ++ b
in_two zeros one two a b n long whole again first second =
    sym (take_all (n + length b) two (omega arith)) ∙ front-write_at one two b n (omega arith) second
    ∙ ap (λ front. front ++ b) (ap (λ k. take k one) (omega arith) ∙ front-write_at zeros one a 0 (omega arith) first)

-- three pieces, written one after another
pub in_three : (zeros one two three a b c : List ℕ) (m n : ℕ) → length a ≡ m → m + length b ≡ n
    → length one ≡ n + length c → length two ≡ n + length c → length three ≡ n + length c
    → one ≡ take 0 zeros ++ (a ++ drop (0 + length a) zeros) → two ≡ take m one ++ (b ++ drop (m + length b) one)
    → three ≡ take n two ++ (c ++ drop (n + length c) two) → three ≡ a ++ (b ++ c)
in_three zeros one two three a b c m n long longer whole again more first second third =
    sym (take_all (n + length c) three (omega arith)) ∙ front-write_at two three c n (omega arith) third
    ∙ ap (λ front. front ++ c)
    (ap (λ k. take k two) (sym longer) ∙ front-write_at one two b m (omega arith) second
    ∙ ap (λ front. front ++ b) (ap (λ k. take k one) (omega arith) ∙ front-write_at zeros one a 0 (omega arith) first))
    ∙ append_assoc a b c
