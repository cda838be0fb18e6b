-- Padding, and its removal.
use Rattle.std.proofs.Common.{◌≡◌, ℕ, zero, suc, ◌+◌, ◌-◌, ◌%◌, ◌<◌, ◌≤◌, Bool, true, ◌&&◌, ◌==◌, nat_le, List, [], ◌∷◌, ◌++◌, length, take, drop, replicate, Result, Ok, Err, refl, ap, sym, ◌∙◌, arith, inl, inr, length-append, length-drop, eq-eqb}
use Rattle.std.specs.List.{list_all}
use Rattle.std.proofs.lemmas.Bool.{cases_Bool, and_parts, and_from, le-leb, leb-true, eqb-true, cond-true, cond-false}
use Rattle.std.proofs.lemmas.List.{take_at, drop_at, take-append-drop, length-take-le, length-replicate, get_or-replicate, get_or-append_right}
use Rattle.qe_base.specs.Bytes.{AreBytes}
use Rattle.qe_aes.proofs.ByteLemmas.{AreBytes-nil, AreBytes-cons, AreBytes-append}
use Rattle.qe_seal.specs.declared.cbc.CbcFault.{CbcFault}
use Rattle.qe_seal.specs.declared.cbc.CbcFault.TheVariants.{BadPadding}
use Rattle.qe_seal.specs.Cbc.{padding_length, padded_bytes, last_byte, padding_start, ends_in_padding, unpadded_bytes}

-- copies of a number are all that number
list_all-replicate : (n b : ℕ) → list_all (λ byte. byte == b) (replicate n b) ≡ true
list_all-replicate zero b = refl
list_all-replicate (suc n) b = and_from (b == b) (list_all (λ byte. byte == b) (replicate n b)) (eq-eqb b b refl) (list_all-replicate n b)

-- and nothing else is
replicate-list_all : (xs : List ℕ) (b : ℕ) → list_all (λ byte. byte == b) xs ≡ true → replicate (length xs) b ≡ xs
replicate-list_all [] b all = refl
replicate-list_all (x ∷ xs) b all =
    let parts = and_parts (x == b) (list_all (λ byte. byte == b) xs) all in
    ap (λ y. y ∷ replicate (length xs) b) (sym (eqb-true x b parts.0)) ∙ ap (λ ys. x ∷ ys) (replicate-list_all xs b parts.1)

bytes-replicate : (n b : ℕ) → b < 256 → AreBytes (replicate n b)
bytes-replicate zero b lt = AreBytes-nil
bytes-replicate (suc n) b lt = AreBytes-cons b (replicate n b) lt (bytes-replicate n b lt)

-- padded bytes are bytes
pub bytes-padded_bytes : (plain : List ℕ) → AreBytes plain → AreBytes (padded_bytes plain)
unfolding padded_bytes
bytes-padded_bytes plain bytes =
    AreBytes-append plain (replicate (padding_length plain) (padding_length plain)) bytes
    (bytes-replicate (padding_length plain) (padding_length plain) (omega arith))

-- what is left of bytes that end in b copies of b
unpadded_bytes-at : (xs plain : List ℕ) (b : ℕ) → last_byte xs ≡ b → 1 ≤ b → b ≤ 16
    → drop (length xs - b) xs ≡ replicate b b → take (length xs - b) xs ≡ plain → unpadded_bytes xs ≡ Ok plain
unfolding ends_in_padding unpadded_bytes
unpadded_bytes-at xs plain b last low high copies front =
    let test : ℕ → Bool = λ n. nat_le 1 n && nat_le n 16 && list_all (λ byte. byte == n) (drop (length xs - n) xs) in
    let passes : test b ≡ true =
    and_from (nat_le 1 b && nat_le b 16) (list_all (λ byte. byte == b) (drop (length xs - b) xs))
    (and_from (nat_le 1 b) (nat_le b 16) (le-leb 1 b low) (le-leb b 16 high))
    (ap (list_all (λ byte. byte == b)) copies ∙ list_all-replicate b b)
    in
    cond-true (test (last_byte xs)) (Ok (take (padding_start xs) xs)) (Err BadPadding) (ap test last ∙ passes)
    ∙ ap (λ n. Ok (take (length xs - n) xs)) last ∙ ap Ok front

pub unpadded_bytes-padded_bytes : (plain : List ℕ) → unpadded_bytes (padded_bytes plain) ≡ Ok plain
unfolding padded_bytes
unpadded_bytes-padded_bytes plain =
    let n = padding_length plain in
    let padding = replicate n n in
    let low : 1 ≤ n = omega arith in
    let long : length (plain ++ padding) ≡ length plain + n = length-append plain padding ∙ ap (λ k. length plain + k) (length-replicate n n) in
    let last : last_byte (plain ++ padding) ≡ n =
    get_or-append_right plain padding (length plain) (length (plain ++ padding) - 1) 0 refl (omega arith)
    ∙ get_or-replicate n (length (plain ++ padding) - 1 - length plain) n 0 (omega arith)
    in
    let start : length plain ≡ length (plain ++ padding) - n = omega arith in
    unpadded_bytes-at (plain ++ padding) plain n last low (omega arith) (drop_at plain padding (length (plain ++ padding) - n) start)
    (take_at plain padding (length (plain ++ padding) - n) start)

-- blocks whose padding was removed are what padding makes again
pub padded_bytes-unpadded_bytes : (xs plain : List ℕ) → length xs % 16 ≡ 0 → 0 < length xs → unpadded_bytes xs ≡ Ok plain → padded_bytes plain ≡ xs
unfolding padded_bytes ends_in_padding unpadded_bytes
padded_bytes-unpadded_bytes xs plain blocks some is =
    let b = last_byte xs in
    let copies = list_all (λ byte. byte == b) (drop (padding_start xs) xs) in
    let opened : Result (List ℕ) CbcFault = Ok (take (padding_start xs) xs) in
    elim (cases_Bool (ends_in_padding xs)) [
      | inl passes ↦
          let parts = and_parts (nat_le 1 b && nat_le b 16) copies passes in
          let range = and_parts (nat_le 1 b) (nat_le b 16) parts.0 in
          let low : 1 ≤ b = leb-true 1 b range.0 in
          let high : b ≤ 16 = leb-true b 16 range.1 in
          let front : take (padding_start xs) xs ≡ plain =
          let same : opened ≡ Ok plain = sym (cond-true (ends_in_padding xs) opened (Err BadPadding) passes) ∙ is in cc
          in
          let long : length plain ≡ length xs - b = ap length (sym front) ∙ length-take-le (padding_start xs) xs (omega arith) in
          let count : padding_length plain ≡ b = omega arith in
          let left : length (drop (padding_start xs) xs) ≡ b = length-drop (padding_start xs) xs ∙ omega arith in
          ap (λ n. plain ++ replicate n n) count
          ∙ ap (λ n. plain ++ replicate n b) (sym left)
          ∙ ap (λ ys. plain ++ ys) (replicate-list_all (drop (padding_start xs) xs) b parts.1)
          ∙ ap (λ ys. ys ++ drop (padding_start xs) xs) (sym front)
          ∙ take-append-drop (padding_start xs) xs
      | inr fails ↦
          let same : Err BadPadding ≡ Ok plain = sym (cond-false (ends_in_padding xs) opened (Err BadPadding) fails) ∙ is in cc
    ]
