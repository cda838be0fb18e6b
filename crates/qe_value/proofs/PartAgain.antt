-- A piece that is spelled is read again, whatever follows it before the document's last byte.
use Rattle.std.proofs.Common.{◌≡◌, ℕ, zero, suc, ◌+◌, ◌-◌, ◌^◌, ◌<◌, ◌≤◌, Bool, true, false, leb, List, [], ◌∷◌, ◌++◌, length, get_or, take, drop, Ok, refl, sym, ap, ◌∙◌, append_assoc, arith}
use Rattle.std.specs.Int.{w32, to_le_bytes, from_le_bytes}
use Rattle.std.specs.Str.{is_utf8}
use Rattle.std.proofs.lemmas.Bool.{lt-leb, le-ltb, or_from}
use Rattle.std.proofs.lemmas.List.{take_at, drop_at, length-append}
use Rattle.std.proofs.lemmas.Nat.{from_le_bytes-to_le_bytes_4}
use Rattle.qe_value.specs.Reading.{is_wrong, count_at, string_at, binary_at, bool_at, frame_at}
use Rattle.qe_value.specs.Spelling.{string, binary, flag}
use Rattle.qe_value.proofs.ReaderTools.{fixed_again}

-- the four bytes as a variable, so that they stay as they are
count_again_of : (least extra end n : ℕ) (four rest : List ℕ) → length four ≡ 4 → from_le_bytes w32 four ≡ n → least ≤ n → n < 2 ^ 31 → n + extra < length rest + 4 → 0 < length rest
    → count_at least extra end (four ++ rest) ≡ Ok (n, rest)
unfolding count_at
count_again_of least extra end n four rest len value enough positive within some =
    let total : length (four ++ rest) ≡ 4 + length rest = length-append four rest ∙ ap (λ (k : ℕ). k + length rest) len in
    let long : leb (length (four ++ rest)) 4 ≡ false = lt-leb _ _ (omega (arith, total)) in
    let right : is_wrong least extra (four ++ rest) n ≡ false =
    or_from _ _ (le-ltb n least enough) (or_from _ _ (lt-leb (2 ^ 31) n positive) (lt-leb (length (four ++ rest)) (n + extra) (omega (arith, total)))) in
    rw (long, take_at four rest 4 len, drop_at four rest 4 len, value, right) refl

pub count_again : (least extra end n : ℕ) (rest : List ℕ) → least ≤ n → n < 2 ^ 31 → n + extra < length rest + 4 → 0 < length rest
    → count_at least extra end (to_le_bytes w32 n ++ rest) ≡ Ok (n, rest)
count_again least extra end n rest enough positive within some =
    count_again_of least extra end n (to_le_bytes w32 n) rest refl (from_le_bytes-to_le_bytes_4 n (omega arith)) enough positive within some

get_or_at : (text rest : List ℕ) (b n : ℕ) → length text ≡ n → get_or (text ++ (b ∷ rest)) n 0 ≡ b
get_or_at [] rest b n len = rw (← len) refl
get_or_at (t ∷ text) rest b zero len = absurd (omega arith)
get_or_at (t ∷ text) rest b (suc n) len = get_or_at text rest b n (omega arith)

pub string_again : (end : ℕ) (text rest : List ℕ) → is_utf8 text ≡ true → length text + 1 < 2 ^ 31 → 0 < length rest → string_at end (string text ++ rest) ≡ Ok (text, rest)
unfolding string_at
string_again end text rest utf8 short more =
    let inside : List ℕ = text ++ (0 ∷ rest) in
    let regrouped : string text ++ rest ≡ to_le_bytes w32 (length text + 1) ++ inside =
    append_assoc (to_le_bytes w32 (length text + 1)) (text ++ (0 ∷ [])) rest ∙ ap (λ (r : List ℕ). to_le_bytes w32 (length text + 1) ++ r) (append_assoc text (0 ∷ []) rest) in
    let counted : count_at 1 4 end (to_le_bytes w32 (length text + 1) ++ inside) ≡ Ok (length text + 1, inside) =
    count_again 1 4 end (length text + 1) inside (omega arith) short (omega (arith, length-append text (0 ∷ rest))) (omega (arith, length-append text (0 ∷ rest))) in
    let before : length text + 1 - 1 ≡ length text = omega arith in
    let front : take (length text) inside ≡ text = take_at text (0 ∷ rest) (length text) refl in
    let behind : drop (length text + 1) inside ≡ rest =
    ap (λ (t : List ℕ). drop (length text + 1) t) (sym (append_assoc text (0 ∷ []) rest)) ∙ drop_at (text ++ (0 ∷ [])) rest (length text + 1) (length-append text (0 ∷ [])) in
    ap (λ (bytes : List ℕ). string_at end bytes) regrouped ∙ rw (counted, before, get_or_at text rest 0 (length text) refl, front, utf8, behind) refl

pub binary_again : (end subtype : ℕ) (text rest : List ℕ) → length text < 2 ^ 31 → 0 < length rest → binary_at end (binary subtype text ++ rest) ≡ Ok ((subtype, text), rest)
unfolding binary_at
binary_again end subtype text rest short more =
    let inside : List ℕ = subtype ∷ (text ++ rest) in
    let regrouped : binary subtype text ++ rest ≡ to_le_bytes w32 (length text) ++ inside = append_assoc (to_le_bytes w32 (length text)) (subtype ∷ text) rest in
    let counted : count_at 0 5 end (to_le_bytes w32 (length text) ++ inside) ≡ Ok (length text, inside) =
    count_again 0 5 end (length text) inside (omega arith) short (omega (arith, length-append text rest)) (omega arith) in
    ap (λ (bytes : List ℕ). binary_at end bytes) regrouped ∙ rw (counted, take_at text rest (length text) refl, drop_at text rest (length text) refl) refl

pub bool_again : (end : ℕ) (b : Bool) (rest : List ℕ) → 0 < length rest → bool_at end ((flag b ∷ []) ++ rest) ≡ Ok (b, rest)
unfolding bool_at
bool_again end true rest more = rw (fixed_again 1 end (1 ∷ []) rest refl more) refl
bool_again end false rest more = rw (fixed_again 1 end (0 ∷ []) rest refl more) refl

pub frame_again : (end : ℕ) (inside rest : List ℕ) → 0 < length inside → length inside + 4 < 2 ^ 31 → 0 < length rest → frame_at end ((to_le_bytes w32 (length inside + 4) ++ inside) ++ rest) ≡ Ok (inside, rest)
unfolding frame_at
frame_again end inside rest some short more =
    let counted : count_at 5 0 end (to_le_bytes w32 (length inside + 4) ++ (inside ++ rest)) ≡ Ok (length inside + 4, inside ++ rest) =
    count_again 5 0 end (length inside + 4) (inside ++ rest) (omega arith) short (omega (arith, length-append inside rest)) (omega (arith, length-append inside rest)) in
    let four : length inside + 4 - 4 ≡ length inside = omega arith in
    ap (λ (bytes : List ℕ). frame_at end bytes) (append_assoc (to_le_bytes w32 (length inside + 4)) inside rest) ∙ rw (counted, four, take_at inside rest (length inside) refl, drop_at inside rest (length inside) refl) refl
