-- Names of elements: those of tables, and the paths of fields.
use Rattle.std.proofs.Common.{◌≡◌, ℕ, zero, suc, ◌<◌, ◌≤◌, ◌==◌, ◌&&◌, ◌||◌, nat_lt, Bool, true, false, List, [], ◌∷◌, length, refl, sym, ap, ◌∙◌, arith}
use Rattle.std.specs.Prelude.{bytes_eq, codes, nat_le, slice_index}
use Rattle.std.specs.Char.{is_ascii_alphabetic, is_ascii_alphanumeric}
use Rattle.std.specs.Int.{is_in_range}
use Rattle.std.specs.List.{list_all, list_any}
use Rattle.std.specs.Str.{IsAscii}
use Rattle.std.proofs.lemmas.Bool.{and_parts, eqb-true, false_from_ne_true, false≢true, leb-true, ltb-true, ne_eqb, or_from}
use Rattle.std.proofs.lemmas.Slice.Eq.{bytes_eq-Decides}
use Rattle.std.proofs.lemmas.Str.{IsUtf8-from_ascii, is_utf8-from_IsUtf8}
use Rattle.qe_base.specs.Bytes.{AreBytes}
use Rattle.qe_value.specs.Spelling.{IsName}
use Rattle.qe_field.specs.Names.{is_path, is_reserved, is_word}
use Rattle.qe_held.proofs.BytesLemmas.{ascii_bytes}

-- a name that an element may have, and whose bytes are bytes
pub record IsSoundName (text : List ℕ) : Type 0 where
  pub name : IsName text
  pub bytes : AreBytes text

-- each byte is ASCII, and none is 0
abbrev AreLetters : List ℕ → Type 0
AreLetters [] = Unit {0}
AreLetters (byte ∷ text) = ((0 < byte) × (byte < 128)) × AreLetters text

letters_ascii : (text : List ℕ) → AreLetters text → IsAscii text
letters_ascii [] are i = omega arith
letters_ascii (byte ∷ text) are zero = are.0.1
letters_ascii (byte ∷ text) are (suc i) = letters_ascii text are.1 i

letters_some : (text : List ℕ) → AreLetters text → list_any (λ b. b == 0) text ≡ false
letters_some [] are = refl
letters_some (byte ∷ text) are =
    let some = are.0.0 in
    or_from (byte == 0) (list_any (λ b. b == 0) text) (ne_eqb byte 0 (λ is. absurd (omega (arith, some, is)))) (letters_some text are.1)

letters_sound : (text : List ℕ) → AreLetters text → IsSoundName text
letters_sound text are =
    let ascii = letters_ascii text are in
    record { name = record { utf8 = is_utf8-from_IsUtf8 text (IsUtf8-from_ascii text ascii); no_zero = letters_some text are }; bytes = ascii_bytes text ascii }

-- a name that stands in a table
tested : (text : List ℕ) → list_all (λ byte. nat_lt 0 byte && nat_lt byte 128) text ≡ true → AreLetters text
tested [] is = tt
tested (byte ∷ text) is =
    let parts = and_parts (nat_lt 0 byte && nat_lt byte 128) (list_all (λ byte. nat_lt 0 byte && nat_lt byte 128) text) is in
    let both = and_parts (nat_lt 0 byte) (nat_lt byte 128) parts.0 in
    ((ltb-true 0 byte both.0, ltb-true byte 128 both.1), tested text parts.1)

pub known_name : (text : List ℕ) → list_all (λ byte. nat_lt 0 byte && nat_lt byte 128) text ≡ true → IsSoundName text
known_name text is = letters_sound text (tested text is)

-- a path
in_range : (low high c : ℕ) → is_in_range low high c ≡ true → (low ≤ c) × (c ≤ high)
in_range low high c is = let parts = and_parts (nat_le low c) (nat_le c high) is in (leb-true low c parts.0, leb-true c high parts.1)

letter : (c : ℕ) → is_ascii_alphanumeric c ≡ true → (0 < c) × (c < 128)
letter c is = by_tests (is_in_range 48 57 c) (is_in_range 65 90 c) (is_in_range 97 122 c) (in_range 48 57 c) (in_range 65 90 c) (in_range 97 122 c) is
  where
    by_tests : (digit upper lower : Bool) → (digit ≡ true → (48 ≤ c) × (c ≤ 57)) → (upper ≡ true → (65 ≤ c) × (c ≤ 90)) → (lower ≡ true → (97 ≤ c) × (c ≤ 122))
        → ((digit || upper) || lower) ≡ true → (0 < c) × (c < 128)
    by_tests true upper lower of_digit of_upper of_lower is = let of = of_digit refl in (omega (arith, of.0), omega (arith, of.1))
    by_tests false true lower of_digit of_upper of_lower is = let of = of_upper refl in (omega (arith, of.0), omega (arith, of.1))
    by_tests false false true of_digit of_upper of_lower is = let of = of_lower refl in (omega (arith, of.0), omega (arith, of.1))
    by_tests false false false of_digit of_upper of_lower is = absurd cc

word_letters : (text : List ℕ) → is_word text ≡ true → AreLetters text
word_letters [] is = tt
word_letters (byte ∷ text) is =
    let parts = and_parts (is_ascii_alphanumeric byte || byte == 95) (is_word text) is in
    (by_tests (is_ascii_alphanumeric byte) (byte == 95) (letter byte) (eqb-true byte 95) parts.0, word_letters text parts.1)
  where
    by_tests : (word line : Bool) → (word ≡ true → (0 < byte) × (byte < 128)) → (line ≡ true → byte ≡ 95) → (word || line) ≡ true → (0 < byte) × (byte < 128)
    by_tests true line of_word of_line is = of_word refl
    by_tests false true of_word of_line is = let same = of_line refl in (omega (arith, same), omega (arith, same))
    by_tests false false of_word of_line is = absurd cc

first_letter : (c : ℕ) → is_ascii_alphabetic c ≡ true → ((c == 36) ≡ false) × ((c == 95) ≡ false)
first_letter c is = by_tests (is_in_range 65 90 c) (is_in_range 97 122 c) (in_range 65 90 c) (in_range 97 122 c) is
  where
    by_tests : (upper lower : Bool) → (upper ≡ true → (65 ≤ c) × (c ≤ 90)) → (lower ≡ true → (97 ≤ c) × (c ≤ 122)) → (upper || lower) ≡ true
        → ((c == 36) ≡ false) × ((c == 95) ≡ false)
    by_tests true lower of_upper of_lower is =
        let of = of_upper refl in
        (ne_eqb c 36 (λ same. absurd (omega (arith, of.0, same))), ne_eqb c 95 (λ same. absurd (omega (arith, of.1, same))))
    by_tests false true of_upper of_lower is =
        let of = of_lower refl in
        (ne_eqb c 36 (λ same. absurd (omega (arith, of.0, same))), ne_eqb c 95 (λ same. absurd (omega (arith, of.0, same))))
    by_tests false false of_upper of_lower is = absurd cc

-- a path is a name, which isn't reserved and not the id's
pub record IsSoundPath (path : List ℕ) : Type 0 where
  pub sound : IsSoundName path
  pub free : is_reserved path ≡ false
  pub other : bytes_eq path (codes "_id") ≡ false

pub path_sound : (path : List ℕ) → is_path path ≡ true → IsSoundPath path
path_sound path is =
    let parts = and_parts (nat_le (length path) 64 && is_ascii_alphabetic (slice_index path 0)) (is_word path) is in
    let first = first_letter (slice_index path 0) (and_parts (nat_le (length path) 64) (is_ascii_alphabetic (slice_index path 0)) parts.0).1 in
    record {
      sound = letters_sound path (word_letters path parts.1);
      free = rw (first.0, first.1) refl;
      other = false_from_ne_true (bytes_eq path (codes "_id")) (λ same.
          let begins : slice_index path 0 ≡ 95 = ap (λ (text : List ℕ). slice_index text 0) ((bytes_eq-Decides path (codes "_id")).0 same) in
          let not_so : (slice_index path 0 == 95) ≡ true = ap (λ n. n == 95) begins in
          false≢true (sym first.1 ∙ not_so));
    }
