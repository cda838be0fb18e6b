-- JSON without spaces has no line feed.
use Rattle.std.proofs.Common.{◌≡◌, ℕ, zero, suc, ◌+◌, ◌/◌, ◌%◌, ℤ, pos, negsuc, List, [], ◌∷◌, ◌++◌, Bool, true, false, cond, refl, ◌∙◌, subst, arith}
use Rattle.std.proofs.lemmas.Bool.{and_from, ne_eqb, ltb-false}
use Rattle.std.proofs.lemmas.List.Folds.{list_all-append}
use Rattle.std.specs.Char.{digit_char}
use Rattle.std.specs.Fmt.{decimal, signed_decimal, digit_glyph, digits_onto, digits}
use Rattle.std.specs.Prelude.{nat_lt, ◌==◌, ◌||◌}
use Rattle.json.specs.Print.{escape_letter, escape_byte, escape, quoted}
use Rattle.serde_json.specs.Data.{Num, unsigned, negative, float, Data, null, boolean, number, string, array, object, Items, no_items, item, Members, no_members, member}
use Rattle.serde_json.specs.Written.{number_text, comma_if, compact_text, items_text, members_text}
use Rattle.qe_texts.specs.OneLine.{is_no_feed, is_one_line}

pub joined : (xs ys : List ℕ) → is_one_line xs ≡ true → is_one_line ys ≡ true → is_one_line (xs ++ ys) ≡ true
joined xs ys first second = list_all-append is_no_feed xs ys ∙ and_from _ _ first second

pub no_feed : (byte : ℕ) → (byte ≡ 10 → ⊥) → is_no_feed byte ≡ true
no_feed byte other = rw (ne_eqb byte 10 other) refl

chosen : (b : Bool) (x y : ℕ) → (b ≡ true → is_no_feed x ≡ true) → is_no_feed y ≡ true → is_no_feed (cond b x y) ≡ true
chosen true x y first second = first refl
chosen false x y first second = second

digit_line : (d : ℕ) → is_no_feed (digit_glyph false d) ≡ true
digit_line d = chosen (nat_lt d 10) (48 + d) (87 + d) (λ _. no_feed (48 + d) (λ e. omega arith)) (no_feed (87 + d) (λ e. omega arith))

digits_line : (k n : ℕ) (acc : List ℕ) → is_one_line acc ≡ true → is_one_line (digits_onto k 10 false n acc) ≡ true
digits_line zero n acc line = line
digits_line (suc k) n acc line =
    let more = and_from (is_no_feed (digit_glyph false (n % 10))) (is_one_line acc) (digit_line (n % 10)) line in
    by_test (n / 10 == 0) more (digits_line k (n / 10) (digit_glyph false (n % 10) ∷ acc) more)
  where
    by_test : (b : Bool) → is_one_line (digit_glyph false (n % 10) ∷ acc) ≡ true
        → is_one_line (digits_onto k 10 false (n / 10) (digit_glyph false (n % 10) ∷ acc)) ≡ true
        → is_one_line (cond b (digit_glyph false (n % 10) ∷ acc) (digits_onto k 10 false (n / 10) (digit_glyph false (n % 10) ∷ acc))) ≡ true
    by_test true last more = last
    by_test false last more = more

pub decimal_line : (n : ℕ) → is_one_line (decimal n) ≡ true
unfolding digits
decimal_line n = digits_line 64 n [] refl

signed_line : (z : ℤ) → is_one_line (signed_decimal z) ≡ true
signed_line (pos n) = decimal_line n
signed_line (negsuc n) = decimal_line (suc n)

letter_line : (x : ℕ) → is_no_feed (escape_letter x) ≡ true
letter_line x =
    chosen ((x == 34) || (x == 92)) x _ quote (
    chosen (x == 8) 98 _ (λ _. refl) (
    chosen (x == 12) 102 _ (λ _. refl) (
    chosen (x == 10) 110 _ (λ _. refl) (
    chosen (x == 13) 114 _ (λ _. refl) (
    chosen (x == 9) 116 0 (λ _. refl) refl)))))
  where
    quote : ((x == 34) || (x == 92)) ≡ true → is_no_feed x ≡ true
    quote e = no_feed x (λ is. let wrong : false ≡ true = subst (λ (y : ℕ). ((y == 34) || (y == 92)) ≡ true) is e in cc)

hex_line : (d : ℕ) → is_no_feed (digit_char d) ≡ true
hex_line d = chosen (nat_lt d 10) (48 + d) (87 + d) (λ _. no_feed (48 + d) (λ e. omega arith)) (no_feed (87 + d) (λ e. omega arith))

byte_line : (x : ℕ) → is_one_line (escape_byte x) ≡ true
unfolding escape_byte
byte_line x = outer (nat_lt 0 (escape_letter x)) (inner (nat_lt x 32) refl)
  where
    inner : (b : Bool) → nat_lt x 32 ≡ b
        → is_one_line (cond b (92 ∷ 117 ∷ 48 ∷ 48 ∷ digit_char (x / 16) ∷ digit_char (x % 16) ∷ []) (x ∷ [])) ≡ true
    inner true e = and_from (is_no_feed (digit_char (x / 16))) _ (hex_line (x / 16)) (and_from (is_no_feed (digit_char (x % 16))) true (hex_line (x % 16)) refl)
    inner false e = and_from (is_no_feed x) true (no_feed x (λ is. let past = ltb-false x 32 e in omega arith)) refl

    outer : (b : Bool) → is_one_line (cond (nat_lt x 32) (92 ∷ 117 ∷ 48 ∷ 48 ∷ digit_char (x / 16) ∷ digit_char (x % 16) ∷ []) (x ∷ [])) ≡ true
        → is_one_line (cond b (92 ∷ escape_letter x ∷ []) (cond (nat_lt x 32) (92 ∷ 117 ∷ 48 ∷ 48 ∷ digit_char (x / 16) ∷ digit_char (x % 16) ∷ []) (x ∷ []))) ≡ true
    outer true line = and_from (is_no_feed (escape_letter x)) true (letter_line x) refl
    outer false line = line

escape_line : (text : List ℕ) → is_one_line (escape text) ≡ true
escape_line [] = refl
escape_line (x ∷ text) = joined (escape_byte x) (escape text) (byte_line x) (escape_line text)

quoted_line : (text : List ℕ) → is_one_line (quoted text) ≡ true
quoted_line text = joined (escape text) (34 ∷ []) (escape_line text) refl

number_line : (n : Num) → is_one_line (number_text n) ≡ true
number_line (unsigned n) = decimal_line n
number_line (negative z) = signed_line z
number_line (float x) = refl

comma_line : (later : Bool) → is_one_line (comma_if later) ≡ true
comma_line true = refl
comma_line false = refl

mutual
  pub json_line : (d : Data) → is_one_line (compact_text d) ≡ true
  json_line null = refl
  json_line (boolean true) = refl
  json_line (boolean false) = refl
  json_line (number n) = number_line n
  json_line (string text) = quoted_line text
  json_line (array ds) = items_line false ds
  json_line (object ms) = members_line false ms

  items_line : (later : Bool) (ds : Items) → is_one_line (items_text later ds) ≡ true
  items_line later no_items = refl
  items_line later (item d ds) =
      joined (comma_if later) (compact_text d ++ items_text true ds) (comma_line later)
      (joined (compact_text d) (items_text true ds) (json_line d) (items_line true ds))

  members_line : (later : Bool) (ms : Members) → is_one_line (members_text later ms) ≡ true
  members_line later no_members = refl
  members_line later (member name d ms) =
      joined (comma_if later) (quoted name ++ 58 ∷ (compact_text d ++ members_text true ms)) (comma_line later)
      (joined (quoted name) (58 ∷ (compact_text d ++ members_text true ms)) (quoted_line name)
      (joined (compact_text d) (members_text true ms) (json_line d) (members_line true ms)))
