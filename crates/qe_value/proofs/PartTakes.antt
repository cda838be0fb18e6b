-- A piece that is read is spelled so.
use Rattle.std.proofs.Common.{◌≡◌, ℕ, zero, suc, ◌+◌, ◌-◌, ◌^◌, ◌<◌, ◌≤◌, Bool, true, not, ◌||◌, eqb, leb, ltb, List, [], ◌∷◌, ◌++◌, length, get_or, take, drop, drop-cons, Result, Ok, refl, sym, ap, subst, ◌∙◌, append_assoc, arith}
use Rattle.std.specs.Int.{w32, to_le_bytes, from_le_bytes}
use Rattle.std.specs.Str.{is_utf8}
use Rattle.std.proofs.lemmas.Bool.{leb-false, leb-true, ltb-false, eqb-true, not-false, or_parts}
use Rattle.std.proofs.lemmas.List.{take-append-drop, length-take, length-drop}
use Rattle.std.proofs.lemmas.Nat.{le_bytes_4}
use Rattle.qe_value.specs.declared.fault.BsonFault.{BsonFault}
use Rattle.qe_value.specs.declared.fault.BsonKind.TheVariants.{LengthWrong, NoTerminator, NotUtf8, BadBool}
use Rattle.qe_value.specs.Reading.{unless, is_wrong, fixed_at, count_at, string_at, binary_at, bool_at, frame_at}
use Rattle.qe_value.specs.Spelling.{string, binary, flag}
use Rattle.qe_base.specs.Bytes.{AreBytes}
use Rattle.qe_value.proofs.ReaderTools.{AreBytes-drop, AreBytes-take, bind_ok, unless_ok, ok_is, Takes-cut, fixed_takes}

-- a length that is read, and what it promises
pub record Counts (least extra : ℕ) (bytes : List ℕ) (x : ℕ × List ℕ) : Type 0 where
  pub parts : bytes ≡ to_le_bytes w32 x.0 ++ x.1
  pub rest_fits : AreBytes x.1
  pub enough : least ≤ x.0
  pub positive : x.0 < 2 ^ 31
  pub within : x.0 + extra < length x.1 + 4

pub count_takes : (least extra end : ℕ) (bytes : List ℕ) (x : ℕ × List ℕ) → AreBytes bytes → count_at least extra end bytes ≡ Ok x → Counts least extra bytes x
unfolding count_at
count_takes least extra end bytes x fits e =
    let n : ℕ = from_le_bytes w32 (take 4 bytes) in
    let u = unless_ok (leb (length bytes) 4) end bytes LengthWrong (unless (is_wrong least extra bytes n) end bytes LengthWrong (Ok (n, drop 4 bytes))) x e in
    let v = unless_ok (is_wrong least extra bytes n) end bytes LengthWrong (Ok (n, drop 4 bytes)) x u.1 in
    let right = or_parts (ltb n least) (leb (2 ^ 31) n || leb (length bytes) (n + extra)) v.0 in
    let short = or_parts (leb (2 ^ 31) n) (leb (length bytes) (n + extra)) right.1 in
    let long : 4 < length bytes = leb-false _ _ u.0 in
    let len : length (take 4 bytes) ≡ 4 = omega (arith, length-take 4 bytes) in
    let front : to_le_bytes w32 n ≡ take 4 bytes = le_bytes_4 (take 4 bytes) n len (AreBytes-take 4 bytes fits) refl in
    let room : n + extra < length bytes = leb-false _ _ short.1 in
    let made : Counts least extra bytes (n, drop 4 bytes) = record {
      parts = sym (take-append-drop 4 bytes) ∙ ap (λ (f : List ℕ). f ++ drop 4 bytes) (sym front);
      rest_fits = AreBytes-drop 4 bytes fits;
      enough = ltb-false _ _ right.0;
      positive = leb-false _ _ short.0;
      within = omega (arith, length-drop 4 bytes);
    } in
    subst (λ (y : ℕ × List ℕ). Counts least extra bytes y) (ok_is (n, drop 4 bytes) x v.1) made

pub string_takes : (end : ℕ) (bytes : List ℕ) (x : List ℕ × List ℕ) → AreBytes bytes → string_at end bytes ≡ Ok x → (bytes ≡ string x.0 ++ x.1) × AreBytes x.1 × (is_utf8 x.0 ≡ true) × (length x.0 + 1 < 2 ^ 31)
unfolding string_at
string_takes end bytes x fits e =
    let next : ℕ × List ℕ → Result (List ℕ × List ℕ) BsonFault = λ n. unless (not (eqb (get_or n.1 (n.0 - 1) 0) 0)) end bytes NoTerminator (unless (not (is_utf8 (take (n.0 - 1) n.1))) end bytes NotUtf8 (Ok (take (n.0 - 1) n.1, drop n.0 n.1))) in
    let b = bind_ok (count_at 1 4 end bytes) next x e in
    let n = b.0 in
    let counted = count_takes 1 4 end bytes n fits b.1 in
    let u = unless_ok (not (eqb (get_or n.1 (n.0 - 1) 0) 0)) end bytes NoTerminator (unless (not (is_utf8 (take (n.0 - 1) n.1))) end bytes NotUtf8 (Ok (take (n.0 - 1) n.1, drop n.0 n.1))) x b.2 in
    let v = unless_ok (not (is_utf8 (take (n.0 - 1) n.1))) end bytes NotUtf8 (Ok (take (n.0 - 1) n.1, drop n.0 n.1)) x u.1 in
    let last : get_or n.1 (n.0 - 1) 0 ≡ 0 = eqb-true _ _ (not-false _ u.0) in
    let within : n.0 - 1 < length n.1 = omega (arith, counted.within, counted.enough) in
    let one_more : suc (n.0 - 1) ≡ n.0 = omega (arith, counted.enough) in
    let text : List ℕ = take (n.0 - 1) n.1 in
    let len : length text + 1 ≡ n.0 = omega (arith, length-take (n.0 - 1) n.1, counted.enough) in
    let behind : drop (n.0 - 1) n.1 ≡ 0 ∷ drop n.0 n.1 = rw (drop-cons n.1 (n.0 - 1) 0 within, last, one_more) refl in
    let inside : n.1 ≡ text ++ (0 ∷ drop n.0 n.1) = sym (take-append-drop (n.0 - 1) n.1) ∙ ap (λ (r : List ℕ). text ++ r) behind in
    let regrouped : text ++ (0 ∷ drop n.0 n.1) ≡ (text ++ (0 ∷ [])) ++ drop n.0 n.1 = sym (append_assoc text (0 ∷ []) (drop n.0 n.1)) in
    let whole : bytes ≡ string text ++ drop n.0 n.1 =
    counted.parts ∙ ap (λ (r : List ℕ). to_le_bytes w32 n.0 ++ r) (inside ∙ regrouped) ∙ sym (append_assoc (to_le_bytes w32 n.0) (text ++ (0 ∷ [])) (drop n.0 n.1)) ∙ ap (λ (k : ℕ). (to_le_bytes w32 k ++ (text ++ (0 ∷ []))) ++ drop n.0 n.1) (sym len) in
    subst (λ (y : List ℕ × List ℕ). (bytes ≡ string y.0 ++ y.1) × AreBytes y.1 × (is_utf8 y.0 ≡ true) × (length y.0 + 1 < 2 ^ 31)) (ok_is (text, drop n.0 n.1) x v.1)
    (whole, AreBytes-drop n.0 n.1 counted.rest_fits, not-false _ v.0, omega (arith, counted.positive))

-- the first byte of a list that has one
cons_first : (bytes : List ℕ) → 0 < length bytes → bytes ≡ get_or bytes 0 0 ∷ drop 1 bytes
cons_first [] more = absurd (omega arith)
cons_first (b ∷ bytes) more = refl

pub binary_takes : (end : ℕ) (bytes : List ℕ) (x : (ℕ × List ℕ) × List ℕ) → AreBytes bytes → binary_at end bytes ≡ Ok x → (bytes ≡ binary x.0.0 x.0.1 ++ x.1) × AreBytes x.1 × (length x.0.1 < 2 ^ 31)
unfolding binary_at
binary_takes end bytes x fits e =
    let next : ℕ × List ℕ → Result ((ℕ × List ℕ) × List ℕ) BsonFault = λ n. Ok ((get_or n.1 0 0, take n.0 (drop 1 n.1)), drop n.0 (drop 1 n.1)) in
    let b = bind_ok (count_at 0 5 end bytes) next x e in
    let n = b.0 in
    let counted = count_takes 0 5 end bytes n fits b.1 in
    let some : 0 < length n.1 = omega (arith, counted.within) in
    let front : List ℕ = take n.0 (drop 1 n.1) in
    let rest : List ℕ = drop n.0 (drop 1 n.1) in
    let len : length front ≡ n.0 = omega (arith, length-take n.0 (drop 1 n.1), length-drop 1 n.1, counted.within) in
    let inside : n.1 ≡ (get_or n.1 0 0 ∷ front) ++ rest = cons_first n.1 some ∙ ap (λ (r : List ℕ). get_or n.1 0 0 ∷ r) (sym (take-append-drop n.0 (drop 1 n.1))) in
    let whole : bytes ≡ binary (get_or n.1 0 0) front ++ rest =
    counted.parts ∙ ap (λ (r : List ℕ). to_le_bytes w32 n.0 ++ r) inside ∙ sym (append_assoc (to_le_bytes w32 n.0) (get_or n.1 0 0 ∷ front) rest) ∙ ap (λ (k : ℕ). (to_le_bytes w32 k ++ (get_or n.1 0 0 ∷ front)) ++ rest) (sym len) in
    subst (λ (y : (ℕ × List ℕ) × List ℕ). (bytes ≡ binary y.0.0 y.0.1 ++ y.1) × AreBytes y.1 × (length y.0.1 < 2 ^ 31)) (ok_is ((get_or n.1 0 0, front), rest) x b.2) (whole, AreBytes-drop n.0 (drop 1 n.1) (AreBytes-drop 1 n.1 counted.rest_fits), omega (arith, len, counted.positive))

one_byte : (t : List ℕ) → length t ≡ 1 → t ≡ get_or t 0 0 ∷ []
one_byte [] len = absurd (omega arith)
one_byte (b ∷ []) len = refl
one_byte (b ∷ (c ∷ t)) len = absurd (omega arith)

flag_of : (n : ℕ) → n ≤ 1 → flag (eqb n 1) ≡ n
flag_of zero le = refl
flag_of (suc zero) le = refl
flag_of (suc (suc n)) le = absurd (omega arith)

pub bool_takes : (end : ℕ) (bytes : List ℕ) (x : Bool × List ℕ) → AreBytes bytes → bool_at end bytes ≡ Ok x → (bytes ≡ (flag x.0 ∷ []) ++ x.1) × AreBytes x.1
unfolding bool_at
bool_takes end bytes x fits e =
    let next : List ℕ × List ℕ → Result (Bool × List ℕ) BsonFault = λ one. unless (not (leb (get_or one.0 0 0) 1)) end bytes BadBool (Ok (eqb (get_or one.0 0 0) 1, one.1)) in
    let b = bind_ok (fixed_at 1 end bytes) next x e in
    let one = b.0 in
    let t = fixed_takes 1 end bytes one fits b.1 in
    let u = unless_ok (not (leb (get_or one.0 0 0) 1)) end bytes BadBool (Ok (eqb (get_or one.0 0 0) 1, one.1)) x b.2 in
    let small : get_or one.0 0 0 ≤ 1 = leb-true _ _ (not-false _ u.0) in
    let is_flag : one.0 ≡ flag (eqb (get_or one.0 0 0) 1) ∷ [] = one_byte one.0 t.1 ∙ ap (λ (k : ℕ). k ∷ []) (sym (flag_of (get_or one.0 0 0) small)) in
    subst (λ (y : Bool × List ℕ). (bytes ≡ (flag y.0 ∷ []) ++ y.1) × AreBytes y.1) (ok_is (eqb (get_or one.0 0 0) 1, one.1) x u.1) (t.0.parts ∙ ap (λ (f : List ℕ). f ++ one.1) is_flag, t.0.rest_fits)

-- an inner document's bytes behind its length, and how many there are
pub record Frames (bytes : List ℕ) (x : List ℕ × List ℕ) : Type 0 where
  pub parts : bytes ≡ (to_le_bytes w32 (length x.0 + 4) ++ x.0) ++ x.1
  pub inside_fits : AreBytes x.0
  pub rest_fits : AreBytes x.1
  pub positive : length x.0 + 4 < 2 ^ 31

pub frame_takes : (end : ℕ) (bytes : List ℕ) (x : List ℕ × List ℕ) → AreBytes bytes → frame_at end bytes ≡ Ok x → Frames bytes x
unfolding frame_at
frame_takes end bytes x fits e =
    let next : ℕ × List ℕ → Result (List ℕ × List ℕ) BsonFault = λ n. Ok (take (n.0 - 4) n.1, drop (n.0 - 4) n.1) in
    let b = bind_ok (count_at 5 0 end bytes) next x e in
    let n = b.0 in
    let counted = count_takes 5 0 end bytes n fits b.1 in
    let cut = Takes-cut (n.0 - 4) n.1 counted.rest_fits in
    let len : length (take (n.0 - 4) n.1) + 4 ≡ n.0 = omega (arith, length-take (n.0 - 4) n.1, counted.within, counted.enough) in
    let made : Frames bytes (take (n.0 - 4) n.1, drop (n.0 - 4) n.1) = record {
      parts = counted.parts ∙ ap (λ (r : List ℕ). to_le_bytes w32 n.0 ++ r) cut.parts ∙ sym (append_assoc (to_le_bytes w32 n.0) (take (n.0 - 4) n.1) (drop (n.0 - 4) n.1)) ∙ ap (λ (k : ℕ). (to_le_bytes w32 k ++ take (n.0 - 4) n.1) ++ drop (n.0 - 4) n.1) (sym len);
      inside_fits = cut.text_fits;
      rest_fits = cut.rest_fits;
      positive = omega (arith, counted.positive);
    } in
    subst (λ (y : List ℕ × List ℕ). Frames bytes y) (ok_is (take (n.0 - 4) n.1, drop (n.0 - 4) n.1) x b.2) made
