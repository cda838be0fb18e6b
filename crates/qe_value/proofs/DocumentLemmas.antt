-- A whole document: what is read is spelled so, and what is spelled so is read.
use Rattle.std.proofs.Common.{◌≡◌, ℕ, ◌+◌, ◌-◌, ◌^◌, ◌≤◌, false, ◌||◌, leb, ltb, List, [], ◌∷◌, ◌++◌, length, map, take, drop, Result, Ok, Err, refl, sym, ap, subst, ◌∙◌, append_assoc, arith, inl, inr}
use Rattle.std.specs.Prelude.{IfOk}
use Rattle.std.specs.Int.{w32, to_le_bytes, from_le_bytes}
use Rattle.qe_base.specs.Answers.{Answers}
use Rattle.qe_value.specs.Faults.{bson_refusal}
use Rattle.std.proofs.Math.Seq.{take-add}
use Rattle.std.proofs.lemmas.Bool.{ltb-false, le-ltb, lt-leb, or_parts, or_from}
use Rattle.std.proofs.lemmas.List.{append-nil, take_at, drop_at, take-append-drop, length-append, length-take, length-drop}
use Rattle.std.proofs.lemmas.Nat.{le_bytes_4, from_le_bytes-to_le_bytes_4}
use Rattle.qe_value.specs.declared.fault.BsonFault.{BsonFault}
use Rattle.qe_value.specs.declared.fault.EncodeFault.{EncodeFault}
use Rattle.qe_value.specs.declared.value.Plain.{Plain}
use Rattle.qe_value.specs.Reading.{◌>>=◌, fields_in, length_at, document_at}
use Rattle.qe_value.specs.Spelling.{spelled_field, fields_bytes, document_bytes, IsDocument, Begins}
use Rattle.qe_value.proofs.LevelLemmas.{level_takes, level_again}
use Rattle.qe_base.specs.Bytes.{AreBytes}
use Rattle.qe_value.proofs.ReaderTools.{AreBytes-take, AreBytes-drop, bind_ok, ok_is, chosen}

-- the outermost length, and what it promises
record Long (bytes : List ℕ) (n : ℕ) : Type 0 where
  is : from_le_bytes w32 (take 4 bytes) ≡ n
  some : 4 ≤ length bytes
  least : 5 ≤ n
  most : n ≤ 16777216
  within : n ≤ length bytes

length_takes : (bytes : List ℕ) (n : ℕ) → length_at bytes ≡ Ok n → Long bytes n
unfolding length_at
length_takes bytes n e =
    let m : ℕ = from_le_bytes w32 (take 4 bytes) in
    elim (chosen (ltb (length bytes) 4) _ _ (Ok n) e) [
      | inl h ↦ absurd (let wrong = h.1 in cc)
      | inr a ↦
          elim (chosen (ltb m 5 || leb (2 ^ 31) m) _ _ (Ok n) a.1) [
            | inl h ↦ absurd (let wrong = h.1 in cc)
            | inr b ↦
                elim (chosen (ltb 16777216 m) _ _ (Ok n) b.1) [
                  | inl h ↦ absurd (let wrong = h.1 in cc)
                  | inr c ↦
                      elim (chosen (ltb (length bytes) m) _ _ (Ok n) c.1) [
                        | inl h ↦ absurd (let wrong = h.1 in cc)
                        | inr d ↦
                            let made : Long bytes m = record { is = refl; some = ltb-false _ _ a.0; least = ltb-false _ _ (or_parts _ _ b.0).0; most = ltb-false _ _ c.0; within = ltb-false _ _ d.0 } in
                            subst (λ (k : ℕ). Long bytes k) (ok_is m n d.1) made
                      ]
                ]
          ]
    ]

-- what is read begins the bytes
pub document_takes : (bytes : List ℕ) (x : List (List ℕ × Plain) × ℕ) → AreBytes bytes → document_at bytes ≡ Ok x → Begins bytes x.0 x.1
unfolding document_at
document_takes bytes x fits e =
    let a = bind_ok (length_at bytes) (λ n. fields_in 100 n (take (n - 4) (drop 4 bytes)) >>= λ fields. Ok (fields, n)) x e in
    let n = a.0 in
    let long = length_takes bytes n a.1 in
    let inside : List ℕ = take (n - 4) (drop 4 bytes) in
    let b = bind_ok (fields_in 100 n inside) (λ fields. Ok (fields, n)) x a.2 in
    let held = (level_takes 100).fields_take n inside b.0 (AreBytes-take (n - 4) (drop 4 bytes) (AreBytes-drop 4 bytes fits)) b.1 in
    let elements : List ℕ = fields_bytes (map spelled_field b.0) in
    let counted : length inside ≡ n - 4 = omega (arith, length-take (n - 4) (drop 4 bytes), length-drop 4 bytes, long.within, long.least) in
    let len : length elements + 5 ≡ n = omega (arith, counted, ap (λ (t : List ℕ). length t) held.0, length-append elements (0 ∷ []), long.least) in
    let four : length (take 4 bytes) ≡ 4 = omega (arith, length-take 4 bytes, long.some) in
    let front : to_le_bytes w32 (length elements + 5) ≡ take 4 bytes = le_bytes_4 (take 4 bytes) (length elements + 5) four (AreBytes-take 4 bytes fits) (len ∙ sym long.is) in
    let cut : take n bytes ≡ take 4 bytes ++ inside = ap (λ (k : ℕ). take k bytes) (let whole : n ≡ 4 + (n - 4) = omega (arith, long.least) in whole) ∙ take-add 4 (n - 4) bytes in
    let spelling : take n bytes ≡ document_bytes b.0 = cut ∙ ap (λ (t : List ℕ). take 4 bytes ++ t) held.0 ∙ ap (λ (t : List ℕ). t ++ (elements ++ (0 ∷ []))) (sym front) in
    let size : length (document_bytes b.0) ≤ 16777216 = omega (arith, long.most, length-take n bytes, ap (λ (t : List ℕ). length t) spelling) in
    let made : Begins bytes b.0 n = record { document = record { fits = held.1; short = size }; front = spelling; within = long.within } in
    subst (λ (y : List (List ℕ × Plain) × ℕ). Begins bytes y.0 y.1) (ok_is (b.0, n) x b.2) made

-- the four bytes of the length as a variable, so that they stay as they are
whole_again : (fs : List (List ℕ × Plain)) (four inside rest : List ℕ) (n : ℕ) → length four ≡ 4 → from_le_bytes w32 four ≡ n → n ≡ 4 + length inside → 5 ≤ n → n ≤ 16777216 → fields_in 100 n inside ≡ Ok fs
    → document_at (four ++ (inside ++ rest)) ≡ Ok (fs, n)
unfolding document_at length_at
whole_again fs four inside rest n len value counted least most read =
    let total : length (four ++ (inside ++ rest)) ≡ 4 + (length inside + length rest) = length-append four (inside ++ rest) ∙ omega (arith, len, length-append inside rest) in
    let long : ltb (length (four ++ (inside ++ rest))) 4 ≡ false = le-ltb _ _ (omega (arith, total)) in
    let right : (ltb n 5 || leb (2 ^ 31) n) ≡ false = or_from _ _ (le-ltb n 5 least) (lt-leb (2 ^ 31) n (omega arith)) in
    let small : ltb 16777216 n ≡ false = le-ltb _ _ most in
    let there : ltb (length (four ++ (inside ++ rest))) n ≡ false = le-ltb _ _ (omega (arith, total)) in
    let cut : n - 4 ≡ length inside = omega (arith, counted) in
    rw (long, take_at four (inside ++ rest) 4 len, value, right, small, there, drop_at four (inside ++ rest) 4 len, cut, take_at inside rest (length inside) refl, read) refl

-- what is spelled is read, whatever follows
pub document_again : (fs : List (List ℕ × Plain)) (rest : List ℕ) → IsDocument fs → document_at (document_bytes fs ++ rest) ≡ Ok (fs, length (document_bytes fs))
document_again fs rest is =
    let elements : List ℕ = fields_bytes (map spelled_field fs) in
    let inside : List ℕ = elements ++ (0 ∷ []) in
    let len : length inside ≡ length elements + 1 = length-append elements (0 ∷ []) in
    let n : ℕ = length elements + 5 in
    let size : length (document_bytes fs) ≡ n = length-append (to_le_bytes w32 n) inside ∙ omega (arith, len) in
    let short : n ≤ 16777216 = omega (arith, size, is.short) in
    let read : fields_in 100 n inside ≡ Ok fs = (level_again 100).fields_again n fs is.fits (omega arith) in
    ap document_at (append_assoc (to_le_bytes w32 n) inside rest)
    ∙ whole_again fs (to_le_bytes w32 n) inside rest n refl (from_le_bytes-to_le_bytes_4 n (omega arith)) (omega (arith, len)) (omega arith) short read
    ∙ ap (λ (k : ℕ). Ok (fs, k)) (sym size)

-- what begins the bytes is read
pub begins_again : (bytes : List ℕ) (fs : List (List ℕ × Plain)) (n : ℕ) → Begins bytes fs n → document_at bytes ≡ Ok (fs, n)
begins_again bytes fs n begins =
    let size : n ≡ length (document_bytes fs) = omega (arith, length-take n bytes, begins.within, ap (λ (t : List ℕ). length t) begins.front) in
    let parts : bytes ≡ document_bytes fs ++ drop n bytes = sym (take-append-drop n bytes) ∙ ap (λ (t : List ℕ). t ++ drop n bytes) begins.front in
    ap document_at parts ∙ document_again fs (drop n bytes) begins.document ∙ ap (λ (k : ℕ). Ok (fs, k)) (sym size)

-- an answer that is what reading gives is a document that begins the bytes
pub is_found : (bytes : List ℕ) (r : Result (List (List ℕ × Plain) × ℕ) BsonFault) → AreBytes bytes → Answers (λ x. x) bson_refusal r (document_at bytes) → IfOk r (λ x. Begins bytes x.0 x.1)
is_found bytes (Ok x) fits given = document_takes bytes x fits given
is_found bytes (Err fault) fits given = tt

-- the bytes of a document are read as it
pub written_again : (fs : List (List ℕ × Plain)) (out : List ℕ) → IsDocument fs → out ≡ document_bytes fs → document_at out ≡ Ok (fs, length out)
written_again fs out is written = rw written (ap document_at (sym (append-nil (document_bytes fs))) ∙ document_again fs [] is)

pub is_read_again : (fs : List (List ℕ × Plain)) (r : Result (List ℕ) EncodeFault) → IfOk r (λ out. out ≡ document_bytes fs) → IfOk r (λ _. IsDocument fs) → IfOk r (λ out. document_at out ≡ Ok (fs, length out))
is_read_again fs (Ok out) written fits = written_again fs out fits written
is_read_again fs (Err fault) written fits = tt
