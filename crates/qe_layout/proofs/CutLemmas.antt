-- A blob that is cut short is refused.
use Rattle.std.proofs.Common.{◌≡◌, ℕ, zero, suc, ◌+◌, ◌-◌, ◌^◌, ◌<◌, ◌≤◌, ◌==◌, true, false, ◌||◌, leb, ltb, List, [], ◌∷◌, ◌++◌, length, map, take, drop, refl, ap, sym, ◌∙◌, arith, inl, inr, Result, Err, eq-eqb, length-append}
use Rattle.std.specs.Int.{w32, to_le_bytes, from_le_bytes}
use Rattle.std.proofs.Math.Seq.{take-add}
use Rattle.std.proofs.lemmas.Bool.{cases_Bool, cond-true, ltb-true, ltb-false, lt-ltb, le-ltb, lt-leb, or_from}
use Rattle.std.proofs.lemmas.List.{take_all, take_at, length-take-le}
use Rattle.std.proofs.lemmas.Nat.{from_le_bytes-to_le_bytes_4}
use Rattle.qe_value.specs.declared.fault.BsonFault.TheVariants.{At}
use Rattle.qe_value.specs.declared.fault.BsonKind.TheVariants.{Short}
use Rattle.qe_document.specs.Reading.{length_at, document_at}
use Rattle.qe_document.specs.Spelling.{spelled_field, fields_bytes, Begins}
use Rattle.qe_layout.specs.declared.malformed.Kind.TheVariants.{BlobSubtype}
use Rattle.qe_layout.specs.Refusal.{Refusal, wrong, bind}
use Rattle.qe_layout.specs.Layouts.{Element}
use Rattle.qe_layout.specs.Blobs.{whole, decoded, alone, opened, cut_refusal, IsBlob}

-- without its length a document is short
short_length : (cut : List ℕ) → length cut < 4 → document_at cut ≡ Err (At (length cut) Short)
unfolding document_at length_at
short_length cut few = rw (lt-ltb (length cut) 4 few) refl

-- and with it, where it counts more bytes
short_rest : (cut : List ℕ) (n : ℕ) → 4 ≤ length cut → from_le_bytes w32 (take 4 cut) ≡ n → 5 ≤ n → n ≤ 16777216 → length cut < n → document_at cut ≡ Err (At (length cut) Short)
unfolding document_at length_at
short_rest cut n four counted least most few =
    let long : ltb (length cut) 4 ≡ false = le-ltb _ _ four in
    let right : (ltb n 5 || leb (2 ^ 31) n) ≡ false = or_from _ _ (le-ltb n 5 least) (lt-leb (2 ^ 31) n (omega arith)) in
    let small : ltb 16777216 n ≡ false = le-ltb _ _ most in
    let past : ltb (length cut) n ≡ true = lt-ltb _ _ few in
    rw (long, counted, right, small, past) refl

-- a document that is cut short
document_cut : (bytes : List ℕ) (elements : List Element) (m : ℕ) → Begins bytes elements (length bytes) → m < length bytes → document_at (take m bytes) ≡ Err (At m Short)
document_cut bytes elements m begins few =
    let inside : List ℕ = fields_bytes (map spelled_field elements) ++ (0 ∷ []) in
    let n : ℕ = length (fields_bytes (map spelled_field elements)) + 5 in
    let spelling : bytes ≡ to_le_bytes w32 n ++ inside = sym (take_all (length bytes) bytes (omega arith)) ∙ begins.front in
    let size : length bytes ≡ n =
    ap (λ (t : List ℕ). length t) spelling ∙ length-append (to_le_bytes w32 n) inside ∙ omega (arith, length-append (fields_bytes (map spelled_field elements)) (0 ∷ []))
    in
    let most : n ≤ 16777216 = omega (arith, size, ap (λ (t : List ℕ). length t) spelling, begins.document.short) in
    let cut : length (take m bytes) ≡ m = length-take-le m bytes (omega (arith, few)) in
    elim (cases_Bool (ltb m 4)) [
      | inl below ↦ short_length (take m bytes) (omega (arith, cut, ltb-true m 4 below)) ∙ ap (λ (k : ℕ). Err (At k Short)) cut
      | inr above ↦
          let four : 4 ≤ m = ltb-false m 4 above in
          let front : take 4 (take m bytes) ≡ to_le_bytes w32 n = front_of m four (to_le_bytes w32 n) inside refl spelling in
          short_rest (take m bytes) n (omega (arith, cut, four)) (ap (from_le_bytes w32) front ∙ from_le_bytes-to_le_bytes_4 n (omega (arith, most))) (omega arith) most (omega (arith, cut, few, size))
          ∙ ap (λ (k : ℕ). Err (At k Short)) cut
    ]
  where
    front_of : (m : ℕ) → 4 ≤ m → (four inside : List ℕ) → length four ≡ 4 → bytes ≡ four ++ inside → take 4 (take m bytes) ≡ four
    front_of m some four inside len is =
        let counted : m ≡ 4 + (m - 4) = omega (arith, some) in
        let rest : List ℕ = take (m - 4) (drop 4 bytes) in
        let first : take 4 bytes ≡ four = ap (take 4) is ∙ take_at four inside 4 len in
        let all : take m bytes ≡ four ++ rest = ap (λ (k : ℕ). take k bytes) counted ∙ take-add 4 (m - 4) bytes ∙ ap (λ (t : List ℕ). t ++ rest) first in
        ap (take 4) all ∙ take_at four rest 4 len

-- what a blob is opened as that is cut
pub opened_cut : (kind : ℕ) (elements : List Element) (blob : List ℕ) (n : ℕ) → IsBlob kind elements blob → n < length blob → opened kind (take n blob) ≡ cut_refusal n
opened_cut kind elements blob zero is few = refl
opened_cut kind elements blob (suc m) is few =
    let cut : List ℕ = take m is.rest in
    let size : length blob ≡ suc (length is.rest) = ap (λ (t : List ℕ). length t) is.first in
    ap (λ (t : List ℕ). opened kind (take (suc m) t)) is.first
    ∙ cond-true (kind == kind) (alone cut) (wrong whole (BlobSubtype kind)) (eq-eqb kind kind refl)
    ∙ ap (decoded (length cut)) (document_cut is.rest elements m is.document (omega (arith, few, size)))

-- and what is read of it
pub read_cut : {P : Type 0} (of : List Element → Result P Refusal) (n : ℕ) → bind (cut_refusal n) of ≡ cut_refusal n
read_cut of zero = refl
read_cut of (suc m) = refl
