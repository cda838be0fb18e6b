-- What more bytes change, and what they don't.
use Rattle.std.proofs.Common.{◌≡◌, ℕ, ◌-◌, ◌^◌, ◌<◌, ◌≤◌, ◌||◌, false, leb, ltb, List, [], ◌++◌, length, take, drop, Option, None, Some, Ok, refl, sym, subst, ◌∙◌, arith, inl, inr}
use Rattle.std.specs.Int.{w32, from_le_bytes}
use Rattle.std.proofs.lemmas.Bool.{cases_lt, cases_Bool, ltb-false, le-ltb}
use Rattle.std.proofs.lemmas.List.{take-append-le, drop-append-le, length-append, length-drop}
use Rattle.qe_value.specs.declared.fault.BsonFault.{BsonFault}
use Rattle.qe_value.specs.declared.value.Plain.{Plain}
use Rattle.qe_document.specs.Reading.{length_at, document_at}
use Rattle.qe_document.specs.Spelling.{Begins}
use Rattle.qe_bson_stream.specs.Stream.{IsShort, IsWaiting, Takes}
use Rattle.qe_value.proofs.DocumentLemmas.{begins_again}

pub short_nothing : IsShort []
unfolding document_at length_at
short_nothing = (0, refl)

-- a document that lies in the front begins the front
begins_front : (front more : List ℕ) (fs : List (List ℕ × Plain)) (n : ℕ) → n ≤ length front → Begins (front ++ more) fs n → Begins front fs n
begins_front front more fs n le begins = record { document = begins.document; front = sym (take-append-le n front more le) ∙ begins.front; within = le }

-- a document that more bytes make whole ends in them
pub front_shorter : (front more : List ℕ) (fs : List (List ℕ × Plain)) (n : ℕ) → IsShort front → Begins (front ++ more) fs n → length front < n
front_shorter front more fs n short begins =
    elim (cases_lt (length front) n) [
      | inl lt ↦ lt
      | inr le ↦
          let whole : document_at front ≡ Ok (fs, n) = begins_again front fs n (begins_front front more fs n le begins) in
          let both = sym whole ∙ short.1 in absurd cc
    ]

-- after an answer without a fault the reader waits
pub waits_on : (held piece now : List ℕ) (fault : Option BsonFault) (read : Option (List (List ℕ × Plain) × ℕ)) → Takes held piece now (Ok read) → IsWaiting (now, fault)
waits_on held piece now (Some fault) read takes = tt
waits_on held piece now None None takes = subst IsShort (sym takes.1) takes.0
waits_on held piece now None (Some x) takes = subst IsShort (sym takes.2) short_nothing

-- what a front decides, more bytes leave
pub decided : (front more : List ℕ) → (IsShort front → ⊥) → document_at (front ++ more) ≡ document_at front
unfolding document_at length_at
decided front more not_short =
    let m : ℕ = from_le_bytes w32 (take 4 front) in
    elim (cases_Bool (ltb (length front) 4)) [
      | inl few ↦ absurd (not_short (length front, rw few refl))
      | inr some ↦
          let le : 4 ≤ length front = ltb-false _ _ some in
          let long : ltb (length (front ++ more)) 4 ≡ false = le-ltb _ _ (omega (arith, length-append front more)) in
          let same : take 4 (front ++ more) ≡ take 4 front = take-append-le 4 front more le in
          elim (cases_Bool (ltb m 5 || leb (2 ^ 31) m)) [
            | inl wrong ↦ rw (some, long, same, wrong) refl
            | inr right ↦
                elim (cases_Bool (ltb 16777216 m)) [
                  | inl big ↦ rw (some, long, same, right, big) refl
                  | inr small ↦
                      elim (cases_Bool (ltb (length front) m)) [
                        | inl short ↦ absurd (not_short (length front, rw (some, right, small, short) refl))
                        | inr there ↦
                            let within : m ≤ length front = ltb-false _ _ there in
                            let there_too : ltb (length (front ++ more)) m ≡ false = le-ltb _ _ (omega (arith, length-append front more)) in
                            let behind : drop 4 (front ++ more) ≡ drop 4 front ++ more = drop-append-le 4 front more le in
                            let inside : take (m - 4) (drop 4 front ++ more) ≡ take (m - 4) (drop 4 front) = take-append-le (m - 4) (drop 4 front) more (omega (arith, length-drop 4 front)) in
                            rw (some, long, same, right, small, there, there_too, behind, inside) refl
                      ]
                ]
          ]
    ]
