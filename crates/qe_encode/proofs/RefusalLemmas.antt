-- The first refusal of a document, or its bytes.
use Rattle.std.proofs.Common.{◌≡◌, ltb, Result, Ok, Err, ℕ, ◌+◌, ◌<◌, ◌≤◌, Bool, true, false, List, length, if◌then◌else◌, refl, sym, ◌∙◌, arith}
use Rattle.std.specs.Prelude.{IfOk}
use Rattle.std.proofs.lemmas.Bool.{le-ltb, lt-ltb}
use Rattle.qe_base.specs.Answers.{Answers, Refuses}
use Rattle.qe_value.specs.declared.fault.EncodeFault.{EncodeFault}
use Rattle.qe_value.specs.declared.fault.EncodeFault.TheVariants.{TooLong, TooDeep, ZeroInName, NoMemory}
use Rattle.qe_value.specs.declared.value.Plain.{Plain}
use Rattle.qe_value.specs.Faults.{encode_refusal}
use Rattle.qe_value.specs.Measures.{fields_depth, zero_in_fields}
use Rattle.qe_value.specs.Spelling.{document_bytes}
use Rattle.qe_encode.specs.Writing.{Writes, written_as}

module _ (fs : List (List ℕ × Plain)) (bytes : List ℕ) where
  pub too_long : 16777216 < length (document_bytes fs) → written_as fs bytes ≡ Err TooLong
  too_long more = let long : ltb 16777216 (length (document_bytes fs)) ≡ true = lt-ltb _ _ more in rw long refl

  pub too_deep : length (document_bytes fs) ≤ 16777216 → 100 < fields_depth fs → written_as fs bytes ≡ Err TooDeep
  too_deep few more =
      let short : ltb 16777216 (length (document_bytes fs)) ≡ false = le-ltb _ _ few in
      let deep : ltb 100 (fields_depth fs) ≡ true = lt-ltb _ _ more in
      rw (short, deep) refl

  pub has_zero : length (document_bytes fs) ≤ 16777216 → fields_depth fs ≤ 100 → zero_in_fields fs ≡ true → written_as fs bytes ≡ Err ZeroInName
  has_zero few shallow zero =
      let short : ltb 16777216 (length (document_bytes fs)) ≡ false = le-ltb _ _ few in
      let flat : ltb 100 (fields_depth fs) ≡ false = le-ltb _ _ shallow in
      rw (short, flat, zero) refl

  pub written_then : length (document_bytes fs) ≤ 16777216 → fields_depth fs ≤ 100 → zero_in_fields fs ≡ false → written_as fs bytes ≡ Ok bytes
  written_then few shallow zero =
      let short : ltb 16777216 (length (document_bytes fs)) ≡ false = le-ltb _ _ few in
      let flat : ltb 100 (fields_depth fs) ≡ false = le-ltb _ _ shallow in
      rw (short, flat, zero) refl

  -- a part that couldn't be written is too long for the whole
  pub part_refuses : (limit : ℕ) (fault : EncodeFault) (part old new : List ℕ) → 16777216 + length old + length part ≤ limit + length (document_bytes fs) → Writes limit old new (Err fault) part → Refuses (encode_refusal fault) (written_as fs bytes)
  part_refuses limit TooLong part old new le more = too_long (omega arith)
  part_refuses limit TooDeep part old new le never = absurd never
  part_refuses limit ZeroInName part old new le never = absurd never
  part_refuses limit NoMemory part old new le any = tt

  -- an answer that is due has these bytes
  pub bytes_written : (r : Result (List ℕ) EncodeFault) → Answers (λ out. out) encode_refusal r (written_as fs bytes) → IfOk r (λ out. out ≡ bytes)
  bytes_written (Ok out) due = by_tests (ltb 16777216 (length (document_bytes fs))) (ltb 100 (fields_depth fs)) (zero_in_fields fs) due
    where
      by_tests : (long deep zero : Bool) → (if long then Err TooLong else if deep then Err TooDeep else if zero then Err ZeroInName else Ok bytes) ≡ Ok out → out ≡ bytes
      by_tests true deep zero is = absurd cc
      by_tests false true zero is = absurd cc
      by_tests false false true is = absurd cc
      by_tests false false false is = cc
  bytes_written (Err fault) due = tt

  alike : (long deep zero : Bool) (fault : EncodeFault) (other : List ℕ) → (if long then Err TooLong else if deep then Err TooDeep else if zero then Err ZeroInName else Ok bytes) ≡ Err fault
      → (if long then Err TooLong else if deep then Err TooDeep else if zero then Err ZeroInName else Ok other) ≡ Err fault
  alike true deep zero fault other is = is
  alike false true zero fault other is = is
  alike false false true fault other is = is
  alike false false false fault other is = absurd cc

  -- the refusal doesn't depend on the bytes that are due
  pub refuses_alike : (fault : EncodeFault) (other : List ℕ) → Refuses (encode_refusal fault) (written_as fs bytes) → Refuses (encode_refusal fault) (written_as fs other)
  refuses_alike NoMemory other any = tt
  refuses_alike TooLong other refused = alike (ltb 16777216 (length (document_bytes fs))) (ltb 100 (fields_depth fs)) (zero_in_fields fs) TooLong other refused
  refuses_alike TooDeep other refused = alike (ltb 16777216 (length (document_bytes fs))) (ltb 100 (fields_depth fs)) (zero_in_fields fs) TooDeep other refused
  refuses_alike ZeroInName other refused = alike (ltb 16777216 (length (document_bytes fs))) (ltb 100 (fields_depth fs)) (zero_in_fields fs) ZeroInName other refused

-- what fits is refused for want of memory alone
pub only_memory : (fault : EncodeFault) (due : Result (List ℕ) EncodeFault) (bytes : List ℕ) → due ≡ Ok bytes → Refuses (encode_refusal fault) due → fault ≡ NoMemory
only_memory NoMemory due bytes fits any = refl
only_memory TooLong due bytes fits refused = absurd (let never = sym fits ∙ refused in cc)
only_memory TooDeep due bytes fits refused = absurd (let never = sym fits ∙ refused in cc)
only_memory ZeroInName due bytes fits refused = absurd (let never = sym fits ∙ refused in cc)
