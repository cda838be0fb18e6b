-- What writing answers.
use Rattle.std.specs.Prelude.{◌≡◌, ℕ, ◌+◌, ◌<◌, ◌≤◌, nat_lt, List, [], ◌∷◌, ◌++◌, length, if◌then◌else◌, Some, Result, Ok, Err}
use Rattle.qe_value.specs.declared.fault.EncodeFault.{EncodeFault}
use Rattle.qe_value.specs.declared.fault.EncodeFault.TheVariants.{TooLong, TooDeep, ZeroInName, NoMemory}
use Rattle.qe_value.specs.declared.value.Plain.{Plain}
use Rattle.qe_value.specs.declared.value.Value.{Value}
use Rattle.qe_value.specs.Limits.{most_bytes, most_levels}
use Rattle.qe_value.specs.Measures.{fields_depth, zero_in_fields}
use Rattle.qe_value.specs.Names.{value_named}
use Rattle.qe_value.specs.Spelling.{Spelled, spelled, spelled_step, document_bytes, IsDocument}
use Rattle.qe_value.specs.Views.{opened}

-- what stands for a value of the code
abbrev pub spell : Value → Spelled
spell value = spelled_step (opened spelled value)

-- the bytes were added, or all would be more than the limit
abbrev pub Writes : ℕ → List ℕ → List ℕ → Result (Unit {0}) EncodeFault → List ℕ → Type 0
Writes limit old new (Ok _) bytes = (new ≡ old ++ bytes) × (length new ≤ limit)
Writes limit old new (Err TooLong) bytes = limit < length old + length bytes
Writes limit old new (Err TooDeep) bytes = ⊥
Writes limit old new (Err ZeroInName) bytes = ⊥
Writes limit old new (Err NoMemory) bytes = Unit {0}

-- the first refusal of a document, or the bytes that are due
abbrev pub written_as : List (List ℕ × Plain) → List ℕ → Result (List ℕ) EncodeFault
written_as fs bytes =
    if nat_lt most_bytes (length (document_bytes fs)) then Err TooLong
    else if nat_lt most_levels (fields_depth fs) then Err TooDeep
    else if zero_in_fields fs then Err ZeroInName
    else Ok bytes

-- what a document is written as
abbrev pub encoded : List (List ℕ × Plain) → Result (List ℕ) EncodeFault
encoded fs = written_as fs (document_bytes fs)

-- what a value is written as: refused as the document of one field that has the empty name and this value
abbrev pub value_encoded : Plain → Result (List ℕ) EncodeFault
value_encoded v = written_as (([], v) ∷ []) (spelled v).bytes

-- a document of the profile has no refusal, nor has a value that fits alone, and each value of such a document does
pub record WritingLaws : Type 0 where
  pub written : (fs : List (List ℕ × Plain)) → IsDocument fs → encoded fs ≡ Ok (document_bytes fs)
  pub value : (v : Plain) → IsDocument (([], v) ∷ []) → value_encoded v ≡ Ok (spelled v).bytes
  pub alone : (fs : List (List ℕ × Plain)) (name : List ℕ) (v : Plain) → IsDocument fs → value_named name fs ≡ Some v → IsDocument (([], v) ∷ [])
