-- Why bytes are no indexed value: the first of these that holds.
use Rattle.std.specs.Prelude.{ℕ, ◌+◌, ◌*◌, List, [], ◌∷◌, length, slice_index, ◌==◌, nat_lt, if◌then◌else◌, Option, Some, None, Result, Ok, Err}
use Rattle.qe_indexed.specs.declared.fault.IndexedFault.{IndexedFault}
use Rattle.qe_indexed.specs.declared.fault.IndexedFault.TheVariants.{Short, BlobSubtype, EdgeCountZero, LengthWrong, NoMemory}

-- of so many bytes that begin with 14
abbrev pub equality_refusal : ℕ → Option IndexedFault
equality_refusal size = if nat_lt size 130 then Some Short else None

-- of so many bytes that begin with 15, and have this edge count
abbrev pub range_refusal : ℕ → ℕ → Option IndexedFault
range_refusal size count =
    if nat_lt size 19 then Some Short else (if count == 0 then Some EdgeCountZero else (if nat_lt size (35 + 96 * count) then Some LengthWrong else None))

unfoldable pub refusal_of : List ℕ → Option IndexedFault
refusal_of [] = Some Short
refusal_of (first ∷ rest) =
    let bytes = first ∷ rest in
    if first == 14 then equality_refusal (length bytes) else (if first == 15 then range_refusal (length bytes) (slice_index bytes 18) else Some (BlobSubtype first))

-- a refusal of another cause than want of memory
abbrev pub kept_fault : IndexedFault → Option IndexedFault
kept_fault NoMemory = None
kept_fault fault = Some fault

-- this answer where nothing is refused, and else the refusal
abbrev pub unless_refused : {A : Type 0} → Option IndexedFault → A → Result A IndexedFault
unless_refused None answer = Ok answer
unless_refused (Some fault) answer = Err fault
