-- Whole texts taken from a source and put into a sink.
use Rattle.std.specs.Prelude.{◌≡◌, ℕ, ◌^◌, ◌<◌, ◌≤◌, List, length, take, Option}
use Rattle.std.specs.Io.KnownBytes.{Consumes, Appends, IsAtEnd}
use Rattle.qe_base.specs.Faults.{Rose}
use Rattle.qe_base.specs.declared.transfer.TakeFault.{TakeFault}
use Rattle.qe_base.specs.declared.transfer.TakeFault.TheVariants.{ReadFault, TooLong, NoMemory}

-- the greatest number of bytes that a script may have
abbrev pub script_limit : ℕ
script_limit = 2 ^ 28

-- the bytes were taken to the source's end, and are no more than a script may have
pub record TakesAll (old new : Option (List ℕ)) (bytes : List ℕ) : Type 0 where
  pub taken : Consumes old new bytes
  pub end : IsAtEnd new
  pub fits : length bytes ≤ script_limit

-- some bytes were taken
pub record TakesSome (old new : Option (List ℕ)) : Type 0 where
  pub bytes : List ℕ
  pub taken : Consumes old new bytes

-- the source failed after some bytes, no more than a script may have
pub record IsCutOff (before now : ℕ) (old new : Option (List ℕ)) : Type 0 where
  pub rose : Rose before now
  pub bytes : List ℕ
  pub taken : Consumes old new bytes
  pub fits : length bytes ≤ script_limit

-- so many bytes were taken, more than a script may have
pub record IsTooLong (old new : Option (List ℕ)) (count : ℕ) : Type 0 where
  pub bytes : List ℕ
  pub taken : Consumes old new bytes
  pub counted : length bytes ≡ count
  pub above : script_limit < count

-- why a source wasn't taken to its end; want of memory is free
abbrev pub IsWhyTaken : ℕ → ℕ → Option (List ℕ) → Option (List ℕ) → TakeFault → Type 0
IsWhyTaken before now old new ReadFault = IsCutOff before now old new
IsWhyTaken before now old new (TooLong count) = IsTooLong old new count
IsWhyTaken before now old new NoMemory = Unit {0}

-- a prefix of the text was put
pub record AppendsFront (old new : Option (List ℕ)) (text : List ℕ) : Type 0 where
  pub count : ℕ
  pub within : count ≤ length text
  pub put : Appends old new (take count text)
