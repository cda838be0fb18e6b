-- Lines of hex digits, and the lines that show their blobs.
use Rattle.std.specs.Prelude.{◌≡◌, ℕ, ◌+◌, List, [], ◌∷◌, ◌++◌, Option, Some, None, is_some, if◌then◌else◌}
use Rattle.std.specs.Result.{result_ok}
use Rattle.hex.specs.Hex.{decode_of}
use Rattle.qe_show.specs.Blob.{ShowsBlob}
use Rattle.qe_show.specs.declared.lines.ShowFault.{ShowFault}
use Rattle.qe_show.specs.declared.lines.ShowFault.TheVariants.{NotHex, NoMemory}

-- the bytes that a line of hex digits spells
unfoldable pub blob_of : List ℕ → Option (List ℕ)
blob_of line = result_ok (decode_of line)

-- a line that isn't empty is a blob's, and shown by a line
pub record ShowsFirst (line : List ℕ) (Rest : List ℕ → Type 0) (text : List ℕ) : Type 0 where
  pub blob : List ℕ
  pub spelled : blob_of line ≡ Some blob
  pub shown : List ℕ
  pub shows : ShowsBlob blob shown
  pub rest : List ℕ
  pub shows_rest : Rest rest
  pub is : text ≡ shown ++ 10 ∷ rest

-- an empty line is passed over
abbrev pub ShowsLine : List ℕ → (List ℕ → Type 0) → List ℕ → Type 0
ShowsLine [] Rest text = Rest text
ShowsLine (first ∷ digits) Rest text = ShowsFirst (first ∷ digits) Rest text

-- the text shows the lines
abbrev pub Shows : List (ℕ × List ℕ) → List ℕ → Type 0
Shows [] text = text ≡ []
Shows (line ∷ lines) text = ShowsLine line.1 (Shows lines) text

-- the number of a line that isn't empty and no blob's, or of a later one
abbrev pub or_later : ℕ → List ℕ → Option ℕ → Option ℕ
or_later number [] later = later
or_later number (first ∷ digits) later = if is_some (blob_of (first ∷ digits)) then later else Some number

-- the number of the first line that isn't empty and no blob's: one more than the lines before it
unfoldable pub first_not_hex : List (ℕ × List ℕ) → Option ℕ
first_not_hex [] = None
first_not_hex (line ∷ lines) = or_later (line.0 + 1) line.1 (first_not_hex lines)

-- want of memory is free
abbrev pub IsWhyNot : List (ℕ × List ℕ) → ShowFault → Type 0
IsWhyNot lines (NotHex number) = first_not_hex lines ≡ Some number
IsWhyNot lines NoMemory = Unit {0}
