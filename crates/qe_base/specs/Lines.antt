-- What a reader of lines has left.
use Rattle.std.specs.Prelude.{ℕ, List, [], Option, None, Some}
use Rattle.std.specs.List.{enumerate_from}
use Rattle.qe_base.specs.Bytes.{lines_of}

-- the lines of a text, each with the number of the lines before it
abbrev pub placed_lines : List ℕ → List (ℕ × List ℕ)
placed_lines text = enumerate_from 0 (lines_of text)

-- behind a last line that no line feed ended there is none
abbrev pub lines_left : Option (List ℕ) → List (List ℕ)
lines_left None = []
lines_left (Some text) = lines_of text
