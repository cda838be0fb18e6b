-- The script that is made of a number of documents and a seed.
use Rattle.std.specs.Prelude.{ℕ, List, [], ◌∷◌, ◌++◌, map}
use Rattle.std.specs.List.{flat_map, range_with_len}
use Rattle.serde_json.specs.Data.{Data}
use Rattle.serde_json.specs.Written.{compact_text}
use Rattle.qe_make.specs.Header.{header}
use Rattle.qe_make.specs.Rules.{in_turn, written_for}

-- the header, and the commands for each number from 1 on; the generator begins with the seed
abbrev pub script : ℕ → ℕ → List Data
script n seed = header seed ∷ (in_turn (map (written_for n) (range_with_len 1 n)) seed).commands

-- compact JSON, and a line feed
unfoldable pub line : Data → List ℕ
line json = compact_text json ++ 10 ∷ []

unfoldable pub text_of : List Data → List ℕ
text_of lines = flat_map line lines

unfoldable pub made : ℕ → ℕ → List ℕ
made n seed = text_of (script n seed)
