-- The lines of a script, and their numbers.
use Rattle.std.specs.Prelude.{ℕ, ◌+◌, ◌||◌, ◌==◌, List, [], ◌∷◌, Bool, not, map, filter, if◌then◌else◌}
use Rattle.std.specs.List.{list_all}

-- a line of spaces, tabs and carriage returns alone
abbrev pub is_blank : List ℕ → Bool
is_blank line = list_all (λ byte. byte == 32 || byte == 9 || byte == 13) line

abbrev pub is_told : ℕ × List ℕ → Bool
is_told line = not (is_blank line.1)

-- counted from 1
abbrev pub from_one : ℕ × List ℕ → ℕ × List ℕ
from_one line = (line.0 + 1, line.1)

-- the lines that aren't blank, each with its number: one more than the lines before it, blank ones among them
unfoldable pub numbered : List (ℕ × List ℕ) → List (ℕ × List ℕ)
numbered lines = map from_one (filter is_told lines)

-- the lines from the first one on that isn't blank
abbrev pub past_blank : List (ℕ × List ℕ) → List (ℕ × List ℕ)
past_blank [] = []
past_blank (line ∷ lines) = if is_blank line.1 then past_blank lines else line ∷ lines
