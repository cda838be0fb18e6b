-- A word, and names and numbers behind it, each after a space; numbers are decimal.
use Rattle.std.specs.Prelude.{ℕ, List, ◌++◌, codes}
use Rattle.std.specs.Fmt.{decimal}

abbrev pub counted : List ℕ → ℕ → List ℕ
counted word n = word ++ (codes " " ++ decimal n)

abbrev pub named : List ℕ → List ℕ → List ℕ
named word name = word ++ (codes " " ++ name)

abbrev pub twice_counted : List ℕ → ℕ → ℕ → List ℕ
twice_counted word first second = word ++ (codes " " ++ (decimal first ++ (codes " " ++ decimal second)))
