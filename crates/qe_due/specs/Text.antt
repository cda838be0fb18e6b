-- The lines that the program writes of what it refuses. Each ends with a line feed.
use Rattle.std.specs.Prelude.{ℕ, List, [], ◌∷◌, ◌++◌, codes}
use Rattle.std.specs.Fmt.{decimal}
use Rattle.qe_raw.specs.declared.fault.ScriptKind.{ScriptKind}
use Rattle.qe_texts.specs.Refusals.{refusal_line}

abbrev pub line : List ℕ → List ℕ
line text = text ++ 10 ∷ []

-- a line of a script, by its number and its first fault
unfoldable pub refusal_text : ℕ → ScriptKind → List ℕ
refusal_text number kind = line (refusal_line number kind)

-- a line that isn't hex, by its number
abbrev pub not_hex_text : ℕ → List ℕ
not_hex_text number = line (codes "bad line " ++ (decimal number ++ codes " NotHex"))

abbrev pub too_long_text : List ℕ
too_long_text = line (codes "bad script too long")

abbrev pub usage_text : List ℕ
usage_text = line (codes "usage: qerun replay, show, make N SEED, crowd")
