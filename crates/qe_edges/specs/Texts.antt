-- The text of a prefix, which is hashed (libmongocrypt, edge generation).
use Rattle.std.specs.Prelude.{◌≡◌, ℕ, zero, suc, ◌+◌, ◌/◌, ◌%◌, ◌^◌, ◌<◌, List, [], ◌∷◌, codes}
use Rattle.qe_edges.specs.declared.edge.Edge.{Edge}

-- so many lowest binary digits of a number, highest first, in characters
abbrev pub digits_of : ℕ → ℕ → List ℕ
digits_of zero number = []
digits_of (suc places) number = (48 + number / 2 ^ places % 2) ∷ digits_of places number

-- the empty prefix has a word of its own
abbrev pub spelling_of : ℕ → ℕ → List ℕ
spelling_of zero prefix = codes "root"
spelling_of (suc places) prefix = digits_of (suc places) prefix

abbrev pub text_of : Edge → List ℕ
text_of e = spelling_of e.len e.prefix

-- prefixes with one text are one
abbrev pub TextsDiffer : Type 0
TextsDiffer = (e f : Edge) → e.prefix < 2 ^ e.len → f.prefix < 2 ^ f.len → text_of e ≡ text_of f → e ≡ f
