-- The greatest document.
use Rattle.std.specs.Prelude.{ℕ}

-- the bytes of a document, from its length to its last byte
abbrev pub most_bytes : ℕ
most_bytes = 16777216

-- the levels of a document, itself among them
abbrev pub most_levels : ℕ
most_levels = 100
