-- Where the rows of a token stand. Sums are of 64 bits and wrap; that is this project's own.
use Rattle.std.specs.Prelude.{ℕ, ◌+◌, ◌%◌, ◌^◌, List, Bool}
use Rattle.qe_tokens.specs.Tokens.{esc_tag_of, position_of, anchor_of}
use Rattle.qe_esc.specs.Rows.{Rows, has}
use Rattle.qe_esc.specs.declared.key.RowKind.{RowKind}
use Rattle.qe_esc.specs.declared.key.RowKind.TheVariants.{Position, Anchor}

-- the identifier of a token's row of this number; anchor 0 is the null anchor
abbrev pub id_of : RowKind → List ℕ → ℕ → List ℕ
id_of Position token number = position_of (esc_tag_of token) number
id_of Anchor token number = anchor_of (esc_tag_of token) number

-- whether the row at this distance behind a start is there
abbrev pub row_after : Rows → RowKind → List ℕ → ℕ → ℕ → Bool
row_after rows kind token start distance = has rows (id_of kind token ((start + distance) % 2 ^ 64))
