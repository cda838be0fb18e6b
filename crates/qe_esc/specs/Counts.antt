-- What a search counts, and what it says of a token.
use Rattle.std.specs.Prelude.{ℕ, ◌+◌, ◌%◌, ◌^◌, List}
use Rattle.qe_esc.specs.Rows.{Rows}
use Rattle.qe_esc.specs.Identifiers.{row_after}
use Rattle.qe_esc.specs.Pairs.{null_pair, base_of}
use Rattle.qe_esc.specs.Boundary.{IsBoundary}
use Rattle.qe_esc.specs.declared.key.RowKind.TheVariants.{Position, Anchor}

-- `hop` anchors end behind those that a cleanup has taken out, and `positions` end behind those that are counted
pub record IsTrueCount (rows : Rows) (token : List ℕ) (hop positions : ℕ) : Type 0 where
  pub anchors_end : IsBoundary (row_after rows Anchor token (null_pair rows token).0) hop
  pub positions_end : IsBoundary (row_after rows Position token (base_of rows token hop)) positions

-- how often the token's word was indexed, by such a count
abbrev pub count_of_word : Rows → List ℕ → ℕ → ℕ → ℕ
count_of_word rows token hop positions = (base_of rows token hop + positions) % 2 ^ 64
