-- The list of rows.
use Rattle.std.specs.Prelude.{ℕ, List}
use Rattle.qe_ecoc.specs.declared.rows.Entry.{Entry}

-- the rows in order, and how many more there is room for
pub record Held : Type 0 where
  pub rows : List Entry
  pub spare : ℕ
