-- Two lists of cells that become one.
use Rattle.std.specs.Prelude.{◌≡◌, ◌≤◌, ◌<◌, ◌+◌, ℕ, List, [], ◌∷◌, length, drop}
use Rattle.std.specs.List.{AllByRecursion}
use Rattle.qe_store.specs.declared.stored.Cell.{Cell}
use Rattle.qe_protocol.specs.Documents.{put_cells}

-- the numbers are above one, and rise
abbrev pub Over : {C : Type 0} → ℕ → List (ℕ × C) → Type 0
Over n cells = AllByRecursion (λ c. n < c.0) cells

abbrev pub Rises : {C : Type 0} → List (ℕ × C) → Type 0
Rises [] = Unit {0}
Rises (c ∷ cells) = Over c.0 cells × Rises cells

-- the cell that comes first, and how many of the old and of the new ones are behind with it
pub record IsNextCell (old new : List (ℕ × Cell)) (cell : ℕ × Cell) (from_old from_new : ℕ) : Type 0 where
  pub is : put_cells old new ≡ cell ∷ put_cells (drop from_old old) (drop from_new new)
  pub some : 1 ≤ from_old + from_new
  pub old_there : from_old ≤ length old
  pub new_there : from_new ≤ length new
