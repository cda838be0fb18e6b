-- Rows as changes that wait will make them.
use Rattle.std.specs.Prelude.{ℕ, List, [], ◌∷◌, Option, None, Some, if◌then◌else◌}
use Rattle.std.specs.FinMap.{FinMap, insert, remove, entries}
use Rattle.std.specs.Cmp.Lexicographic.{slice_cmp}
use Rattle.std.specs.Ordering.{nat_cmp}
use Rattle.qe_esc.specs.Rows.{Row, Rows, has}

-- for some identifiers, the row that each will have, or none
abbrev pub Waiting : Type 0
Waiting = FinMap (slice_cmp nat_cmp) (Option Row)

-- one change carried out
abbrev pub written : Rows → List ℕ → Option Row → Rows
written rows id None = remove rows id
written rows id (Some row) = insert rows id row

-- all of them, each of another identifier
abbrev pub all_written : Rows → List (List ℕ × Option Row) → Rows
all_written rows [] = rows
all_written rows (change ∷ changes) = written (all_written rows changes) change.0 change.1

unfoldable pub changed : Rows → Waiting → Rows
changed rows waiting = all_written rows (entries waiting)

-- the rows with one more, unless its identifier has one
abbrev pub with_row : Rows → List ℕ → Row → Rows
with_row rows id row = if has rows id then rows else insert rows id row
