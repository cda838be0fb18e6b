-- What a search counts of a token's rows, as it stands in a journal.
use Rattle.std.specs.Prelude.{◌≡◌, ℕ, ◌+◌, ◌%◌, ◌^◌, List}
use Rattle.qe_base.specs.declared.maintenance.Count.{Count}
use Rattle.qe_esc.specs.Rows.{Rows}
use Rattle.qe_esc.specs.Counts.{IsTrueCount, count_of_word}

-- the count is true of the rows: its anchors and its positions end where the rows do
abbrev pub IsTrue : Rows → Count → Type 0
IsTrue rows count = IsTrueCount rows count.token count.hop count.positions

-- the count is that of a search for the token, and true
pub record IsCounted (rows : Rows) (token : List ℕ) (count : Count) : Type 0 where
  pub searched : count.token ≡ token
  pub is_true : IsTrue rows count

-- how often the token's word was indexed
abbrev pub counted : Rows → Count → ℕ
counted rows count = count_of_word rows count.token count.hop count.positions

-- the number that the word gets when it is indexed once more, in 64 bits
abbrev pub next_number : Rows → Count → ℕ
next_number rows count = (counted rows count + 1) % 2 ^ 64
