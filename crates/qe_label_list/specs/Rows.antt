-- How a list of labels is held: each word once, and rows that name a word by its place.
use Rattle.std.specs.Prelude.{ℕ, ◌<◌, List, [], map, length, slice_index_or}
use Rattle.std.specs.List.{AllByRecursion}
use Rattle.qe_tokens.specs.declared.words.Label.{Label}
use Rattle.qe_tokens.specs.declared.words.Word.{Word}
use Rattle.qe_tokens.specs.declared.words.Word.TheVariants.{Stray}
use Rattle.qe_label_rows.specs.declared.row.Row.{Row}
use Rattle.qe_label_list.specs.Order.{IsInOrder}

abbrev pub word_at : List Word → ℕ → Word
word_at words place = slice_index_or words place (Stray [])

abbrev pub label_at : List Word → Row → Label
label_at words row = record { kind = row.kind; word = word_at words row.word; number = row.number }

abbrev pub entry_at : List Word → Row → Label × List ℕ
entry_at words row = (label_at words row, row.identifier)

abbrev pub entries_of : List Word → List Row → List (Label × List ℕ)
entries_of words rows = map (entry_at words) rows

-- the place of each row's word is one
abbrev pub AreKnown : List Word → List Row → Type 0
AreKnown words rows = AllByRecursion (λ row. row.word < length words) rows

-- each row names a word, and their labels rise
pub record AreHeld (words : List Word) (rows : List Row) : Type 0 where
  pub known : AreKnown words rows
  pub rising : IsInOrder (entries_of words rows)
