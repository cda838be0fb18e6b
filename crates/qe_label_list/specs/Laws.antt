-- What the first clash of a list of labels is.
use Rattle.std.specs.Prelude.{◌≡◌, ◌↔◌, ◌<◌, ◌≤◌, ℕ, List, None, Some, slice_get}
use Rattle.qe_tokens.specs.declared.words.Label.{Label}
use Rattle.qe_labels.specs.Clashes.{first_clash, key_of}
use Rattle.qe_label_list.specs.Order.{IsInOrder}

-- no two labels, both tags or both rows, share an identifier
pub record IsClear (entries : List (Label × List ℕ)) : Type 0 where
  pub one : (first second : ℕ) (one other : Label × List ℕ) → slice_get entries first ≡ Some one → slice_get entries second ≡ Some other
      → key_of one ≡ key_of other → one.0 ≡ other.0

-- there is no clash exactly where no two labels share one
abbrev pub NoneIsClear : Type 0
NoneIsClear = (entries : List (Label × List ℕ)) → IsInOrder entries → (first_clash entries ≡ None) ↔ IsClear entries

-- the labels at two places share an identifier, and are both tags or both rows
pub record ClashAt (entries : List (Label × List ℕ)) (first second : ℕ) : Type 0 where
  pub one : Label × List ℕ
  pub other : Label × List ℕ
  pub at_first : slice_get entries first ≡ Some one
  pub at_second : slice_get entries second ≡ Some other
  pub before : first < second
  pub shared : key_of one ≡ key_of other

-- of all clashes the one whose second label is first in the order, and of those the one whose first label is
pub record IsLeast (entries : List (Label × List ℕ)) (one other : Label) : Type 0 where
  pub first : ℕ
  pub second : ℕ
  pub clash : ClashAt entries first second
  pub one_is : one ≡ clash.one.0
  pub other_is : other ≡ clash.other.0
  pub second_least : (i j : ℕ) → ClashAt entries i j → second ≤ j
  pub first_least : (i : ℕ) → ClashAt entries i second → first ≤ i

abbrev pub FirstIsLeast : Type 0
FirstIsLeast = (entries : List (Label × List ℕ)) (one other : Label) → first_clash entries ≡ Some (one, other) → IsLeast entries one other
