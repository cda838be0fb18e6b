-- What holds of the numbers of a run, and of its labels.
use Rattle.std.specs.Prelude.{◌≡◌, ◌↔◌, ℕ, List, None, map, slice_get, Some}
use Rattle.std.specs.List.Sorted.{IsStrictlySortedBy}
use Rattle.qe_tokens.specs.Labels.{IsLabel, IsClashFree}
use Rattle.qe_tokens.specs.declared.words.Label.{Label}
use Rattle.qe_tokens.specs.declared.words.Word.{Word}
use Rattle.qe_labels.specs.Numbers.{Numbers, counted, learned, raised, Later}
use Rattle.qe_labels.specs.Listed.{labels, label_cmp}
use Rattle.qe_labels.specs.Clashes.{first_clash, with_identifier}

-- no two labels of the run share an identifier
pub record IsFree (root : ℕ → List ℕ) (numbers : Numbers) : Type 0 where
  pub one : IsClashFree root (counted numbers)

-- numbers only grow, and so labels stay; a run without a clash had none before
pub record Grows : Type 0 where
  pub learned : (numbers : Numbers) (word : Word) → Later numbers (learned numbers word)
  pub raised : (numbers : Numbers) (word : Word) → Later numbers (raised numbers word)
  pub labels : (before after : Numbers) → Later before after → (label : Label) → IsLabel (counted before) label → IsLabel (counted after) label
  pub free : (root : ℕ → List ℕ) (before after : Numbers) → Later before after → IsFree root after → IsFree root before

-- the list has each label of the run once, in the order of kinds, words and numbers
pub record ListsLabels (numbers : Numbers) : Type 0 where
  pub all : (label : Label) → IsLabel (counted numbers) label ↔ ((place : ℕ) × (slice_get (labels numbers) place ≡ Some label))
  pub sorted : IsStrictlySortedBy label_cmp (labels numbers)

-- a run is free of clashes exactly where no two labels in the list have one identifier
abbrev pub TestsClashes : Type 0
TestsClashes = (root : ℕ → List ℕ) (numbers : Numbers)
    → IsFree root numbers ↔ (first_clash (map (with_identifier root) (labels numbers)) ≡ None)
