-- Lists of labels with their identifiers, in the order of labels.
use Rattle.std.specs.Prelude.{ℕ, List, map}
use Rattle.std.specs.List.Sorted.{IsStrictlySortedBy}
use Rattle.qe_tokens.specs.declared.words.Label.{Label}
use Rattle.qe_labels.specs.Listed.{label_cmp}

abbrev pub labels_in : List (Label × List ℕ) → List Label
labels_in entries = map (λ entry. entry.0) entries

-- each label stands before those that follow
abbrev pub IsInOrder : List (Label × List ℕ) → Type 0
IsInOrder entries = IsStrictlySortedBy label_cmp (labels_in entries)
