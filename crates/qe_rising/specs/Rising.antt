-- Words and labels in rising order.
use Rattle.std.specs.Prelude.{◌≡◌, ℕ, List, [], ◌∷◌, ◌++◌, map}
use Rattle.std.specs.declared.cmp.Ordering.TheVariants.{Less}
use Rattle.std.specs.List.Sorted.{IsStrictlySortedBy}
use Rattle.qe_tokens.specs.declared.words.Label.{Label}
use Rattle.qe_tokens.specs.declared.words.Word.{Word}
use Rattle.qe_labels.specs.Listed.{label_cmp}
use Rattle.qe_labels.specs.Numbers.{word_cmp}
use Rattle.qe_label_list.specs.Roots.{AreWithin}

-- what `labels_of` of qe_label_list asks of words
pub record AreCounted (fields : ℕ) (counted : List (Word × ℕ)) : Type 0 where
  pub rising : IsStrictlySortedBy word_cmp (map (λ one. one.0) counted)
  pub within : AreWithin fields counted

-- the last of the words, if any, stands before this one
abbrev pub WordStandsBehind : List (Word × ℕ) → Word → Type 0
WordStandsBehind counted word = (front : List (Word × ℕ)) (last : Word × ℕ) → counted ≡ front ++ last ∷ [] → word_cmp last.0 word ≡ Less

-- the last of the labels, if any, stands before this one
abbrev pub LabelStandsBehind : List (Label × List ℕ) → Label → Type 0
LabelStandsBehind entries label =
    (front : List (Label × List ℕ)) (last : Label × List ℕ) → entries ≡ front ++ last ∷ [] → label_cmp last.0 label ≡ Less
