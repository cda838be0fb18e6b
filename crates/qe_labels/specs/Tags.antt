-- Words of values, and the tags that documents have of them.
use Rattle.std.specs.Prelude.{◌≡◌, ◌≤◌, ℕ, List, [], ◌∷◌, map, Some}
use Rattle.std.specs.FinMap.{get}
use Rattle.qe_tokens.specs.Labels.{tag_token}
use Rattle.qe_tokens.specs.Tokens.{document_tag_of, edc_twice_of}
use Rattle.qe_tokens.specs.declared.words.Word.{Word}
use Rattle.qe_tokens.specs.declared.words.Word.TheVariants.{Item}
use Rattle.qe_labels.specs.Numbers.{Numbers}

module _ (root : ℕ → List ℕ) where
  -- a tag is a word's, of one of the times that it was indexed
  pub record IsTagOf (numbers : Numbers) (word : Word) (tag : List ℕ) : Type 0 where
    pub n : ℕ
    pub known : get numbers word ≡ Some n
    pub i : ℕ
    pub low : 1 ≤ i
    pub high : i ≤ n
    pub is : tag ≡ document_tag_of (edc_twice_of (tag_token root word)) i

  -- tags of words, one after another
  abbrev pub AreTagsOf : Numbers → List Word → List (List ℕ) → Type 0
  AreTagsOf numbers [] [] = Unit {0}
  AreTagsOf numbers [] (tag ∷ tags) = ⊥
  AreTagsOf numbers (word ∷ words) [] = ⊥
  AreTagsOf numbers (word ∷ words) (tag ∷ tags) = IsTagOf numbers word tag × AreTagsOf numbers words tags

-- items of a field under a factor
abbrev pub words_under : ℕ → ℕ → List (List ℕ) → List Word
words_under field factor items = map (λ item. Item field item factor) items
