-- What is sent of an item.
use Rattle.std.specs.Prelude.{◌≡◌, ℕ, List, [], ◌∷◌}
use Rattle.qe_tokens.specs.Labels.{row_token, tag_token}
use Rattle.qe_tokens.specs.declared.words.Word.{Word}
use Rattle.qe_tokens.specs.declared.words.Word.TheVariants.{Item}
use Rattle.qe_ecoc.specs.Opening.{opened}
use Rattle.qe_parts.specs.declared.edges.EdgeTokens.{EdgeTokens}
use Rattle.qe_relation.specs.Stands.{ecoc_key}

module _ (root : ℕ → List ℕ) where
  -- an item's tokens, by the token tree, for its field and a factor; its token of rows is behind an IV too
  pub record IsItemOf (word : Word) (field : ℕ) (item : EdgeTokens) : Type 0 where
    pub rows : item.s ≡ row_token root word
    pub tags : item.d ≡ tag_token root word
    pub opens : (opened (ecoc_key root field) item.p).token ≡ row_token root word

  -- a value's items, one after another, under one factor
  abbrev pub AreItemsOf : ℕ → ℕ → List (List ℕ) → List EdgeTokens → Type 0
  AreItemsOf field factor [] [] = Unit {0}
  AreItemsOf field factor [] (item ∷ items) = ⊥
  AreItemsOf field factor (x ∷ xs) [] = ⊥
  AreItemsOf field factor (x ∷ xs) (item ∷ items) = IsItemOf (Item field x factor) field item × AreItemsOf field factor xs items
