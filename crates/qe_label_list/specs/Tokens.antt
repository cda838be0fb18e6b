-- What is kept of fields, items and words while labels are made.
use Rattle.std.specs.Prelude.{◌+◌, ◌*◌, ℕ, List, replicate, true, false}
use Rattle.std.specs.List.{AllZip}
use Rattle.qe_seal.specs.HmacKey.{IsKeyedBy}
use Rattle.qe_tokens.specs.Labels.{row_token, tag_token}
use Rattle.qe_tokens.specs.Tokens.{collections_of, edc_of, esc_of, edc_derived_of, esc_derived_of}
use Rattle.qe_tokens.specs.declared.tokens.RootKey.{RootKey}
use Rattle.qe_tokens.specs.declared.words.Word.{Word}
use Rattle.qe_tokens.specs.declared.words.Word.TheVariants.{Item, Stray}
use Rattle.qe_label_list.specs.declared.tokens.FieldKeys.{FieldKeys}
use Rattle.qe_label_list.specs.declared.tokens.ItemKeys.{ItemKeys}
use Rattle.qe_label_rows.specs.declared.row.WordTokens.{WordTokens}

-- the field's keys of rows and of documents
pub record IsOfField (keys : FieldKeys) (root : List ℕ) : Type 0 where
  pub rows : IsKeyedBy keys.rows (esc_of (collections_of root))
  pub tags : IsKeyedBy keys.tags (edc_of (collections_of root))

-- the item's keys of rows and of documents
pub record IsOfItem (keys : ItemKeys) (root item : List ℕ) : Type 0 where
  pub rows : IsKeyedBy keys.rows (esc_derived_of (esc_of (collections_of root)) item)
  pub tags : IsKeyedBy keys.tags (edc_derived_of (edc_of (collections_of root)) item)

-- each field's keys
abbrev pub AreOfFields : List FieldKeys → List RootKey → Type 0
AreOfFields fields roots = AllZip (λ keys root. IsOfField keys root.0) fields roots

-- what is kept of a word: its tokens, whether it has tags, and the number behind its last label
abbrev pub tokens_by : (ℕ → List ℕ) → Word → ℕ → WordTokens
tokens_by root (Item field item factor) end = record {
  rows = row_token root (Item field item factor);
  tags = tag_token root (Item field item factor);
  has_tags = true;
  end = end;
}
tokens_by root (Stray token) end = record { rows = token; tags = replicate 32 0; has_tags = false; end = end }

abbrev pub tokens_of : (ℕ → List ℕ) → Word × ℕ → WordTokens
tokens_of root one = tokens_by root one.0 (2 * one.1 + 3)
