-- What an identifier stands for, and when a run's identifiers tell its labels apart.
use Rattle.std.specs.Prelude.{◌≡◌, ℕ, ◌+◌, ◌*◌, ◌≤◌, List, [], Bool, true, false}
use Rattle.qe_tokens.specs.Tokens.{collections_of, edc_of, esc_of, edc_derived_of, esc_derived_of, edc_contention_of, esc_contention_of}
use Rattle.qe_tokens.specs.Tokens.{edc_twice_of, esc_tag_of, position_of, anchor_of, document_tag_of}
use Rattle.qe_tokens.specs.declared.words.Word.{Word}
use Rattle.qe_tokens.specs.declared.words.Word.TheVariants.{Item, Stray}
use Rattle.qe_tokens.specs.declared.words.LabelKind.{LabelKind}
use Rattle.qe_tokens.specs.declared.words.LabelKind.TheVariants.{Position, Anchor, Tag}
use Rattle.qe_tokens.specs.declared.words.Label.{Label}

-- a word's token of rows, where `root` has each field's root key; a stray word is such a token itself
unfoldable pub row_token : (ℕ → List ℕ) → Word → List ℕ
row_token root (Item field item factor) = esc_contention_of (esc_derived_of (esc_of (collections_of (root field))) item) factor
row_token root (Stray token) = token

-- a word's token of documents; a stray word has none
unfoldable pub tag_token : (ℕ → List ℕ) → Word → List ℕ
tag_token root (Item field item factor) = edc_contention_of (edc_derived_of (edc_of (collections_of (root field))) item) factor
tag_token root (Stray token) = []

abbrev pub identifier_by : (ℕ → List ℕ) → LabelKind → Word → ℕ → List ℕ
identifier_by root Position word number = position_of (esc_tag_of (row_token root word)) number
identifier_by root Anchor word number = anchor_of (esc_tag_of (row_token root word)) number
identifier_by root Tag word number = document_tag_of (edc_twice_of (tag_token root word)) number

-- the 32 bytes that the server sees in a label's place
abbrev pub identifier_of : (ℕ → List ℕ) → Label → List ℕ
identifier_of root label = identifier_by root label.kind label.word label.number

-- positions and tags count from 1, anchors from the null anchor
abbrev pub first_number : LabelKind → ℕ
first_number Position = 1
first_number Anchor = 0
first_number Tag = 1

-- tags are told apart among themselves, rows among themselves
abbrev pub is_tag : LabelKind → Bool
is_tag Tag = true
is_tag _ = false

-- a stray word has no tags
abbrev pub HasLabels : LabelKind → Word → Type 0
HasLabels Tag (Stray token) = ⊥
HasLabels kind word = Unit {0}

-- A label of a run: `counted word n` says that the word is one of the run's, and was indexed n times; it gives a word one
-- number, and a stray word 0.
pub record IsLabel (counted : Word → ℕ → Type 0) (label : Label) : Type 0 where
  pub count : ℕ
  pub known : counted label.word count
  pub has : HasLabels label.kind label.word
  pub low : first_number label.kind ≤ label.number
  pub high : label.number ≤ 2 * count + 2

-- no two labels of the run share an identifier
abbrev pub IsClashFree : (ℕ → List ℕ) → (Word → ℕ → Type 0) → Type 0
IsClashFree root counted = (one other : Label) → IsLabel counted one → IsLabel counted other → is_tag one.kind ≡ is_tag other.kind
    → identifier_of root one ≡ identifier_of root other → one ≡ other
