-- The rows of words, kind by kind, from the tokens of each word.
use Rattle.std.specs.Prelude.{ℕ, zero, suc, ◌+◌, ◌-◌, List, [], ◌∷◌, ◌++◌, if◌then◌else◌}
use Rattle.qe_tokens.specs.Labels.{first_number}
use Rattle.qe_tokens.specs.Tokens.{position_of, anchor_of, document_tag_of, edc_twice_of, esc_tag_of}
use Rattle.qe_tokens.specs.declared.words.LabelKind.{LabelKind}
use Rattle.qe_tokens.specs.declared.words.LabelKind.TheVariants.{Position, Anchor, Tag}
use Rattle.qe_label_rows.specs.declared.row.Row.{Row}
use Rattle.qe_label_rows.specs.declared.row.WordTokens.{WordTokens}

-- the identifier of a kind under a word's key
abbrev pub identifier_under : LabelKind → List ℕ → ℕ → List ℕ
identifier_under Position key number = position_of key number
identifier_under Anchor key number = anchor_of key number
identifier_under Tag key number = document_tag_of key number

abbrev pub row_for : LabelKind → ℕ → List ℕ → ℕ → Row
row_for kind place key number = record { kind = kind; word = place; number = number; identifier = identifier_under kind key number }

-- so many rows of the word at a place, from a number on
abbrev pub rows_from : LabelKind → ℕ → List ℕ → ℕ → ℕ → List Row
rows_from kind place key from zero = []
rows_from kind place key from (suc more) = row_for kind place key from ∷ rows_from kind place key (from + 1) more

-- the token of a word that its identifiers of a kind come from
abbrev pub token_for : LabelKind → WordTokens → List ℕ
token_for Position tokens = tokens.rows
token_for Anchor tokens = tokens.rows
token_for Tag tokens = tokens.tags

-- .. and the key that they stand under
abbrev pub key_for : LabelKind → WordTokens → List ℕ
key_for Position tokens = esc_tag_of tokens.rows
key_for Anchor tokens = esc_tag_of tokens.rows
key_for Tag tokens = edc_twice_of tokens.tags

abbrev pub count_for : LabelKind → WordTokens → ℕ
count_for Position tokens = tokens.end - 1
count_for Anchor tokens = tokens.end
count_for Tag tokens = if tokens.has_tags then tokens.end - 1 else 0

abbrev pub rows_of_word : LabelKind → ℕ → WordTokens → List Row
rows_of_word kind place tokens = rows_from kind place (key_for kind tokens) (first_number kind) (count_for kind tokens)

-- the rows of a kind of words, the first one's place given
abbrev pub rows_of_kind : LabelKind → ℕ → List WordTokens → List Row
rows_of_kind kind place [] = []
rows_of_kind kind place (tokens ∷ words) = rows_of_word kind place tokens ++ rows_of_kind kind (place + 1) words

abbrev pub rows_of_all : List WordTokens → List Row
rows_of_all words = rows_of_kind Position 0 words ++ (rows_of_kind Anchor 0 words ++ rows_of_kind Tag 0 words)
