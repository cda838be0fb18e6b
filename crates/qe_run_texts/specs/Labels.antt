-- How labels are printed: their kind, their word and their number, with a space between. Bytes are in hex, numbers decimal.
use Rattle.std.specs.Prelude.{ℕ, List, [], ◌∷◌, ◌++◌, codes}
use Rattle.std.specs.Fmt.{decimal}
use Rattle.hex.specs.Hex.{encode_lower}
use Rattle.qe_field.specs.declared.field.Field.{Field}
use Rattle.qe_field.specs.Lookup.{path_of}
use Rattle.qe_tokens.specs.declared.words.Label.{Label}
use Rattle.qe_tokens.specs.declared.words.LabelKind.{LabelKind}
use Rattle.qe_tokens.specs.declared.words.LabelKind.TheVariants.{Position, Anchor, Tag}
use Rattle.qe_tokens.specs.declared.words.Word.{Word}
use Rattle.qe_tokens.specs.declared.words.Word.TheVariants.{Item, Stray}

abbrev pub kind_word : LabelKind → List ℕ
kind_word Position = codes "position"
kind_word Anchor = codes "anchor"
kind_word Tag = codes "tag"

abbrev pub item_text : List ℕ → List ℕ → ℕ → List ℕ
item_text path item factor = path ++ (codes " " ++ (encode_lower item ++ (codes " " ++ decimal factor)))

abbrev pub stray_text : List ℕ → List ℕ
stray_text token = codes "stray " ++ encode_lower token

-- the path, the item and the contention factor, or a stray word's token
abbrev pub word_text : List Field → Word → List ℕ
word_text fields (Item field item factor) = item_text (path_of fields field) item factor
word_text fields (Stray token) = stray_text token

unfoldable pub label_text : List Field → Label → List ℕ
label_text fields label = kind_word label.kind ++ (codes " " ++ (word_text fields label.word ++ (codes " " ++ decimal label.number)))

-- the line of two labels that share an identifier
abbrev pub clash_line : List Field → Label → Label → List ℕ
clash_line fields first second = codes "clash " ++ (label_text fields first ++ (codes " " ++ (label_text fields second ++ 10 ∷ [])))
