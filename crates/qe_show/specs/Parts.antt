-- The parts of a line: `NAME=TEXT`, each behind a space.
use Rattle.std.specs.Prelude.{ℕ, ◌+◌, ℤ, List, [], ◌∷◌, ◌++◌, codes}
use Rattle.std.specs.Fmt.{decimal, signed_decimal}
use Rattle.std.specs.List.{flat_map}
use Rattle.hex.specs.Hex.{encode_lower}
use Rattle.uuid.specs.Text.{hyphenated_text, lower}
use Rattle.qe_document.specs.Spelling.{spelled}
use Rattle.qe_document.specs.Types.{type_byte}
use Rattle.qe_value.specs.declared.value.Plain.{Plain}
use Rattle.qe_layout.specs.Layouts.{Element}

unfoldable pub named : List ℕ → List ℕ → List ℕ
named name text = codes " " ++ (name ++ (codes "=" ++ text))

abbrev pub hex_part : List ℕ → List ℕ → List ℕ
hex_part name bytes = named name (encode_lower bytes)

abbrev pub number_part : List ℕ → ℤ → List ℕ
number_part name number = named name (signed_decimal number)

abbrev pub uuid_part : List ℕ → List ℕ → List ℕ
uuid_part name id = named name (hyphenated_text lower id)

-- a token of the edge at a place
abbrev pub token_part : ℕ → List ℕ → List ℕ → List ℕ
token_part place name token = hex_part (codes "g" ++ (decimal place ++ (codes "." ++ name))) token

-- the parts of items, whose places count from the one given
abbrev pub parts_from : {A : Type 0} → (ℕ → A → List ℕ) → ℕ → List A → List ℕ
parts_from part place [] = []
parts_from part place (item ∷ items) = part place item ++ parts_from part (place + 1) items

-- a value that is carried unread: its type in two hex digits, a colon, and its bytes
unfoldable pub carried_text : Plain → List ℕ
carried_text value = encode_lower (type_byte (spelled value).kind ∷ []) ++ (codes ":" ++ encode_lower (spelled value).bytes)

abbrev pub carried_part : Element → List ℕ
carried_part element = named element.0 (carried_text element.1)

abbrev pub carried_parts : List Element → List ℕ
carried_parts elements = flat_map carried_part elements
