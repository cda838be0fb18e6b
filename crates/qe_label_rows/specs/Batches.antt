-- Rows before they have their identifiers, and the key states of words that these are made under.
use Rattle.std.specs.Prelude.{◌≡◌, ◌<◌, ℕ, List, [], replicate, length, false}
use Rattle.std.specs.List.{All, AllZip, slice_index_or}
use Rattle.qe_lanes.specs.Keys.{IsKeyedBy}
use Rattle.qe_lanes.specs.declared.keys.LaneKey.{LaneKey}
use Rattle.qe_tokens.specs.declared.words.LabelKind.{LabelKind}
use Rattle.qe_label_rows.specs.declared.row.Row.{Row}
use Rattle.qe_label_rows.specs.declared.row.WordTokens.{WordTokens}
use Rattle.qe_label_rows.specs.Made.{identifier_under, key_for}

-- a key for each word: that of its identifiers of a kind
abbrev pub AreKeys : LabelKind → List LaneKey → List WordTokens → Type 0
AreKeys kind keys words = AllZip (λ key tokens. IsKeyedBy key (key_for kind tokens)) keys words

-- the token of the word at a place
abbrev pub key_at : LabelKind → List WordTokens → ℕ → List ℕ
key_at kind words place = key_for kind (slice_index_or words place (record { rows = []; tags = []; has_tags = false; end = 0 }))

-- each row's word is one of so many
abbrev pub HaveWords : ℕ → List Row → Type 0
HaveWords words rows = All (λ row. row.word < words) rows

-- a row before its identifier is made
abbrev pub blank : Row → Row
blank row = record row { identifier = replicate 32 0 }

abbrev pub identified_by : (Row → List ℕ) → Row → Row
identified_by identifier row = record row { identifier = identifier row }

-- the row with the identifier of its number under its word's token
abbrev pub identified : LabelKind → List WordTokens → Row → Row
identified kind words row = identified_by (λ r. identifier_under kind (key_at kind words r.word) r.number) row

-- the identifiers of the first sixteen rows, or of all where there are fewer
abbrev pub AreFirst : (Row → List ℕ) → List (List ℕ) → List Row → Type 0
AreFirst identifier identifiers rows =
    (lane : ℕ) (d : Row) → lane < 16 → lane < length rows → slice_index_or identifiers lane [] ≡ identifier (slice_index_or rows lane d)
