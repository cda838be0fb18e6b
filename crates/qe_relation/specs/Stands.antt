-- THE RELATION between the server's rows and lists and the words of a run, which the server doesn't know.
use Rattle.std.specs.Prelude.{◌≡◌, ◌<◌, ◌≤◌, ◌⊎◌, ℕ, ◌+◌, List, [], ◌∷◌, Option, None, Some, true}
use Rattle.std.specs.List.{AllByRecursion}
use Rattle.std.specs.FinMap.{get}
use Rattle.qe_tokens.specs.Labels.{row_token}
use Rattle.qe_tokens.specs.Tokens.{collections_of, ecoc_of}
use Rattle.qe_tokens.specs.declared.words.Word.{Word}
use Rattle.qe_tokens.specs.declared.words.Word.TheVariants.{Item, Stray}
use Rattle.qe_esc.specs.Rows.{Row, Rows, has}
use Rattle.qe_esc.specs.Identifiers.{id_of}
use Rattle.qe_esc.specs.declared.key.RowKind.TheVariants.{Position, Anchor}
use Rattle.qe_ecoc.specs.Opening.{opened}
use Rattle.qe_ecoc.specs.declared.rows.Entry.{Entry}
use Rattle.qe_protocol.specs.State.{State}
use Rattle.qe_protocol.specs.Units.{Work}
use Rattle.qe_protocol.specs.Contention.{current_of}
use Rattle.qe_labels.specs.Numbers.{Numbers}
use Rattle.qe_relation.specs.Shape.{shape}

-- a stray word is of no field
abbrev pub field_of : Word → Option ℕ
field_of (Item field item factor) = Some field
field_of (Stray token) = None

module _ (root : ℕ → List ℕ) where
  -- what opens a field's rows for compaction
  abbrev pub ecoc_key : ℕ → List ℕ
  ecoc_key field = ecoc_of (collections_of (root field))

  -- a row for compaction is a word's: of its field, and opened with the field's token it is the word's token
  pub record IsRowOf (word : Word) (row : Entry) : Type 0 where
    pub field : field_of word ≡ Some row.field
    pub opens : (opened (ecoc_key row.field) row.value).token ≡ row_token root word

  -- one of the rows is the word's
  abbrev pub HasRow : Word → List Entry → Type 0
  HasRow word [] = ⊥
  HasRow word (row ∷ rows) = IsRowOf word row ⊎ HasRow word rows

  module _ (numbers : Numbers) where
    -- a row for compaction is of a word that was indexed
    pub record IsKnownRow (row : Entry) : Type 0 where
      pub word : Word
      pub n : ℕ
      pub known : get numbers word ≡ Some n
      pub some : 1 ≤ n
      pub is : IsRowOf word row

    -- an identifier is a position's of a word that was indexed so often
    pub record IsPosition (id : List ℕ) : Type 0 where
      pub word : Word
      pub n : ℕ
      pub known : get numbers word ≡ Some n
      pub i : ℕ
      pub low : 1 ≤ i
      pub high : i ≤ n
      pub is : id ≡ id_of Position (row_token root word) i

    module _ (rows : Rows) where
      -- an identifier is an anchor's of a word that was indexed: the null anchor's, or one up to the last
      pub record IsAnchor (id : List ℕ) : Type 0 where
        pub word : Word
        pub n : ℕ
        pub known : get numbers word ≡ Some n
        pub some : 1 ≤ n
        pub i : ℕ
        pub high : i ≤ (shape rows (row_token root word) n).apos + (shape rows (row_token root word) n).hop
        pub is : id ≡ id_of Anchor (row_token root word) i

      -- rows without a value are positions, and rows with one are anchors
      abbrev pub IsNamed : List ℕ → Row → Type 0
      IsNamed id None = IsPosition id
      IsNamed id (Some value) = IsAnchor id

      pub record RowsStand : Type 0 where
        -- the last anchor counts a position for each anchor at least, and no more than there were
        pub anchors : (word : Word) (n : ℕ) → get numbers word ≡ Some n
            → (shape rows (row_token root word) n).apos + (shape rows (row_token root word) n).hop ≤ (shape rows (row_token root word) n).base
        pub counted : (word : Word) (n : ℕ) → get numbers word ≡ Some n → (shape rows (row_token root word) n).base ≤ n
        -- the positions that the last anchor doesn't count are there
        pub positions : (word : Word) (n : ℕ) → get numbers word ≡ Some n
            → (i : ℕ) → (shape rows (row_token root word) n).base < i → i ≤ n → has rows (id_of Position (row_token root word) i) ≡ true
        -- and no row is there but positions and anchors of words
        pub named : (id : List ℕ) (row : Row) → get rows id ≡ Some row → IsNamed id row

      -- a captured identifier is a position's, which an anchor counts, or which the compaction of a row aside will count
      pub record IsCaptured (aside : List Entry) (id : List ℕ) : Type 0 where
        pub position : IsPosition id
        pub covered : (position.i ≤ (shape rows (row_token root position.word) position.n).base) ⊎ HasRow position.word aside

      -- a doomed identifier is that of an anchor which the null anchor counts
      pub record IsDoomed (id : List ℕ) : Type 0 where
        pub word : Word
        pub n : ℕ
        pub known : get numbers word ≡ Some n
        pub i : ℕ
        pub low : 1 ≤ i
        pub high : i ≤ (shape rows (row_token root word) n).apos
        pub is : id ≡ id_of Anchor (row_token root word) i

      pub record IndexStands (ecoc aside : List Entry) (captured doomed : List (List ℕ)) : Type 0 where
        pub rows_stand : RowsStand
        pub ecoc_known : AllByRecursion IsKnownRow ecoc
        pub aside_known : AllByRecursion IsKnownRow aside
        -- a word whose positions aren't all counted has a row for compaction
        pub covered : (word : Word) (n : ℕ) → get numbers word ≡ Some n → (shape rows (row_token root word) n).base < n
            → HasRow word ecoc ⊎ HasRow word aside
        pub are_captured : AllByRecursion (IsCaptured aside) captured
        pub are_doomed : AllByRecursion IsDoomed doomed

    -- of a state, and of the work of a step beside the rows for the next job
    abbrev pub StateStands : State → Type 0
    StateStands state = IndexStands state.index.rows state.index.ecoc state.jobs.aside state.jobs.captured state.jobs.doomed

    abbrev pub WorkStands : List Entry → Work → Type 0
    WorkStands ecoc work = IndexStands work.rows ecoc work.aside work.captured work.doomed

-- each word that was indexed has a factor up to its field's current contention
pub record AllLimited (current : List ℕ) (numbers : Numbers) : Type 0 where
  pub at : (field factor n : ℕ) (item : List ℕ) → get numbers (Item field item factor) ≡ Some n → 1 ≤ n → factor ≤ current_of current field
