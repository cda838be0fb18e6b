-- How values are indexed: what they add to the index, and what is stored in their place. The searches' counts are taken
-- off a list, and the nonces are taken by their places: for a value one, and for each of its items two.
use Rattle.std.specs.Prelude.{◌≡◌, ℕ, List, [], ◌∷◌, ◌++◌, drop, map, nat_abs, is_some, slice_index_or, None, Result, Ok, Err}
use Rattle.qe_base.specs.declared.maintenance.Count.{Count}
use Rattle.qe_seal.specs.Enciphered.{enciphered}
use Rattle.qe_tokens.specs.Tokens.{edc_twice_of}
use Rattle.qe_esc.specs.Changes.{with_row}
use Rattle.qe_esc.specs.Identifiers.{id_of}
use Rattle.qe_esc.specs.declared.key.RowKind.TheVariants.{Position}
use Rattle.qe_parts.specs.declared.edges.EdgeTokens.{EdgeTokens}
use Rattle.qe_insert.specs.declared.insert.InsertPayload.{InsertPayload}
use Rattle.qe_indexed.specs.declared.block.Block.{Block}
use Rattle.qe_indexed.specs.declared.fault.IndexedFault.{IndexedFault}
use Rattle.qe_indexed.specs.Block.{block_of, tag_in}
use Rattle.qe_indexed.specs.Parts.{Indexed}
use Rattle.qe_indexed.specs.Reading.{indexed_at}
use Rattle.qe_indexed.specs.Spelling.{written}
use Rattle.qe_store.specs.declared.stored.Cell.{Cell}
use Rattle.qe_store.specs.declared.stored.Cell.TheVariants as kept
use Rattle.qe_command.specs.declared.cells.SentCell.{SentCell}
use Rattle.qe_command.specs.declared.cells.SentCell.TheVariants as sent
use Rattle.qe_command.specs.Items.{items_of}
use Rattle.qe_command.specs.Nonces.{cell_nonces}
use Rattle.qe_protocol.specs.State.{Index}
use Rattle.qe_protocol.specs.Counting.{IsCounted, next_number}

-- the nonce at a place
abbrev pub nonce_at : List (List ℕ) → ℕ → List ℕ
nonce_at nonces place = slice_index_or nonces place []

-- an item is indexed: its next position becomes a row, unless it is one, and a row for compaction follows the others
abbrev pub indexed : ℕ → Index → Count → EdgeTokens → Index
indexed field index count item = record {
  rows = with_row index.rows (id_of Position count.token (next_number index.rows count)) None;
  ecoc = index.ecoc ++ record { field = field; value = item.p } ∷ [];
}

-- the item's block, for its number and the value's contention factor
abbrev pub block_at : ℕ → EdgeTokens → ℕ → List (List ℕ) → Block
block_at factor item number nonces =
    record { 0 = block_of number factor (edc_twice_of item.d) item.l (nonce_at nonces 0) (nonce_at nonces 1) }

-- what the index has become, the blocks that were made, and the counts that are left
pub record ItemsDone : Type 0 where
  pub index : Index
  pub blocks : List Block
  pub rest : List Count

abbrev pub with_block : Block → ItemsDone → ItemsDone
with_block block done = record { index = done.index; blocks = block ∷ done.blocks; rest = done.rest }

-- the items of a value, in their order
abbrev pub index_items : ℕ → ℕ → Index → List EdgeTokens → List (List ℕ) → List Count → ItemsDone
index_items field factor index [] nonces counts = record { index = index; blocks = []; rest = counts }
index_items field factor index (item ∷ items) nonces [] = record { index = index; blocks = []; rest = [] }
index_items field factor index (item ∷ items) nonces (count ∷ counts) =
    with_block (block_at factor item (next_number index.rows count) nonces)
    (index_items field factor (indexed field index count item) items (drop 2 nonces) counts)

-- the value as it is stored: under its first nonce `v` in AES-256-CTR, and the blocks
abbrev pub indexed_value : InsertPayload → List (List ℕ) → List Block → Indexed
indexed_value payload nonces blocks = record {
  range = is_some payload.g;
  key_id = payload.u;
  value_kind = nat_abs payload.t;
  server_value = enciphered payload.e (nonce_at nonces 0) payload.v;
  blocks = blocks;
}

-- what the index has become, what is stored in the field, and the counts that are left
pub record CellDone : Type 0 where
  pub index : Index
  pub cell : Cell
  pub rest : List Count

abbrev pub stored_value : InsertPayload → List (List ℕ) → ItemsDone → CellDone
stored_value payload nonces done =
    record { index = done.index; cell = kept.Indexed (written (indexed_value payload nonces done.blocks)); rest = done.rest }

-- a plain value is stored as it is
abbrev pub index_cell : ℕ → Index → SentCell → List (List ℕ) → List Count → CellDone
index_cell field index (sent.Plain value) nonces counts = record { index = index; cell = kept.Plain value; rest = counts }
index_cell field index (sent.Payload payload) nonces counts =
    stored_value payload nonces (index_items field (nat_abs payload.k) index (items_of payload) (drop 1 nonces) counts)

pub record CellsDone : Type 0 where
  pub index : Index
  pub cells : List (ℕ × Cell)
  pub rest : List Count

abbrev pub with_cell : ℕ × Cell → CellsDone → CellsDone
with_cell cell done = record { index = done.index; cells = cell ∷ done.cells; rest = done.rest }

-- the values of a command, in the order of their fields
abbrev pub index_cells : Index → List (ℕ × SentCell) → List (List ℕ) → List Count → CellsDone
index_cells index [] nonces counts = record { index = index; cells = []; rest = counts }
index_cells index (cell ∷ cells) nonces counts =
    let done = index_cell cell.0 index cell.1 nonces counts in
    with_cell (cell.0, done.cell) (index_cells done.index cells (drop (cell_nonces cell.1) nonces) done.rest)

-- there is a true count for each item, of the rows as they are then
abbrev pub AllowedItems : ℕ → Index → List EdgeTokens → List Count → Type 0
AllowedItems field index [] counts = Unit {0}
AllowedItems field index (item ∷ items) [] = ⊥
AllowedItems field index (item ∷ items) (count ∷ counts) =
    IsCounted index.rows item.s count × AllowedItems field (indexed field index count item) items counts

abbrev pub AllowedCell : ℕ → Index → SentCell → List Count → Type 0
AllowedCell field index (sent.Plain value) counts = Unit {0}
AllowedCell field index (sent.Payload payload) counts = AllowedItems field index (items_of payload) counts

-- the same for all values of a command, and no count is left over
abbrev pub AllowedCells : Index → List (ℕ × SentCell) → List (List ℕ) → List Count → Type 0
AllowedCells index [] nonces counts = counts ≡ []
AllowedCells index (cell ∷ cells) nonces counts =
    let done = index_cell cell.0 index cell.1 nonces counts in
    AllowedCell cell.0 index cell.1 counts × AllowedCells done.index cells (drop (cell_nonces cell.1) nonces) done.rest

-- the tags of the blocks of an indexed value
abbrev pub value_tags : Result Indexed IndexedFault → List (List ℕ)
value_tags (Ok value) = map (λ block. tag_in block.0) value.blocks
value_tags (Err fault) = []

abbrev pub cell_tags : Cell → List (List ℕ)
cell_tags (kept.Plain value) = []
cell_tags (kept.Indexed bytes) = value_tags (indexed_at bytes)

-- the tags of a document's cells, in the order of cells and blocks
abbrev pub tags_of : List (ℕ × Cell) → List (List ℕ)
tags_of [] = []
tags_of (cell ∷ cells) = cell_tags cell.1 ++ tags_of cells
