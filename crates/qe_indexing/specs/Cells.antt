-- What planning a command's values comes to.
use Rattle.std.specs.Prelude.{◌≡◌, ◌≤◌, ℕ, List, [], ◌++◌, length, drop, nat_abs}
use Rattle.qe_base.specs.declared.maintenance.Count.{Count}
use Rattle.qe_insert.specs.declared.insert.InsertPayload.{InsertPayload}
use Rattle.qe_indexed.specs.declared.block.Block.{Block}
use Rattle.qe_indexed.specs.Spelling.{written}
use Rattle.qe_store.specs.declared.stored.Cell.{Cell}
use Rattle.qe_command.specs.declared.cells.SentCell.{SentCell}
use Rattle.qe_command.specs.declared.cells.SentCell.TheVariants as sent
use Rattle.qe_command.specs.Items.{items_of}
use Rattle.qe_protocol.specs.State.{Index}
use Rattle.qe_protocol.specs.Indexing.{indexed_value, index_cell, AllowedCell, CellsDone, index_cells, AllowedCells}
use Rattle.qe_indexing.specs.declared.plan.Plan.{Plan}
use Rattle.qe_indexing.specs.Plans.{planned}
use Rattle.qe_indexing.specs.Items.{ItemsPlanned}

-- a payload that can be stored: its type is a byte's, and it has 1 to 255 items
pub record IsStorable (payload : InsertPayload) : Type 0 where
  pub kind : nat_abs payload.t ≤ 255
  pub some : 1 ≤ length (items_of payload)
  pub few : length (items_of payload) ≤ 255

abbrev pub CanStore : SentCell → Type 0
CanStore (sent.Plain value) = Unit {0}
CanStore (sent.Payload payload) = IsStorable payload

-- one cell, whatever counts follow
pub record CellPlanned (base : Index) (field : ℕ) (cell : SentCell) (nonces : List (List ℕ)) (old new : Plan) (made : Cell) : Type 0 where
  pub searched : List Count
  pub counts : new.counts ≡ old.counts ++ searched
  pub does : (more : List Count) → index_cell field (planned base old) cell nonces (searched ++ more)
      ≡ record { index = planned base new; cell = made; rest = more }
  pub allowed : (more : List Count) → AllowedCell field (planned base old) cell (searched ++ more)

-- cells before those that follow
abbrev pub cells_before : List (ℕ × Cell) → CellsDone → CellsDone
cells_before cells done = record { index = done.index; cells = cells ++ done.cells; rest = done.rest }

-- some cells, of which nonces are left, whatever cells and counts follow
pub record CellsGoing (base : Index) (cells : List (ℕ × SentCell)) (nonces left : List (List ℕ)) (old new : Plan) (made : List (ℕ × Cell)) : Type 0 where
  pub searched : List Count
  pub counts : new.counts ≡ old.counts ++ searched
  pub does : (others : List (ℕ × SentCell)) (more : List Count)
      → index_cells (planned base old) (cells ++ others) nonces (searched ++ more) ≡ cells_before made (index_cells (planned base new) others left more)
  pub allowed : (others : List (ℕ × SentCell)) (more : List Count)
      → AllowedCells (planned base new) others left more → AllowedCells (planned base old) (cells ++ others) nonces (searched ++ more)

-- all values of a command
pub record CellsPlanned (base : Index) (cells : List (ℕ × SentCell)) (nonces : List (List ℕ)) (old new : Plan) (made : List (ℕ × Cell)) : Type 0 where
  pub searched : List Count
  pub counts : new.counts ≡ old.counts ++ searched
  pub does : index_cells (planned base old) cells nonces searched ≡ record { index = planned base new; cells = made; rest = [] }
  pub allowed : AllowedCells (planned base old) cells nonces searched

-- a value: some items' blocks, and the bytes that they are written as
pub record ValuePlanned (base : Index) (field : ℕ) (payload : InsertPayload) (nonces : List (List ℕ)) (old new : Plan) (bytes : List ℕ) : Type 0 where
  pub left : List (List ℕ)
  pub blocks : List Block
  pub items : ItemsPlanned base field (nat_abs payload.k) (items_of payload) (drop 1 nonces) left old new blocks
  pub bytes_are : bytes ≡ written (indexed_value payload nonces blocks)
