-- What planning the items of a value comes to: counts are appended, and the definitions give the same of them, whatever follows.
use Rattle.std.specs.Prelude.{◌≡◌, ℕ, List, [], ◌∷◌, ◌++◌, length}
use Rattle.qe_base.specs.declared.maintenance.Count.{Count}
use Rattle.qe_parts.specs.declared.edges.EdgeTokens.{EdgeTokens}
use Rattle.qe_indexed.specs.declared.block.Block.{Block}
use Rattle.qe_protocol.specs.State.{Index}
use Rattle.qe_protocol.specs.Counting.{IsCounted, next_number}
use Rattle.qe_protocol.specs.Indexing.{indexed, block_at, ItemsDone, index_items, AllowedItems}
use Rattle.qe_indexing.specs.declared.plan.Plan.{Plan}
use Rattle.qe_indexing.specs.Plans.{planned}

-- one item: its search, what is added, and its block
pub record ItemPlanned (base : Index) (field factor : ℕ) (item : EdgeTokens) (nonces : List (List ℕ)) (old new : Plan) (block : Block) : Type 0 where
  pub count : Count
  pub counts : new.counts ≡ old.counts ++ count ∷ []
  pub is_count : IsCounted (planned base old).rows item.s count
  pub index : planned base new ≡ indexed field (planned base old) count item
  pub block_is : block ≡ block_at factor item (next_number (planned base old).rows count) nonces

-- blocks before those of the items that follow
abbrev pub blocks_before : List Block → ItemsDone → ItemsDone
blocks_before blocks done = record { index = done.index; blocks = blocks ++ done.blocks; rest = done.rest }

-- some items, of which nonces are left, whatever items and counts follow
pub record ItemsPlanned (base : Index) (field factor : ℕ) (items : List EdgeTokens) (nonces left : List (List ℕ)) (old new : Plan) (blocks : List Block) : Type 0 where
  pub searched : List Count
  pub counts : new.counts ≡ old.counts ++ searched
  pub does : (others : List EdgeTokens) (more : List Count)
      → index_items field factor (planned base old) (items ++ others) nonces (searched ++ more)
      ≡ blocks_before blocks (index_items field factor (planned base new) others left more)
  pub allowed : (others : List EdgeTokens) (more : List Count)
      → AllowedItems field (planned base new) others more → AllowedItems field (planned base old) (items ++ others) (searched ++ more)
  pub many : length blocks ≡ length items
