-- What contracts see of an indexed value.
use Rattle.std.specs.Prelude.{ℕ, ◌≤◌, List, length, Bool, true, false}
use Rattle.qe_indexed.specs.declared.block.Block.{Block}

-- the parts of an indexed value; a range value has one block for each edge, an equality value one
pub record Indexed : Type 0 where
  pub range : Bool
  pub key_id : List ℕ
  pub value_kind : ℕ
  pub server_value : List ℕ
  pub blocks : List Block

-- the greatest number of blocks
abbrev pub most_blocks : Bool → ℕ
most_blocks false = 1
most_blocks true = 255

-- what each indexed value keeps: room for an IV, and the number of blocks
pub record IsWithin (range : Bool) (server_value : List ℕ) (blocks : List Block) : Type 0 where
  pub long : 16 ≤ length server_value
  pub some : 1 ≤ length blocks
  pub few : length blocks ≤ most_blocks range
