-- How indexed values are spelt in bytes, after IndexedEqualityEncryptedValueV2 and IndexedRangeEncryptedValueV2 of libmongocrypt.
use Rattle.std.specs.Prelude.{◌≡◌, ℕ, ◌+◌, ◌*◌, ◌-◌, ◌≤◌, List, [], ◌∷◌, ◌++◌, length, take, drop, flat_map, Bool, true, false, All}
use Rattle.qe_indexed.specs.declared.block.Block.{Block}
use Rattle.qe_indexed.specs.Parts.{Indexed, IsWithin, most_blocks}

abbrev pub first_byte : Bool → ℕ
first_byte false = 14
first_byte true = 15

-- a range value tells how many blocks it has, an equality value has one
abbrev pub edge_count : Bool → ℕ → List ℕ
edge_count false count = []
edge_count true count = count ∷ []

-- the blocks, one after another
unfoldable pub joined : List Block → List ℕ
joined blocks = flat_map (λ block. block.0) blocks

-- what stands before the server-encrypted value
unfoldable pub head_of : Bool → List ℕ → ℕ → ℕ → List ℕ
head_of range key_id value_kind count = first_byte range ∷ (key_id ++ (value_kind ∷ edge_count range count))

-- the first byte, the index key's id, the original type, the edge count, the server-encrypted value, and the blocks
unfoldable pub written : Indexed → List ℕ
written value = head_of value.range value.key_id value.value_kind (length value.blocks) ++ (value.server_value ++ joined value.blocks)

-- the bytes are this value's
pub record IsLaidOut (value : Indexed) (bytes : List ℕ) : Type 0 where
  pub within : IsWithin value.range value.server_value value.blocks
  pub key_id_long : length value.key_id ≡ 16
  pub blocks_long : All (λ block. length block.0 ≡ 96) value.blocks
  pub bytes_are : bytes ≡ written value

-- the length of the head
abbrev pub head_length : Bool → ℕ
head_length false = 18
head_length true = 19

-- the bytes begin as a value with so many blocks, and are long enough for it
pub record HasShape (range : Bool) (count : ℕ) (bytes : List ℕ) : Type 0 where
  pub first : take 1 bytes ≡ first_byte range ∷ []
  pub counted : take (head_length range - 18) (drop 18 bytes) ≡ edge_count range count
  pub some : 1 ≤ count
  pub few : count ≤ most_blocks range
  pub long : head_length range + 16 + 96 * count ≤ length bytes

-- these are the blocks that the bytes hold
pub record AreBlocks (blocks : List Block) (bytes : List ℕ) : Type 0 where
  pub each : All (λ block. length block.0 ≡ 96) blocks
  pub bytes_are : joined blocks ≡ bytes
