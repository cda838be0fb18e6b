-- An indexed value from bytes, as a function with its first fault.
use Rattle.std.specs.Prelude.{ℕ, zero, suc, ◌-◌, ◌*◌, ◌==◌, List, [], ◌∷◌, length, take, drop, slice_index, Bool, if◌then◌else◌, Result}
use Rattle.qe_indexed.specs.declared.block.Block.{Block}
use Rattle.qe_indexed.specs.declared.fault.IndexedFault.{IndexedFault}
use Rattle.qe_indexed.specs.declared.reading.Shape.{Shape}
use Rattle.qe_indexed.specs.Parts.{Indexed}
use Rattle.qe_indexed.specs.Spelling.{head_length}
use Rattle.qe_indexed.specs.Faults.{refusal_of, unless_refused}

-- bytes cut into so many blocks
unfoldable pub blocks_in : ℕ → List ℕ → List Block
blocks_in zero bytes = []
blocks_in (suc n) bytes = record { 0 = take 96 bytes } ∷ blocks_in n (drop 96 bytes)

-- the parts of a value with so many blocks: its head, and behind it the server-encrypted value and the blocks
abbrev pub parts_by : Bool → ℕ → List ℕ → Indexed
parts_by range count bytes =
    let head = take (head_length range) bytes in
    let body = drop (head_length range) bytes in
    record {
      range = range;
      key_id = take 16 (drop 1 head);
      value_kind = slice_index head 17;
      server_value = take (length body - 96 * count) body;
      blocks = blocks_in count (drop (length body - 96 * count) body);
    }

abbrev pub is_range : List ℕ → Bool
is_range bytes = slice_index bytes 0 == 15

abbrev pub count_in : List ℕ → ℕ
count_in bytes = if is_range bytes then slice_index bytes 18 else 1

abbrev pub kind_and_count : Shape → Bool × ℕ
kind_and_count shape = (shape.range, shape.count)

-- whether it is a range value, and its number of blocks
unfoldable pub shape_at : List ℕ → Result (Bool × ℕ) IndexedFault
shape_at bytes = unless_refused (refusal_of bytes) (is_range bytes, count_in bytes)

-- the value
unfoldable pub indexed_at : List ℕ → Result Indexed IndexedFault
indexed_at bytes = unless_refused (refusal_of bytes) (parts_by (is_range bytes) (count_in bytes) bytes)
