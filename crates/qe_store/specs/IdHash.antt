-- The key by which a store finds an id, no part of what it promises: a hash of the type and the bytes. Equal ids have equal keys; other
-- ids may too.
use Rattle.std.specs.Prelude.{ℕ, List, ◌++◌, length, replicate}
use Rattle.std.specs.List.{fold}
use Rattle.std.specs.Int.{to_be_bytes, w64}
use Rattle.std.specs.Hash as fed
use Rattle.std.specs.Hash.DefaultHasher as sip
use Rattle.qe_value.specs.declared.value.Value.{Value}
use Rattle.qe_value.specs.declared.value.Value.TheVariants as v

-- what goes into the hash: the type's number, then what the value holds; of a document or an array its length
unfoldable pub key_input : Value → fed.HashWrites
key_input (v.Double b) = fed.u8 1 ++ fed.slice fed.u8 b
key_input (v.Str t) = fed.u8 2 ++ fed.str t
key_input (v.Doc fs) = fed.u8 3 ++ fed.usize (length fs)
key_input (v.Array vs) = fed.u8 4 ++ fed.usize (length vs)
key_input (v.Binary s b) = fed.u8 5 ++ fed.u8 s ++ fed.slice fed.u8 b
key_input (v.ObjectId b) = fed.u8 7 ++ fed.slice fed.u8 b
key_input (v.Bool b) = fed.u8 8 ++ fed.bool b
key_input (v.Date z) = fed.u8 9 ++ fed.i64 z
key_input v.Null = fed.u8 10
key_input (v.Int32 z) = fed.u8 16 ++ fed.i32 z
key_input (v.Timestamp n) = fed.u8 17 ++ fed.u64 n
key_input (v.Int64 z) = fed.u8 18 ++ fed.i64 z
key_input (v.Decimal b) = fed.u8 19 ++ fed.slice fed.u8 b

unfoldable pub key_hash : Value → ℕ
key_hash id = sip.finish (fold sip.write sip.initial (key_input id))

-- the key as 32 bytes: the hash, and zeros
unfoldable pub key_of : Value → List ℕ
key_of id = to_be_bytes w64 (key_hash id) ++ replicate 24 0
