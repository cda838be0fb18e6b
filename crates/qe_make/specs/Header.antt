-- The header of a script that is made, as a JSON object. Names stand in the rising order of their bytes.
use Rattle.std.specs.Prelude.{ℕ, pos, negsuc, ◌-◌, ◌^◌, List, ◌++◌, replicate, codes, true}
use Rattle.std.specs.Int.{w64, to_be_bytes}
use Rattle.std.specs.List.{range_with_len}
use Rattle.hex.specs.Hex.{encode_lower}
use Rattle.serde_json.specs.Data.{Data, boolean, string, array, item, no_items, object, member, no_members}
use Rattle.qe_make.specs.Commands.{count, integer}

-- a key of 96 bytes in hex digits, which count up from the one given
unfoldable pub key_text : ℕ → List ℕ
key_text first = encode_lower (range_with_len first 96)

-- the seed in hex digits: 24 bytes 0, and the number's 8 bytes, the highest first
unfoldable pub seed_text : ℕ → List ℕ
seed_text seed = encode_lower (replicate 24 0 ++ to_be_bytes w64 seed)

-- an int of equality
unfoldable pub age_field : Data
age_field =
    object (member (codes "bsonType") (string (codes "int"))
    (member (codes "contention") (count 4)
    (member (codes "key") (string (key_text 0))
    (member (codes "keyId") (string (codes "00000000-0000-4000-8000-000000000001"))
    (member (codes "path") (string (codes "age"))
    (member (codes "query") (string (codes "equality")) no_members))))))

-- an int of a range, which is that of all int32
unfoldable pub score_field : Data
score_field =
    object (member (codes "bsonType") (string (codes "int"))
    (member (codes "contention") (count 4)
    (member (codes "key") (string (key_text 96))
    (member (codes "keyId") (string (codes "00000000-0000-4000-8000-000000000002"))
    (member (codes "max") (integer (pos (2 ^ 31 - 1)))
    (member (codes "min") (integer (negsuc (2 ^ 31 - 1)))
    (member (codes "path") (string (codes "score"))
    (member (codes "query") (string (codes "range")) no_members))))))))

unfoldable pub header : ℕ → Data
header seed =
    object (member (codes "brief") (boolean true)
    (member (codes "fields") (array (item age_field (item score_field no_items)))
    (member (codes "seed") (string (seed_text seed)) no_members)))
