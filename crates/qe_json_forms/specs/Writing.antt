-- The forms of MongoDB Extended JSON v2 as they are written.
use Rattle.std.specs.Prelude.{ℕ, ℤ, List, [], ◌∷◌, codes}
use Rattle.std.specs.Fmt.{signed_decimal}
use Rattle.base64.specs.Engines.{standard}
use Rattle.base64.specs.GeneralPurpose.{encode_of}
use Rattle.hex.specs.Hex.{encode_lower}
use Rattle.serde_json.specs.Data.{Data, string, object, no_members, member}

-- `{"NAME":DATA}`
abbrev pub only : List ℕ → Data → Data
only name d = object (member name d no_members)

abbrev pub long : ℤ → Data
long z = only (codes "$numberLong") (string (signed_decimal z))

abbrev pub date : ℤ → Data
date millis = only (codes "$date") (long millis)

abbrev pub object_id : List ℕ → Data
object_id id = only (codes "$oid") (string (encode_lower id))

abbrev pub binary_content : ℕ → List ℕ → Data
binary_content subtype bytes =
    object (member (codes "base64") (string (encode_of standard bytes))
    (member (codes "subType") (string (encode_lower (subtype ∷ []))) no_members))

abbrev pub binary : ℕ → List ℕ → Data
binary subtype bytes = only (codes "$binary") (binary_content subtype bytes)
