-- A tree, level by level: how each value is spelled, and what it opens to.
use Rattle.std.proofs.Common.{◌≡◌, ℕ, ℤ, Bool, List, [], ◌∷◌, map, rules}
use Rattle.std.specs.Int.{w32, w64, to_le_bytes, cast_unsigned}
use Rattle.std.proofs.lemmas.Simd.{map-map}
use Rattle.qe_value.specs.declared.element_type.ElementType.TheVariants as type
use Rattle.qe_value.specs.declared.value.Plain.{Plain, roll-Plain, out-Plain, the_lemmas}
use Rattle.qe_value.specs.declared.value.Plain.TheOpen.{Plain-F}
use Rattle.qe_value.specs.declared.value.Plain.TheVariants as p
use Rattle.qe_value.specs.Spelling.{string, binary, flag, framed, fields_bytes, items_bytes, spelled, spelled_field}

pub spelled-Double : (b : List ℕ) → spelled (p.Double b) ≡ record { kind = type.Double; bytes = b }
unfolding spelled
spelled-Double b = search (rules, the_lemmas)

pub out-Double : (b : List ℕ) → out-Plain (p.Double b) ≡ Plain-F.Double b
out-Double b = search (rules, the_lemmas)

pub spelled-Str : (t : List ℕ) → spelled (p.Str t) ≡ record { kind = type.Str; bytes = string t }
unfolding spelled
spelled-Str t = search (rules, the_lemmas)

pub out-Str : (t : List ℕ) → out-Plain (p.Str t) ≡ Plain-F.Str t
out-Str t = search (rules, the_lemmas)

pub spelled-Binary : (s : ℕ) (b : List ℕ) → spelled (p.Binary s b) ≡ record { kind = type.Binary; bytes = binary s b }
unfolding spelled
spelled-Binary s b = search (rules, the_lemmas)

pub out-Binary : (s : ℕ) (b : List ℕ) → out-Plain (p.Binary s b) ≡ Plain-F.Binary s b
out-Binary s b = search (rules, the_lemmas)

pub spelled-ObjectId : (b : List ℕ) → spelled (p.ObjectId b) ≡ record { kind = type.ObjectId; bytes = b }
unfolding spelled
spelled-ObjectId b = search (rules, the_lemmas)

pub out-ObjectId : (b : List ℕ) → out-Plain (p.ObjectId b) ≡ Plain-F.ObjectId b
out-ObjectId b = search (rules, the_lemmas)

pub spelled-Bool : (t : Bool) → spelled (p.Bool t) ≡ record { kind = type.Bool; bytes = flag t ∷ [] }
unfolding spelled
spelled-Bool t = search (rules, the_lemmas)

pub out-Bool : (t : Bool) → out-Plain (p.Bool t) ≡ Plain-F.Bool t
out-Bool t = search (rules, the_lemmas)

pub spelled-Date : (z : ℤ) → spelled (p.Date z) ≡ record { kind = type.Date; bytes = to_le_bytes w64 (cast_unsigned w64 z) }
unfolding spelled
spelled-Date z = search (rules, the_lemmas)

pub out-Date : (z : ℤ) → out-Plain (p.Date z) ≡ Plain-F.Date z
out-Date z = search (rules, the_lemmas)

pub spelled-Null : spelled p.Null ≡ record { kind = type.Null; bytes = [] }
unfolding spelled
spelled-Null = search (rules, the_lemmas)

pub out-Null : out-Plain p.Null ≡ Plain-F.Null
out-Null = search (rules, the_lemmas)

pub spelled-Int32 : (z : ℤ) → spelled (p.Int32 z) ≡ record { kind = type.Int32; bytes = to_le_bytes w32 (cast_unsigned w32 z) }
unfolding spelled
spelled-Int32 z = search (rules, the_lemmas)

pub out-Int32 : (z : ℤ) → out-Plain (p.Int32 z) ≡ Plain-F.Int32 z
out-Int32 z = search (rules, the_lemmas)

pub spelled-Timestamp : (n : ℕ) → spelled (p.Timestamp n) ≡ record { kind = type.Timestamp; bytes = to_le_bytes w64 n }
unfolding spelled
spelled-Timestamp n = search (rules, the_lemmas)

pub out-Timestamp : (n : ℕ) → out-Plain (p.Timestamp n) ≡ Plain-F.Timestamp n
out-Timestamp n = search (rules, the_lemmas)

pub spelled-Int64 : (z : ℤ) → spelled (p.Int64 z) ≡ record { kind = type.Int64; bytes = to_le_bytes w64 (cast_unsigned w64 z) }
unfolding spelled
spelled-Int64 z = search (rules, the_lemmas)

pub out-Int64 : (z : ℤ) → out-Plain (p.Int64 z) ≡ Plain-F.Int64 z
out-Int64 z = search (rules, the_lemmas)

pub spelled-Decimal : (b : List ℕ) → spelled (p.Decimal b) ≡ record { kind = type.Decimal; bytes = b }
unfolding spelled
spelled-Decimal b = search (rules, the_lemmas)

pub out-Decimal : (b : List ℕ) → out-Plain (p.Decimal b) ≡ Plain-F.Decimal b
out-Decimal b = search (rules, the_lemmas)

pub spelled-Doc : (fs : List (List ℕ × Plain)) → spelled (p.Doc fs) ≡ record { kind = type.Doc; bytes = framed (fields_bytes (map spelled_field fs)) }
unfolding spelled
spelled-Doc fs = search (rules, the_lemmas, map-map)

pub out-Doc : (fs : List (List ℕ × Plain)) → out-Plain (p.Doc fs) ≡ Plain-F.Doc fs
out-Doc fs = search (rules, the_lemmas)

pub spelled-Array : (vs : List Plain) → spelled (p.Array vs) ≡ record { kind = type.Array; bytes = framed (items_bytes 0 (map spelled vs)) }
unfolding spelled
spelled-Array vs = search (rules, the_lemmas, map-map)

pub out-Array : (vs : List Plain) → out-Plain (p.Array vs) ≡ Plain-F.Array vs
out-Array vs = search (rules, the_lemmas)

-- a tree is what it opens to, rolled again
pub rolled : (v : Plain) → roll-Plain (out-Plain v) ≡ v
rolled v = search (rules, the_lemmas)
