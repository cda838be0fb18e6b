-- The grammar of BSON (bsonspec.org, version 1.1) for the types of the profile: how a document is spelled as bytes,
-- and which documents are spelled. All numbers are little-endian.
use Rattle.std.specs.Prelude.{◌≡◌, ℕ, ◌+◌, ◌-◌, ◌^◌, ◌<◌, ◌≤◌, ◌==◌, Bool, true, false, zero, suc, List, [], ◌∷◌, ◌++◌, length, take, map, decimal, FitsSigned}
use Rattle.std.specs.Int.{w32, w64, to_le_bytes, cast_unsigned}
use Rattle.std.specs.List.{list_any, AllByRecursion}
use Rattle.std.specs.Str.{is_utf8}
use Rattle.qe_value.specs.declared.element_type.ElementType.{ElementType}
use Rattle.qe_value.specs.declared.element_type.ElementType.TheVariants as type
use Rattle.qe_value.specs.declared.value.Plain.{Plain, fold-Plain, out-Plain}
use Rattle.qe_value.specs.declared.value.Plain.TheOpen.{Plain-F}
use Rattle.qe_value.specs.Limits.{most_bytes, most_levels}
use Rattle.qe_value.specs.Names.{Distinct}
use Rattle.qe_value.specs.Types.{type_byte}

-- what stands for a value: its type, and the bytes behind the name
pub record Spelled : Type 0 where
  pub kind : ElementType
  pub bytes : List ℕ

-- e_list: an element is a type byte, a name, which a byte 0 ends, and a value
abbrev pub element : List ℕ → Spelled → List ℕ
element name v = type_byte v.kind ∷ (name ++ (0 ∷ v.bytes))

abbrev pub fields_bytes : List (List ℕ × Spelled) → List ℕ
fields_bytes [] = []
fields_bytes (f ∷ fs) = element f.0 f.1 ++ fields_bytes fs

-- the items of an array are elements with the names 0, 1, 2 and on
abbrev pub items_bytes : ℕ → List Spelled → List ℕ
items_bytes k [] = []
items_bytes k (v ∷ vs) = element (decimal k) v ++ items_bytes (suc k) vs

-- document: an int32 of all its bytes, elements, and a byte 0
abbrev pub framed : List ℕ → List ℕ
framed elements = to_le_bytes w32 (length elements + 5) ++ (elements ++ (0 ∷ []))

-- string: an int32 of its bytes with the last, UTF-8, and a byte 0
abbrev pub string : List ℕ → List ℕ
string text = to_le_bytes w32 (length text + 1) ++ (text ++ (0 ∷ []))

-- binary: an int32 of its bytes, the subtype, and the bytes
abbrev pub binary : ℕ → List ℕ → List ℕ
binary subtype bytes = to_le_bytes w32 (length bytes) ++ (subtype ∷ bytes)

abbrev pub flag : Bool → ℕ
flag false = 0
flag true = 1

-- one value, with what it holds spelled already
abbrev pub spelled_step : Plain-F Spelled → Spelled
spelled_step (Plain-F.Double bytes) = record { kind = type.Double; bytes = bytes }
spelled_step (Plain-F.Str text) = record { kind = type.Str; bytes = string text }
spelled_step (Plain-F.Doc fs) = record { kind = type.Doc; bytes = framed (fields_bytes fs) }
spelled_step (Plain-F.Array vs) = record { kind = type.Array; bytes = framed (items_bytes 0 vs) }
spelled_step (Plain-F.Binary subtype bytes) = record { kind = type.Binary; bytes = binary subtype bytes }
spelled_step (Plain-F.ObjectId bytes) = record { kind = type.ObjectId; bytes = bytes }
spelled_step (Plain-F.Bool b) = record { kind = type.Bool; bytes = flag b ∷ [] }
spelled_step (Plain-F.Date z) = record { kind = type.Date; bytes = to_le_bytes w64 (cast_unsigned w64 z) }
spelled_step Plain-F.Null = record { kind = type.Null; bytes = [] }
spelled_step (Plain-F.Int32 z) = record { kind = type.Int32; bytes = to_le_bytes w32 (cast_unsigned w32 z) }
spelled_step (Plain-F.Timestamp n) = record { kind = type.Timestamp; bytes = to_le_bytes w64 n }
spelled_step (Plain-F.Int64 z) = record { kind = type.Int64; bytes = to_le_bytes w64 (cast_unsigned w64 z) }
spelled_step (Plain-F.Decimal bytes) = record { kind = type.Decimal; bytes = bytes }

unfoldable pub spelled : Plain → Spelled
spelled = fold-Plain Spelled spelled_step

abbrev pub spelled_field : List ℕ × Plain → List ℕ × Spelled
spelled_field f = (f.0, spelled f.1)

-- the bytes of a document
abbrev pub document_bytes : List (List ℕ × Plain) → List ℕ
document_bytes fs = framed (fields_bytes (map spelled_field fs))

-- the bytes of an array
abbrev pub array_bytes : List Plain → List ℕ
array_bytes vs = framed (items_bytes 0 (map spelled vs))

-- cstring: UTF-8 without a byte 0
pub record IsName (name : List ℕ) : Type 0 where
  pub utf8 : is_utf8 name ≡ true
  pub no_zero : list_any (λ b. b == 0) name ≡ false

-- which values have a spelling, by what their documents and arrays have to meet
abbrev pub Fits_with : (List (List ℕ × Plain) → Type 0) → (List Plain → Type 0) → Plain-F Plain → Type 0
Fits_with Fields Items (Plain-F.Double bytes) = length bytes ≡ 8
Fits_with Fields Items (Plain-F.Str text) = is_utf8 text ≡ true
Fits_with Fields Items (Plain-F.Doc fs) = Fields fs
Fits_with Fields Items (Plain-F.Array vs) = Items vs
Fits_with Fields Items (Plain-F.Binary subtype bytes) = Unit {0}
Fits_with Fields Items (Plain-F.ObjectId bytes) = length bytes ≡ 12
Fits_with Fields Items (Plain-F.Bool b) = Unit {0}
Fits_with Fields Items (Plain-F.Date z) = FitsSigned w64 z
Fits_with Fields Items Plain-F.Null = Unit {0}
Fits_with Fields Items (Plain-F.Int32 z) = FitsSigned w32 z
Fits_with Fields Items (Plain-F.Timestamp n) = n < 2 ^ 64
Fits_with Fields Items (Plain-F.Int64 z) = FitsSigned w64 z
Fits_with Fields Items (Plain-F.Decimal bytes) = length bytes ≡ 16

-- what a value that holds no other meets by its type
abbrev pub LeafFits : Plain → Type 0
LeafFits v = Fits_with (λ _. Unit {0}) (λ _. Unit {0}) (out-Plain v)

-- the int32 of a value's length counts it; the lengths of what it holds are smaller
abbrev pub IsCounted : Plain-F Plain → Type 0
IsCounted (Plain-F.Str text) = length text + 1 < 2 ^ 31
IsCounted (Plain-F.Doc fs) = length (document_bytes fs) < 2 ^ 31
IsCounted (Plain-F.Array vs) = length (array_bytes vs) < 2 ^ 31
IsCounted (Plain-F.Binary subtype bytes) = length bytes < 2 ^ 31
IsCounted _ = Unit {0}

-- documents of at most so many levels, with distinct names at each level
unfoldable mutual
  pub FieldsFit : ℕ → List (List ℕ × Plain) → Type 0
  FieldsFit zero fs = ⊥
  FieldsFit (suc room) fs = Distinct fs × AllByRecursion (λ f. IsName f.0 × Fits_with (FieldsFit room) (ItemsFit room) (out-Plain f.1)) fs

  pub ItemsFit : ℕ → List Plain → Type 0
  ItemsFit zero vs = ⊥
  ItemsFit (suc room) vs = AllByRecursion (λ v. Fits_with (FieldsFit room) (ItemsFit room) (out-Plain v)) vs

-- a document of the profile: not too deep and not too long
pub record IsDocument (fs : List (List ℕ × Plain)) : Type 0 where
  pub fits : FieldsFit most_levels fs
  pub short : length (document_bytes fs) ≤ most_bytes

-- the first n bytes spell the document
pub record Begins (bytes : List ℕ) (fs : List (List ℕ × Plain)) (n : ℕ) : Type 0 where
  pub document : IsDocument fs
  pub front : take n bytes ≡ document_bytes fs
  pub within : n ≤ length bytes

-- the type and the bytes spell the value, which fits in a document
pub record IsAlone (kind : ℕ) (bytes : List ℕ) (v : Plain) : Type 0 where
  pub type_is : kind ≡ type_byte (spelled v).kind
  pub bytes_are : bytes ≡ (spelled v).bytes
  pub fits : Fits_with (FieldsFit (most_levels - 1)) (ItemsFit (most_levels - 1)) (out-Plain v)
  pub counted : IsCounted (out-Plain v)
