-- Documents and arrays are spelled by bytes where their names and values are.
use Rattle.std.proofs.Common.{◌≡◌, Bool, true, false, refl, ℕ, suc, ◌+◌, ◌/◌, ◌%◌, ◌<◌, ◌≤◌, ◌^◌, List, [], ◌∷◌, ◌++◌, length, map, decimal, sym, subst, arith}
use Rattle.std.specs.Prelude.{All}
use Rattle.std.specs.Int.{cast_unsigned, to_le_bytes, w32, w64}
use Rattle.std.specs.List.{AllByRecursion}
use Rattle.std.specs.Str.{IsAscii}
use Rattle.std.proofs.lemmas.Fmt.{IsAscii-decimal}
use Rattle.qe_base.specs.Bytes.{AreBytes}
use Rattle.qe_aes.proofs.ByteLemmas.{AreBytes-append, AreBytes-cons, AreBytes-nil}
use Rattle.qe_value.specs.declared.element_type.ElementType.{ElementType}
use Rattle.qe_value.specs.declared.element_type.ElementType.TheVariants as type
use Rattle.qe_value.specs.declared.value.Plain.{Plain}
use Rattle.qe_value.specs.declared.value.Plain.TheVariants as p
use Rattle.qe_value.specs.declared.value.Value.{Value}
use Rattle.qe_value.specs.declared.value.Value.TheVariants as v
use Rattle.qe_value.specs.Spelling.{Spelled, array_bytes, binary, document_bytes, element, fields_bytes, flag, framed, items_bytes, spelled, spelled_field, string}
use Rattle.qe_value.specs.Types.{type_byte}
use Rattle.qe_value.specs.Views.{plain}
use Rattle.qe_value.proofs.PlainLemmas.{spelled-Array, spelled-Binary, spelled-Bool, spelled-Date, spelled-Decimal, spelled-Doc, spelled-Double, spelled-Int32, spelled-Int64, spelled-Null, spelled-ObjectId, spelled-Str, spelled-Timestamp}
use Rattle.qe_held.specs.Held.{IsOfBytes}

-- ---- numbers
pub bytes_32 : (x : ℕ) → AreBytes (to_le_bytes w32 x)
bytes_32 x =
    let a : x % 256 < 256 = omega arith in
    let b : x / 256 % 256 < 256 = omega arith in
    let c : x / 65536 % 256 < 256 = omega arith in
    let d : x / 16777216 % 256 < 256 = omega arith in
    AreBytes-cons _ (x / 256 % 256 ∷ x / 65536 % 256 ∷ x / 16777216 % 256 ∷ []) a
    (AreBytes-cons _ (x / 65536 % 256 ∷ x / 16777216 % 256 ∷ []) b (AreBytes-cons _ (x / 16777216 % 256 ∷ []) c (AreBytes-cons _ [] d AreBytes-nil)))

pub bytes_64 : (x : ℕ) → AreBytes (to_le_bytes w64 x)
bytes_64 x =
    let b0 : x % 256 < 256 = omega arith in
    let b1 : x / 256 % 256 < 256 = omega arith in
    let b2 : x / 65536 % 256 < 256 = omega arith in
    let b3 : x / 16777216 % 256 < 256 = omega arith in
    let b4 : x / 4294967296 % 256 < 256 = omega arith in
    let b5 : x / 1099511627776 % 256 < 256 = omega arith in
    let b6 : x / 281474976710656 % 256 < 256 = omega arith in
    let b7 : x / 72057594037927936 % 256 < 256 = omega arith in
    let t7 = x / 72057594037927936 % 256 ∷ [] in
    let t6 = x / 281474976710656 % 256 ∷ t7 in
    let t5 = x / 1099511627776 % 256 ∷ t6 in
    let t4 = x / 4294967296 % 256 ∷ t5 in
    let t3 = x / 16777216 % 256 ∷ t4 in
    let t2 = x / 65536 % 256 ∷ t3 in
    let t1 = x / 256 % 256 ∷ t2 in
    AreBytes-cons (x % 256) t1 b0 (AreBytes-cons (x / 256 % 256) t2 b1 (AreBytes-cons (x / 65536 % 256) t3 b2 (AreBytes-cons (x / 16777216 % 256) t4 b3
    (AreBytes-cons (x / 4294967296 % 256) t5 b4 (AreBytes-cons (x / 1099511627776 % 256) t6 b5 (AreBytes-cons (x / 281474976710656 % 256) t7 b6
    (AreBytes-cons (x / 72057594037927936 % 256) [] b7 AreBytes-nil)))))))

-- ---- single values
pub bytes_string : (text : List ℕ) → AreBytes text → AreBytes (string text)
bytes_string text are =
    AreBytes-append (to_le_bytes w32 (length text + 1)) (text ++ (0 ∷ [])) (bytes_32 (length text + 1))
    (AreBytes-append text (0 ∷ []) are (AreBytes-cons 0 [] (omega arith) AreBytes-nil))

pub bytes_binary : (subtype : ℕ) (bytes : List ℕ) → subtype < 256 → AreBytes bytes → AreBytes (binary subtype bytes)
bytes_binary subtype bytes small are =
    AreBytes-append (to_le_bytes w32 (length bytes)) (subtype ∷ bytes) (bytes_32 (length bytes)) (AreBytes-cons subtype bytes small are)

pub flag_small : (b : Bool) → flag b < 256
flag_small true = omega arith
flag_small false = omega arith

-- a value of this spelling
pub bytes_as : (v : Plain) (s : Spelled) → spelled v ≡ s → AreBytes s.bytes → AreBytes (spelled v).bytes
bytes_as v s is are = subst (λ (it : Spelled). AreBytes it.bytes) (sym is) are

-- a value that holds no other
pub leaf_bytes : (x : Value) → ((fs : List (List ℕ × Plain)) → x ≡ v.Doc fs → ⊥) → ((vs : List Plain) → x ≡ v.Array vs → ⊥) → IsOfBytes x
    → AreBytes (spelled (plain x)).bytes
leaf_bytes (v.Doc fs) no_document no_array of = absurd (no_document fs refl)
leaf_bytes (v.Array vs) no_document no_array of = absurd (no_array vs refl)
leaf_bytes (v.Double bytes) no_document no_array of = bytes_as (p.Double bytes) _ (spelled-Double bytes) of
leaf_bytes (v.Str text) no_document no_array of = bytes_as (p.Str text) _ (spelled-Str text) (bytes_string text of)
leaf_bytes (v.Binary subtype bytes) no_document no_array of = bytes_as (p.Binary subtype bytes) _ (spelled-Binary subtype bytes) (bytes_binary subtype bytes of.0 of.1)
leaf_bytes (v.ObjectId bytes) no_document no_array of = bytes_as (p.ObjectId bytes) _ (spelled-ObjectId bytes) of
leaf_bytes (v.Bool b) no_document no_array of = bytes_as (p.Bool b) _ (spelled-Bool b) (AreBytes-cons (flag b) [] (flag_small b) AreBytes-nil)
leaf_bytes (v.Date z) no_document no_array of = bytes_as (p.Date z) _ (spelled-Date z) (bytes_64 (cast_unsigned w64 z))
leaf_bytes v.Null no_document no_array of = bytes_as p.Null _ spelled-Null AreBytes-nil
leaf_bytes (v.Int32 z) no_document no_array of = bytes_as (p.Int32 z) _ (spelled-Int32 z) (bytes_32 (cast_unsigned w32 z))
leaf_bytes (v.Timestamp n) no_document no_array of = bytes_as (p.Timestamp n) _ (spelled-Timestamp n) (bytes_64 n)
leaf_bytes (v.Int64 z) no_document no_array of = bytes_as (p.Int64 z) _ (spelled-Int64 z) (bytes_64 (cast_unsigned w64 z))
leaf_bytes (v.Decimal bytes) no_document no_array of = bytes_as (p.Decimal bytes) _ (spelled-Decimal bytes) of

-- ---- documents and arrays
type_small : (t : ElementType) → type_byte t < 256
type_small type.Double = omega arith
type_small type.Str = omega arith
type_small type.Doc = omega arith
type_small type.Array = omega arith
type_small type.Binary = omega arith
type_small type.ObjectId = omega arith
type_small type.Bool = omega arith
type_small type.Date = omega arith
type_small type.Null = omega arith
type_small type.Int32 = omega arith
type_small type.Timestamp = omega arith
type_small type.Int64 = omega arith
type_small type.Decimal = omega arith

element_bytes : (name : List ℕ) (s : Spelled) → AreBytes name → AreBytes s.bytes → AreBytes (element name s)
element_bytes name s named are =
    AreBytes-cons (type_byte s.kind) (name ++ (0 ∷ s.bytes)) (type_small s.kind) (AreBytes-append name (0 ∷ s.bytes) named (AreBytes-cons 0 s.bytes (omega arith) are))

framed_bytes : (elements : List ℕ) → AreBytes elements → AreBytes (framed elements)
framed_bytes elements are =
    AreBytes-append (to_le_bytes w32 (length elements + 5)) (elements ++ (0 ∷ [])) (bytes_32 (length elements + 5))
    (AreBytes-append elements (0 ∷ []) are (AreBytes-cons 0 [] (omega arith) AreBytes-nil))

abbrev pub IsPart : List ℕ × Plain → Type 0
IsPart e = AreBytes e.0 × AreBytes (spelled e.1).bytes

each_element : (es : List (List ℕ × Plain)) → AllByRecursion IsPart es → AreBytes (fields_bytes (map spelled_field es))
each_element [] each = AreBytes-nil
each_element (e ∷ es) each =
    AreBytes-append (element e.0 (spelled e.1)) (fields_bytes (map spelled_field es)) (element_bytes e.0 (spelled e.1) each.0.0 each.0.1) (each_element es each.1)

pub bytes_document : (es : List (List ℕ × Plain)) → AllByRecursion IsPart es → AreBytes (document_bytes es)
bytes_document es each = framed_bytes (fields_bytes (map spelled_field es)) (each_element es each)

pub ascii_bytes : (text : List ℕ) → IsAscii text → AreBytes text
ascii_bytes text ascii k = let small = ascii k in omega (arith, small)

each_item : (k : ℕ) (vs : List Plain) → k + length vs ≤ 2 ^ 64 → AllByRecursion (λ v. AreBytes (spelled v).bytes) vs → AreBytes (items_bytes k (map spelled vs))
each_item k [] few each = AreBytes-nil
each_item k (v ∷ vs) few each =
    AreBytes-append (element (decimal k) (spelled v)) (items_bytes (suc k) (map spelled vs))
    (element_bytes (decimal k) (spelled v) (ascii_bytes (decimal k) (IsAscii-decimal k (omega (arith, few)))) each.0) (each_item (suc k) vs (omega (arith, few)) each.1)

pub bytes_array : (vs : List Plain) → length vs ≤ 2 ^ 64 → AllByRecursion (λ v. AreBytes (spelled v).bytes) vs → AreBytes (array_bytes vs)
bytes_array vs few each = framed_bytes (items_bytes 0 (map spelled vs)) (each_item 0 vs (omega (arith, few)) each)
