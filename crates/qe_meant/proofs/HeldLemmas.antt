-- Values of the types that fields and ids have are values that BSON has, alone, where they aren't too long.
use Rattle.std.proofs.Common.{◌≡◌, ◌+◌, ◌/◌, ◌%◌, ◌<◌, ◌^◌, ℕ, List, [], ◌∷◌, ◌++◌, length, Bool, true, false, refl, sym, ap, ◌∙◌, subst, arith, rules}
use Rattle.std.specs.Int.{cast_unsigned, to_le_bytes, w32, w64}
use Rattle.std.proofs.lemmas.Bool.{false≢true}
use Rattle.qe_base.specs.Bytes.{AreBytes}
use Rattle.qe_aes.proofs.ByteLemmas.{AreBytes-append, AreBytes-cons, AreBytes-nil}
use Rattle.qe_value.specs.declared.value.Plain.{Plain, out-Plain, the_lemmas}
use Rattle.qe_value.specs.declared.value.Plain.TheOpen.{Plain-F}
use Rattle.qe_value.specs.declared.value.Plain.TheVariants as p
use Rattle.qe_value.specs.declared.value.Value.{Value}
use Rattle.qe_value.specs.declared.value.Value.TheVariants as v
use Rattle.qe_value.specs.Measures.{value_length}
use Rattle.qe_value.specs.Spelling.{FieldsFit, Fits_with, IsAlone, IsCounted, ItemsFit, Spelled, binary, flag, spelled, string}
use Rattle.qe_value.specs.Types.{type_byte}
use Rattle.qe_value.specs.Views.{plain}
use Rattle.qe_value.proofs.PlainLemmas.{out-Binary, out-Bool, out-Date, out-Int32, out-Int64, out-ObjectId, out-Str, spelled-Array, spelled-Binary, spelled-Bool, spelled-Date, spelled-Decimal, spelled-Doc, spelled-Double, spelled-Int32, spelled-Int64, spelled-Null, spelled-ObjectId, spelled-Str, spelled-Timestamp}
use Rattle.qe_field.specs.Schema.{is_value_kind}
use Rattle.qe_field.specs.Values.{kind_of}
use Rattle.qe_meant.specs.Held.{IsHeld, IsHeldTree}

-- ---- bytes of numbers
bytes_32 : (x : ℕ) → AreBytes (to_le_bytes w32 x)
bytes_32 x =
    let a : x % 256 < 256 = omega arith in
    let b : x / 256 % 256 < 256 = omega arith in
    let c : x / 65536 % 256 < 256 = omega arith in
    let d : x / 16777216 % 256 < 256 = omega arith in
    AreBytes-cons _ (x / 256 % 256 ∷ x / 65536 % 256 ∷ x / 16777216 % 256 ∷ []) a
    (AreBytes-cons _ (x / 65536 % 256 ∷ x / 16777216 % 256 ∷ []) b (AreBytes-cons _ (x / 16777216 % 256 ∷ []) c (AreBytes-cons _ [] d AreBytes-nil)))

bytes_64 : (x : ℕ) → AreBytes (to_le_bytes w64 x)
bytes_64 x =
    let b0 : x % 256 < 256 = omega arith in
    let b1 : x / 256 % 256 < 256 = omega arith in
    let b2 : x / 65536 % 256 < 256 = omega arith in
    let b3 : x / 16777216 % 256 < 256 = omega arith in
    let b4 : x / 4294967296 % 256 < 256 = omega arith in
    let b5 : x / 1099511627776 % 256 < 256 = omega arith in
    let b6 : x / 281474976710656 % 256 < 256 = omega arith in
    let b7 : x / 72057594037927936 % 256 < 256 = omega arith in
    let t7 = x / 72057594037927936 % 256 ∷ [] in
    let t6 = x / 281474976710656 % 256 ∷ t7 in
    let t5 = x / 1099511627776 % 256 ∷ t6 in
    let t4 = x / 4294967296 % 256 ∷ t5 in
    let t3 = x / 16777216 % 256 ∷ t4 in
    let t2 = x / 65536 % 256 ∷ t3 in
    let t1 = x / 256 % 256 ∷ t2 in
    AreBytes-cons (x % 256) t1 b0 (AreBytes-cons (x / 256 % 256) t2 b1 (AreBytes-cons (x / 65536 % 256) t3 b2 (AreBytes-cons (x / 16777216 % 256) t4 b3
    (AreBytes-cons (x / 4294967296 % 256) t5 b4 (AreBytes-cons (x / 1099511627776 % 256) t6 b5 (AreBytes-cons (x / 281474976710656 % 256) t7 b6
    (AreBytes-cons (x / 72057594037927936 % 256) [] b7 AreBytes-nil)))))))

bytes_string : (text : List ℕ) → AreBytes text → AreBytes (string text)
bytes_string text are =
    AreBytes-append (to_le_bytes w32 (length text + 1)) (text ++ (0 ∷ [])) (bytes_32 (length text + 1))
    (AreBytes-append text (0 ∷ []) are (AreBytes-cons 0 [] (omega arith) AreBytes-nil))

bytes_binary : (subtype : ℕ) (bytes : List ℕ) → subtype < 256 → AreBytes bytes → AreBytes (binary subtype bytes)
bytes_binary subtype bytes small are =
    AreBytes-append (to_le_bytes w32 (length bytes)) (subtype ∷ bytes) (bytes_32 (length bytes)) (AreBytes-cons subtype bytes small are)

bytes_flag : (b : Bool) → AreBytes (flag b ∷ [])
bytes_flag true = AreBytes-cons 1 [] (omega arith) AreBytes-nil
bytes_flag false = AreBytes-cons 0 [] (omega arith) AreBytes-nil

-- ---- lengths
length-Str : (text : List ℕ) → value_length (p.Str text) ≡ length text + 5
unfolding value_length
length-Str text = search (rules, the_lemmas)

length-Binary : (subtype : ℕ) (bytes : List ℕ) → value_length (p.Binary subtype bytes) ≡ length bytes + 5
unfolding value_length
length-Binary subtype bytes = search (rules, the_lemmas)

-- ---- values
-- what is to be shown of a value
pub record IsValue (value : Plain) : Type 0 where
  pub alone : IsAlone (kind_of value) (spelled value).bytes value
  pub bytes : AreBytes (spelled value).bytes

module _ (value : Plain) (open_value : Plain-F Plain) (spells : Spelled) (out_is : out-Plain value ≡ open_value) (spelled_is : spelled value ≡ spells) where
  is_value : Fits_with (FieldsFit 99) (ItemsFit 99) open_value → IsCounted open_value → AreBytes spells.bytes → IsValue value
  is_value fits counts are = record {
    alone = record {
      type_is = refl;
      bytes_are = refl;
      fits = subst (Fits_with (FieldsFit 99) (ItemsFit 99)) (sym out_is) fits;
      counted = subst IsCounted (sym out_is) counts;
    };
    bytes = subst (λ (s : Spelled). AreBytes s.bytes) (sym spelled_is) are;
  }

-- no field has a value of another type
no_kind : (value : Plain) (spells : Spelled) → spelled value ≡ spells → is_value_kind (type_byte spells.kind) ≡ false → is_value_kind (kind_of value) ≡ true → IsValue value
no_kind value spells is other kind = absurd (false≢true (sym other ∙ ap (λ (s : Spelled). is_value_kind (type_byte s.kind)) (sym is) ∙ kind))

value_held : (value : Value) → IsHeld value → is_value_kind (kind_of (plain value)) ≡ true → value_length (plain value) < 2 ^ 31 → IsValue (plain value)
value_held (v.Str text) held kind short =
    is_value (p.Str text) _ _ (out-Str text) (spelled-Str text) held.0 (omega (arith, short, length-Str text)) (bytes_string text held.1)
value_held (v.Binary subtype bytes) held kind short =
    is_value (p.Binary subtype bytes) _ _ (out-Binary subtype bytes) (spelled-Binary subtype bytes) tt (omega (arith, short, length-Binary subtype bytes)) (bytes_binary subtype bytes held.0 held.1)
value_held (v.ObjectId bytes) held kind short =
    is_value (p.ObjectId bytes) _ _ (out-ObjectId bytes) (spelled-ObjectId bytes) held.0 tt held.1
value_held (v.Bool b) held kind short = is_value (p.Bool b) _ _ (out-Bool b) (spelled-Bool b) tt tt (bytes_flag b)
value_held (v.Date z) held kind short = is_value (p.Date z) _ _ (out-Date z) (spelled-Date z) held tt (bytes_64 (cast_unsigned w64 z))
value_held (v.Int32 z) held kind short = is_value (p.Int32 z) _ _ (out-Int32 z) (spelled-Int32 z) held tt (bytes_32 (cast_unsigned w32 z))
value_held (v.Int64 z) held kind short = is_value (p.Int64 z) _ _ (out-Int64 z) (spelled-Int64 z) held tt (bytes_64 (cast_unsigned w64 z))
value_held (v.Double bytes) held kind short = no_kind (p.Double bytes) _ (spelled-Double bytes) refl kind
value_held (v.Doc fs) held kind short = no_kind (p.Doc fs) _ (spelled-Doc fs) refl kind
value_held (v.Array vs) held kind short = no_kind (p.Array vs) _ (spelled-Array vs) refl kind
value_held v.Null held kind short = no_kind p.Null _ spelled-Null refl kind
value_held (v.Timestamp n) held kind short = no_kind (p.Timestamp n) _ (spelled-Timestamp n) refl kind
value_held (v.Decimal bytes) held kind short = no_kind (p.Decimal bytes) _ (spelled-Decimal bytes) refl kind

-- .. a tree that is one's
pub held_is_value : (tree : Plain) → IsHeldTree tree → is_value_kind (kind_of tree) ≡ true → value_length tree < 2 ^ 31 → IsValue tree
held_is_value tree of =
    subst (λ (w : Plain). is_value_kind (kind_of w) ≡ true → value_length w < 2 ^ 31 → IsValue w) of.is (value_held of.value of.held)
