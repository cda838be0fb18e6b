-- What reading a document gives: the document and its length, or the first fault of the profile's table that is met
-- from left to right. Each station below is some rows of that table, in its order.
use Rattle.std.specs.Prelude.{ℕ, zero, suc, ◌+◌, ◌-◌, ◌^◌, ◌==◌, nat_lt, nat_le, Bool, not, ◌||◌, List, [], ◌∷◌, ◌++◌, length, take, drop, slice_index, bytes_eq, decimal, Option, None, Some, Result, Ok, Err, if◌then◌else◌}
use Rattle.std.specs.Int.{w32, w64, from_le_bytes, cast_signed}
use Rattle.std.specs.Str.{is_utf8}
use Rattle.qe_value.specs.declared.element_type.ElementType.{ElementType}
use Rattle.qe_value.specs.declared.element_type.ElementType.TheVariants as type
use Rattle.qe_value.specs.declared.fault.BsonFault.{BsonFault}
use Rattle.qe_value.specs.declared.fault.BsonFault.TheVariants.{At}
use Rattle.qe_value.specs.declared.fault.BsonKind.{BsonKind}
use Rattle.qe_value.specs.declared.fault.BsonKind.TheVariants.{Short, LengthWrong, TooLong, NoTerminator, TypeUnknown, NotUtf8, DuplicateName, ArrayKey, BadBool, TooDeep}
use Rattle.qe_value.specs.declared.value.Plain.{Plain}
use Rattle.qe_value.specs.declared.value.Plain.TheVariants as p
use Rattle.qe_value.specs.Limits.{most_bytes, most_levels}
use Rattle.qe_value.specs.Names.{is_named}
use Rattle.qe_value.specs.Types.{type_of}

infixl 10 ◌>>=◌
abbrev pub ◌>>=◌ : {A B : Type 0} → Result A BsonFault → (A → Result B BsonFault) → Result B BsonFault
(Ok x) >>= f = f x
(Err fault) >>= f = Err fault

-- A reader is given the place behind its document's last byte, and the bytes that are left, with that last byte.
-- It answers what it read and the bytes that are left then.
abbrev pub Reader : Type 0 → Type 0
Reader A = ℕ → List ℕ → Result (A × List ℕ) BsonFault

-- a fault at the first byte that is left, where the test holds
abbrev pub unless : {A : Type 0} → Bool → ℕ → List ℕ → BsonKind → Result A BsonFault → Result A BsonFault
unless test end bytes kind others = if test then Err (At (end - length bytes) kind) else others

-- the type of a byte, and what stands behind it
abbrev pub typed_by : ℕ → List ℕ → Option ElementType → Result (Option (ElementType × List ℕ)) BsonFault
typed_by end after None = Err (At (end - suc (length after)) TypeUnknown)
typed_by end after (Some kind) = Ok (Some (kind, after))

-- the type of the next element, or none at the document's last byte
abbrev pub begins_at : ℕ → List ℕ → Result (Option (ElementType × List ℕ)) BsonFault
begins_at end [] = Err (At end NoTerminator)
begins_at end (b ∷ []) = unless (not (b == 0)) end (b ∷ []) NoTerminator (Ok None)
begins_at end (b ∷ (c ∷ bytes)) = unless (b == 0) end (b ∷ (c ∷ bytes)) LengthWrong (typed_by end (c ∷ bytes) (type_of b))

abbrev pub longer : ℕ → Option (List ℕ × List ℕ) → Option (List ℕ × List ℕ)
longer b None = None
longer b (Some s) = Some (b ∷ s.0, s.1)

-- what stands before the first 0, and what behind it, where that isn't the document's last byte
abbrev pub split_zero : List ℕ → Option (List ℕ × List ℕ)
split_zero [] = None
split_zero (b ∷ []) = None
split_zero (b ∷ (c ∷ bytes)) = if b == 0 then Some ([], c ∷ bytes) else longer b (split_zero (c ∷ bytes))

abbrev pub named_by : ℕ → List ℕ → Option (List ℕ × List ℕ) → Result (List ℕ × List ℕ) BsonFault
named_by end bytes None = Err (At (end - length bytes) NoTerminator)
named_by end bytes (Some s) = unless (not (is_utf8 s.0)) end bytes NotUtf8 (Ok s)

unfoldable pub name_at : Reader (List ℕ)
name_at end bytes = named_by end bytes (split_zero bytes)

-- so many bytes before the document's last
unfoldable pub fixed_at : ℕ → Reader (List ℕ)
fixed_at n end bytes = unless (nat_le (length bytes) n) end bytes LengthWrong (Ok (take n bytes, drop n bytes))

-- an int32 is below its least, or what it counts and the extra bytes pass the document's last
abbrev pub is_wrong : ℕ → ℕ → List ℕ → ℕ → Bool
is_wrong least extra bytes n = nat_lt n least || (nat_le (2 ^ 31) n || nat_le (length bytes) (n + extra))

-- the int32 length of a value, judged at the value's first byte
unfoldable pub count_at : ℕ → ℕ → Reader ℕ
count_at least extra end bytes = unless (nat_le (length bytes) 4) end bytes LengthWrong
    (unless (is_wrong least extra bytes (from_le_bytes w32 (take 4 bytes))) end bytes LengthWrong
    (Ok (from_le_bytes w32 (take 4 bytes), drop 4 bytes)))

unfoldable pub string_at : Reader (List ℕ)
string_at end bytes = do
  n ← count_at 1 4 end bytes
  unless (not (slice_index n.1 (n.0 - 1) == 0)) end bytes NoTerminator
      (unless (not (is_utf8 (take (n.0 - 1) n.1))) end bytes NotUtf8 (Ok (take (n.0 - 1) n.1, drop n.0 n.1)))

unfoldable pub binary_at : Reader (ℕ × List ℕ)
binary_at end bytes = do
  n ← count_at 0 5 end bytes
  Ok ((slice_index n.1 0, take n.0 (drop 1 n.1)), drop n.0 (drop 1 n.1))

unfoldable pub bool_at : Reader Bool
bool_at end bytes = do
  one ← fixed_at 1 end bytes
  unless (not (nat_le (slice_index one.0 0) 1)) end bytes BadBool (Ok (slice_index one.0 0 == 1, one.1))

-- the bytes of an inner document behind its length, and what is left behind it
unfoldable pub frame_at : Reader (List ℕ)
frame_at end bytes = do
  n ← count_at 5 0 end bytes
  Ok (take (n.0 - 4) n.1, drop (n.0 - 4) n.1)

-- a value of a type, by readers for what a document and an array hold
abbrev pub value_with : (ℕ → List ℕ → Result (List (List ℕ × Plain)) BsonFault) → (ℕ → List ℕ → Result (List Plain) BsonFault) → ElementType → Reader Plain
value_with fields items type.Double end bytes = fixed_at 8 end bytes >>= λ x. Ok (p.Double x.0, x.1)
value_with fields items type.Str end bytes = string_at end bytes >>= λ x. Ok (p.Str x.0, x.1)
value_with fields items type.Doc end bytes = frame_at end bytes >>= λ x. fields (end - length x.1) x.0 >>= λ fs. Ok (p.Doc fs, x.1)
value_with fields items type.Array end bytes = frame_at end bytes >>= λ x. items (end - length x.1) x.0 >>= λ vs. Ok (p.Array vs, x.1)
value_with fields items type.Binary end bytes = binary_at end bytes >>= λ x. Ok (p.Binary x.0.0 x.0.1, x.1)
value_with fields items type.ObjectId end bytes = fixed_at 12 end bytes >>= λ x. Ok (p.ObjectId x.0, x.1)
value_with fields items type.Bool end bytes = bool_at end bytes >>= λ x. Ok (p.Bool x.0, x.1)
value_with fields items type.Date end bytes = fixed_at 8 end bytes >>= λ x. Ok (p.Date (cast_signed w64 (from_le_bytes w64 x.0)), x.1)
value_with fields items type.Null end bytes = Ok (p.Null, bytes)
value_with fields items type.Int32 end bytes = fixed_at 4 end bytes >>= λ x. Ok (p.Int32 (cast_signed w32 (from_le_bytes w32 x.0)), x.1)
value_with fields items type.Timestamp end bytes = fixed_at 8 end bytes >>= λ x. Ok (p.Timestamp (from_le_bytes w64 x.0), x.1)
value_with fields items type.Int64 end bytes = fixed_at 8 end bytes >>= λ x. Ok (p.Int64 (cast_signed w64 (from_le_bytes w64 x.0)), x.1)
value_with fields items type.Decimal end bytes = fixed_at 16 end bytes >>= λ x. Ok (p.Decimal x.0, x.1)

-- what an element gives, where one begins
abbrev pub element_with : {A : Type 0} → (ElementType → List ℕ → Result (A × List ℕ) BsonFault) → Option (ElementType × List ℕ) → Result (Option (A × List ℕ)) BsonFault
element_with read None = Ok None
element_with read (Some b) = read b.0 b.1 >>= λ x. Ok (Some x)

-- the next field of a document that has some fields before it
unfoldable pub field_at : (ElementType → Reader Plain) → List (List ℕ × Plain) → ℕ → List ℕ → Result (Option ((List ℕ × Plain) × List ℕ)) BsonFault
field_at value before end bytes = begins_at end bytes >>= element_with (λ kind after. do
  name ← name_at end after
  unless (is_named name.0 before) end after DuplicateName (value kind end name.1 >>= λ v. Ok ((name.0, v.0), v.1)))

-- the next item of an array that has some items before it
unfoldable pub item_at : (ElementType → Reader Plain) → List Plain → ℕ → List ℕ → Result (Option (Plain × List ℕ)) BsonFault
item_at value before end bytes = begins_at end bytes >>= element_with (λ kind after. do
  name ← name_at end after
  unless (not (bytes_eq name.0 (decimal (length before)))) end after ArrayKey (value kind end name.1))

-- all elements to the document's end; the number of turns is as large as the count of the bytes, which is enough
abbrev pub on_with : {A : Type 0} → List A → (List A → List ℕ → Result (List A) BsonFault) → Option (A × List ℕ) → Result (List A) BsonFault
on_with before next None = Ok before
on_with before next (Some x) = next (before ++ x.0 ∷ []) x.1

unfoldable pub all_at : {A : Type 0} → (List A → ℕ → List ℕ → Result (Option (A × List ℕ)) BsonFault) → ℕ → List A → ℕ → List ℕ → Result (List A) BsonFault
all_at one zero before end bytes = Err (At end NoTerminator)
all_at one (suc turns) before end bytes = one before end bytes >>= on_with before (λ all rest. all_at one turns all end rest)

-- what stands in a document behind its length, where so many levels are left; the length's first byte is the place
-- of a document that is too deep
unfoldable mutual
  pub fields_in : ℕ → ℕ → List ℕ → Result (List (List ℕ × Plain)) BsonFault
  fields_in zero end bytes = Err (At (end - length bytes - 4) TooDeep)
  fields_in (suc room) end bytes = all_at (field_at (value_with (fields_in room) (items_in room))) (length bytes) [] end bytes

  pub items_in : ℕ → ℕ → List ℕ → Result (List Plain) BsonFault
  items_in zero end bytes = Err (At (end - length bytes - 4) TooDeep)
  items_in (suc room) end bytes = all_at (item_at (value_with (fields_in room) (items_in room))) (length bytes) [] end bytes

abbrev pub value_at : ℕ → ElementType → Reader Plain
value_at room = value_with (fields_in room) (items_in room)

-- the outermost document's length
unfoldable pub length_at : List ℕ → Result ℕ BsonFault
length_at bytes =
    if nat_lt (length bytes) 4 then Err (At (length bytes) Short)
    else if nat_lt (from_le_bytes w32 (take 4 bytes)) 5 || nat_le (2 ^ 31) (from_le_bytes w32 (take 4 bytes)) then Err (At 0 LengthWrong)
    else if nat_lt most_bytes (from_le_bytes w32 (take 4 bytes)) then Err (At 0 TooLong)
    else if nat_lt (length bytes) (from_le_bytes w32 (take 4 bytes)) then Err (At (length bytes) Short)
    else Ok (from_le_bytes w32 (take 4 bytes))

-- the document that begins the bytes, and its length
unfoldable pub document_at : List ℕ → Result (List (List ℕ × Plain) × ℕ) BsonFault
document_at bytes = do
  n ← length_at bytes
  fields ← fields_in most_levels n (take (n - 4) (drop 4 bytes))
  Ok (fields, n)

-- a value that stands alone, as all that is before the last byte of a document at depth 1
unfoldable pub typed_alone : ElementType → List ℕ → Result Plain BsonFault
typed_alone kind bytes = do
  v ← value_at (most_levels - 1) kind (length bytes + 1) (bytes ++ 0 ∷ [])
  unless (not (length v.1 == 1)) (length bytes + 1) v.1 LengthWrong (Ok v.0)

-- and of a type that a byte names; another byte is no type
abbrev pub alone_of : List ℕ → Option ElementType → Result Plain BsonFault
alone_of bytes None = Err (At 0 TypeUnknown)
alone_of bytes (Some kind) = typed_alone kind bytes

abbrev pub alone_at : ℕ → List ℕ → Result Plain BsonFault
alone_at kind bytes = alone_of bytes (type_of kind)
