-- Values as plain trees, and the size of a tree.
use Rattle.std.specs.Prelude.{ℕ, suc, ◌+◌, List, [], ◌∷◌, map, Option, None, Some}
use Rattle.std.specs.Borrow.{Bor}
use Rattle.qe_value.specs.declared.value.Plain.{Plain, fold-Plain, out-Plain}
use Rattle.qe_value.specs.declared.value.Plain.TheVariants as p
use Rattle.qe_value.specs.declared.value.Plain.TheOpen.{Plain-F}
use Rattle.qe_value.specs.declared.value.Value.{Value}
use Rattle.qe_value.specs.declared.value.Value.TheVariants as v

-- a value as a tree; what it holds is seen as trees already
abbrev pub plain : Value → Plain
plain (v.Double b) = p.Double b
plain (v.Str t) = p.Str t
plain (v.Doc fs) = p.Doc fs
plain (v.Array vs) = p.Array vs
plain (v.Binary s b) = p.Binary s b
plain (v.ObjectId b) = p.ObjectId b
plain (v.Bool b) = p.Bool b
plain (v.Date z) = p.Date z
plain v.Null = p.Null
plain (v.Int32 z) = p.Int32 z
plain (v.Timestamp n) = p.Timestamp n
plain (v.Int64 z) = p.Int64 z
plain (v.Decimal b) = p.Decimal b

-- one level of a value, with what is held by it seen in some way
abbrev pub opened : {X : Type 0} → (Plain → X) → Value → Plain-F X
opened seen (v.Double b) = Plain-F.Double b
opened seen (v.Str t) = Plain-F.Str t
opened seen (v.Doc fs) = Plain-F.Doc (map (λ f. (f.0, seen f.1)) fs)
opened seen (v.Array vs) = Plain-F.Array (map seen vs)
opened seen (v.Binary s b) = Plain-F.Binary s b
opened seen (v.ObjectId b) = Plain-F.ObjectId b
opened seen (v.Bool b) = Plain-F.Bool b
opened seen (v.Date z) = Plain-F.Date z
opened seen v.Null = Plain-F.Null
opened seen (v.Int32 z) = Plain-F.Int32 z
opened seen (v.Timestamp n) = Plain-F.Timestamp n
opened seen (v.Int64 z) = Plain-F.Int64 z
opened seen (v.Decimal b) = Plain-F.Decimal b

-- a field with its value as a tree
abbrev pub field_view : List ℕ × Value → List ℕ × Plain
field_view f = (f.0, plain f.1)

-- what a reader took, and the bytes that are left
abbrev pub taken_value : Value × Bor (List ℕ) → Plain × List ℕ
taken_value x = (plain x.0, x.1.now)

abbrev pub taken_field : (List ℕ × Value) × Bor (List ℕ) → (List ℕ × Plain) × List ℕ
taken_field x = (field_view x.0, x.1.now)

-- the fields of a value that is a document
abbrev pub document_in : Value → Option (List (List ℕ × Plain))
document_in (v.Doc fs) = Some fs
document_in _ = None

-- the items of a value that is an array
abbrev pub array_in : Value → Option (List Plain)
array_in (v.Array vs) = Some vs
array_in _ = None

abbrev pub fields_open : Plain-F Plain → Option (List (List ℕ × Plain))
fields_open (Plain-F.Doc fields) = Some fields
fields_open _ = None

-- the fields of a tree that is a document
unfoldable pub fields_of : Plain → Option (List (List ℕ × Plain))
fields_of value = fields_open (out-Plain value)

abbrev pub items_open : Plain-F Plain → Option (List Plain)
items_open (Plain-F.Array items) = Some items
items_open _ = None

-- the items of a tree that is an array
unfoldable pub items_of : Plain → Option (List Plain)
items_of value = items_open (out-Plain value)

-- the sum of some numbers
abbrev pub total : List ℕ → ℕ
total [] = 0
total (n ∷ ns) = n + total ns

-- how many values a tree has, itself among them
abbrev pub size_step : Plain-F ℕ → ℕ
size_step (Plain-F.Doc fs) = suc (total (map (λ f. f.1) fs))
size_step (Plain-F.Array ns) = suc (total ns)
size_step _ = 1

unfoldable pub size_of : Plain → ℕ
size_of = fold-Plain ℕ size_step

abbrev pub size_of_items : List Plain → ℕ
size_of_items vs = total (map size_of vs)

abbrev pub size_of_fields : List (List ℕ × Plain) → ℕ
size_of_fields fs = total (map (λ f. size_of f.1) fs)
