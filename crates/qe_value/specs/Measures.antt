-- How deep a value is, whether a name in it holds a byte 0, whether names are distinct at each level, and how many bytes
-- it has.
use Rattle.std.specs.Prelude.{ℕ, suc, ◌+◌, ◌==◌, max, Bool, true, false, not, ◌||◌, ◌&&◌, List, [], ◌∷◌, length, map, decimal, bytes_eq}
use Rattle.std.specs.List.{list_any}
use Rattle.qe_value.specs.declared.value.Plain.{Plain, fold-Plain}
use Rattle.qe_value.specs.declared.value.Plain.TheOpen.{Plain-F}

abbrev pub greatest : List ℕ → ℕ
greatest [] = 0
greatest (n ∷ ns) = max n (greatest ns)

-- how many levels of documents and arrays a value has
abbrev pub depth_step : Plain-F ℕ → ℕ
depth_step (Plain-F.Doc fs) = suc (greatest (map (λ f. f.1) fs))
depth_step (Plain-F.Array ds) = suc (greatest ds)
depth_step _ = 0

unfoldable pub depth : Plain → ℕ
depth = fold-Plain ℕ depth_step

-- the depth of a document, which is 1 for one that holds no other
abbrev pub fields_depth : List (List ℕ × Plain) → ℕ
fields_depth fs = suc (greatest (map (λ f. depth f.1) fs))

abbrev pub items_depth : List Plain → ℕ
items_depth vs = suc (greatest (map depth vs))

abbrev pub holds_zero : List ℕ → Bool
holds_zero name = list_any (λ b. b == 0) name

abbrev pub any_true : List Bool → Bool
any_true [] = false
any_true (b ∷ bs) = b || any_true bs

-- whether a name in the value holds the byte 0
abbrev pub zero_step : Plain-F Bool → Bool
zero_step (Plain-F.Doc fs) = any_true (map (λ f. holds_zero f.0 || f.1) fs)
zero_step (Plain-F.Array bs) = any_true bs
zero_step _ = false

unfoldable pub zero_in : Plain → Bool
zero_in = fold-Plain Bool zero_step

abbrev pub zero_in_fields : List (List ℕ × Plain) → Bool
zero_in_fields fs = any_true (map (λ f. holds_zero f.0 || zero_in f.1) fs)

abbrev pub zero_in_items : List Plain → Bool
zero_in_items vs = any_true (map zero_in vs)

-- whether no name stands twice
abbrev pub are_distinct : List (List ℕ) → Bool
are_distinct [] = true
are_distinct (name ∷ names) = not (list_any (λ other. bytes_eq name other) names) && are_distinct names

abbrev pub all_true : List Bool → Bool
all_true [] = true
all_true (b ∷ bs) = b && all_true bs

-- whether names are distinct in each document of the value
abbrev pub distinct_step : Plain-F Bool → Bool
distinct_step (Plain-F.Doc fs) = are_distinct (map (λ f. f.0) fs) && all_true (map (λ f. f.1) fs)
distinct_step (Plain-F.Array bs) = all_true bs
distinct_step _ = true

unfoldable pub distinct_in : Plain → Bool
distinct_in = fold-Plain Bool distinct_step

abbrev pub distinct_in_fields : List (List ℕ × Plain) → Bool
distinct_in_fields fs = are_distinct (map (λ f. f.0) fs) && all_true (map (λ f. distinct_in f.1) fs)

abbrev pub distinct_in_items : List Plain → Bool
distinct_in_items vs = all_true (map distinct_in vs)

-- the bytes of elements, by their names and the lengths of their values: a type, the name, a 0, and the value
abbrev pub fields_length : List (List ℕ × ℕ) → ℕ
fields_length [] = 0
fields_length (f ∷ fs) = (length f.0 + 2 + f.1) + fields_length fs

abbrev pub items_length : ℕ → List ℕ → ℕ
items_length k [] = 0
items_length k (n ∷ ns) = (length (decimal k) + 2 + n) + items_length (suc k) ns

-- the bytes behind a name
abbrev pub length_step : Plain-F ℕ → ℕ
length_step (Plain-F.Double bytes) = length bytes
length_step (Plain-F.Str text) = length text + 5
length_step (Plain-F.Doc fs) = fields_length fs + 5
length_step (Plain-F.Array ns) = items_length 0 ns + 5
length_step (Plain-F.Binary subtype bytes) = length bytes + 5
length_step (Plain-F.ObjectId bytes) = length bytes
length_step (Plain-F.Bool b) = 1
length_step (Plain-F.Date z) = 8
length_step Plain-F.Null = 0
length_step (Plain-F.Int32 z) = 4
length_step (Plain-F.Timestamp n) = 8
length_step (Plain-F.Int64 z) = 8
length_step (Plain-F.Decimal bytes) = length bytes

unfoldable pub value_length : Plain → ℕ
value_length = fold-Plain ℕ length_step

abbrev pub length_field : List ℕ × Plain → List ℕ × ℕ
length_field f = (f.0, value_length f.1)

abbrev pub document_length : List (List ℕ × Plain) → ℕ
document_length fs = fields_length (map length_field fs) + 5
