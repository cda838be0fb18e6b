-- Which values are read again from what is printed of them.
use Rattle.std.specs.Prelude.{ℕ, suc, ◌&&◌, Bool, true, false, not, List, [], ◌∷◌, map, is_some}
use Rattle.std.specs.Cmp.Lexicographic.{slice_cmp}
use Rattle.std.specs.List.{list_all}
use Rattle.std.specs.Ordering.{nat_cmp, is_lt}
use Rattle.qe_value.specs.declared.value.Plain.{Plain, fold-Plain}
use Rattle.qe_value.specs.declared.value.Plain.TheOpen.{Plain-F}
use Rattle.qe_value.specs.declared.value.Value.{Value}
use Rattle.qe_value.specs.declared.value.Value.TheVariants as v
use Rattle.qe_value.specs.Measures.{all_true, greatest}
use Rattle.qe_json_forms.specs.Forms.{form_named}
pub use Rattle.qe_json_forms.specs.Ranges.{typed_step}

-- numbers and bytes are in the ranges of their types
unfoldable pub typed : Plain → Bool
typed = fold-Plain Bool typed_step

-- each name is below those after it, byte by byte
abbrev pub rising : List (List ℕ) → Bool
rising [] = true
rising (name ∷ names) = list_all (λ later. is_lt (slice_cmp nat_cmp name later)) names && rising names

-- the only name is a form's
abbrev pub like_a_form : List (List ℕ) → Bool
like_a_form (name ∷ []) = is_some (form_named name)
like_a_form _ = false

-- names rise in each document, and none has a form's name alone
abbrev pub ordered_step : Plain-F Bool → Bool
ordered_step (Plain-F.Doc fs) = rising (map (λ f. f.0) fs) && (not (like_a_form (map (λ f. f.0) fs)) && all_true (map (λ f. f.1) fs))
ordered_step (Plain-F.Array bs) = all_true bs
ordered_step _ = true

unfoldable pub ordered : Plain → Bool
ordered = fold-Plain Bool ordered_step

-- how many levels of objects and arrays the JSON of a value has, those of forms among them
abbrev pub levels_step : Plain-F ℕ → ℕ
levels_step (Plain-F.Doc fs) = suc (greatest (map (λ f. f.1) fs))
levels_step (Plain-F.Array ns) = suc (greatest ns)
levels_step (Plain-F.Binary subtype bytes) = 2
levels_step (Plain-F.ObjectId id) = 1
levels_step (Plain-F.Date z) = 2
levels_step (Plain-F.Int64 z) = 1
levels_step _ = 0

unfoldable pub levels : Plain → ℕ
levels = fold-Plain ℕ levels_step

-- for private clauses: a value of the code, with what is known of the parts that it holds
abbrev pub typed_field : List ℕ × Plain → List ℕ × Bool
typed_field f = (f.0, typed f.1)

abbrev pub parts_typed : Value → Plain-F Bool
parts_typed (v.Double bytes) = Plain-F.Double bytes
parts_typed (v.Str text) = Plain-F.Str text
parts_typed (v.Doc fs) = Plain-F.Doc (map typed_field fs)
parts_typed (v.Array vs) = Plain-F.Array (map typed vs)
parts_typed (v.Binary subtype bytes) = Plain-F.Binary subtype bytes
parts_typed (v.ObjectId id) = Plain-F.ObjectId id
parts_typed (v.Bool b) = Plain-F.Bool b
parts_typed (v.Date millis) = Plain-F.Date millis
parts_typed v.Null = Plain-F.Null
parts_typed (v.Int32 z) = Plain-F.Int32 z
parts_typed (v.Timestamp n) = Plain-F.Timestamp n
parts_typed (v.Int64 z) = Plain-F.Int64 z
parts_typed (v.Decimal bytes) = Plain-F.Decimal bytes

abbrev pub fields_typed : List (List ℕ × Plain) → Bool
fields_typed fs = typed_step (Plain-F.Doc (map typed_field fs))

abbrev pub items_typed : List Plain → Bool
items_typed vs = typed_step (Plain-F.Array (map typed vs))
