-- How many bytes a value and a document have.
use Rattle.std.proofs.Common.{◌≡◌, ℕ, ℤ, suc, ◌+◌, Bool, List, [], ◌∷◌, length, map, decimal, refl, subst, arith, rules}
use Rattle.std.proofs.lemmas.List.{length-append}
use Rattle.std.proofs.lemmas.Simd.{map-map}
use Rattle.qe_value.specs.declared.value.Plain.{Plain, roll-Plain, ind-Plain, the_lemmas}
use Rattle.qe_value.specs.declared.value.Plain.TheFolds.{map-Plain}
use Rattle.qe_value.specs.declared.value.Plain.TheOpen.{Plain-F}
use Rattle.qe_value.specs.declared.value.Plain.TheVariants as p
use Rattle.qe_value.specs.Measures.{fields_length, items_length, value_length, length_field, document_length}
use Rattle.qe_value.specs.Spelling.{element, framed, fields_bytes, items_bytes, spelled, spelled_field, document_bytes}
use Rattle.qe_value.proofs.PlainLemmas as tree

abbrev HasLength : Plain → Type 0
HasLength v = length (spelled v).bytes ≡ value_length v

pub value_length-Doc : (fs : List (List ℕ × Plain)) → value_length (p.Doc fs) ≡ fields_length (map length_field fs) + 5
unfolding value_length
value_length-Doc fs = search (rules, the_lemmas, map-map)

pub value_length-Array : (vs : List Plain) → value_length (p.Array vs) ≡ items_length 0 (map value_length vs) + 5
unfolding value_length
value_length-Array vs = search (rules, the_lemmas, map-map)

value_length-Double : (b : List ℕ) → value_length (p.Double b) ≡ length b
unfolding value_length
value_length-Double b = search (rules, the_lemmas)

value_length-Str : (t : List ℕ) → value_length (p.Str t) ≡ length t + 5
unfolding value_length
value_length-Str t = search (rules, the_lemmas)

pub value_length-Binary : (s : ℕ) (b : List ℕ) → value_length (p.Binary s b) ≡ length b + 5
unfolding value_length
value_length-Binary s b = search (rules, the_lemmas)

value_length-ObjectId : (b : List ℕ) → value_length (p.ObjectId b) ≡ length b
unfolding value_length
value_length-ObjectId b = search (rules, the_lemmas)

value_length-Bool : (b : Bool) → value_length (p.Bool b) ≡ 1
unfolding value_length
value_length-Bool b = search (rules, the_lemmas)

value_length-Date : (z : ℤ) → value_length (p.Date z) ≡ 8
unfolding value_length
value_length-Date z = search (rules, the_lemmas)

value_length-Null : value_length p.Null ≡ 0
unfolding value_length
value_length-Null = search (rules, the_lemmas)

value_length-Int32 : (z : ℤ) → value_length (p.Int32 z) ≡ 4
unfolding value_length
value_length-Int32 z = search (rules, the_lemmas)

value_length-Timestamp : (n : ℕ) → value_length (p.Timestamp n) ≡ 8
unfolding value_length
value_length-Timestamp n = search (rules, the_lemmas)

value_length-Int64 : (z : ℤ) → value_length (p.Int64 z) ≡ 8
unfolding value_length
value_length-Int64 z = search (rules, the_lemmas)

value_length-Decimal : (b : List ℕ) → value_length (p.Decimal b) ≡ length b
unfolding value_length
value_length-Decimal b = search (rules, the_lemmas)

framed_length : (elements : List ℕ) → length (framed elements) ≡ length elements + 5
framed_length elements = omega (arith, length-append elements (0 ∷ []))

-- what a value holds has its lengths
module _ {S : Type 0} (value : S → Plain) (known : (e : S) → HasLength (value e)) where
  abbrev field_of : List ℕ × S → List ℕ × Plain
  field_of f = (f.0, value f.1)

  fields_known : (fs : List (List ℕ × S)) → length (fields_bytes (map spelled_field (map field_of fs))) ≡ fields_length (map length_field (map field_of fs))
  fields_known [] = refl
  fields_known (f ∷ fs) =
      let s = spelled (value f.1) in
      let later = fields_bytes (map spelled_field (map field_of fs)) in
      omega (arith, length-append (element f.0 s) later, length-append f.0 (0 ∷ s.bytes), known f.1, fields_known fs)

  items_known : (k : ℕ) (vs : List S) → length (items_bytes k (map spelled (map value vs))) ≡ items_length k (map value_length (map value vs))
  items_known k [] = refl
  items_known k (v ∷ vs) =
      let s = spelled (value v) in
      let later = items_bytes (suc k) (map spelled (map value vs)) in
      omega (arith, length-append (element (decimal k) s) later, length-append (decimal k) (0 ∷ s.bytes), known v, items_known (suc k) vs)

  layer_known : (y : Plain-F S) → HasLength (roll-Plain (map-Plain S Plain value y))
  layer_known (Plain-F.Doc fs) =
      let vs = map field_of fs in
      rw (p.rolls-Doc vs, tree.spelled-Doc vs, value_length-Doc vs) (omega (arith, framed_length (fields_bytes (map spelled_field vs)), fields_known fs))
  layer_known (Plain-F.Array vs) =
      let ws = map value vs in
      rw (p.rolls-Array ws, tree.spelled-Array ws, value_length-Array ws) (omega (arith, framed_length (items_bytes 0 (map spelled ws)), items_known 0 vs))
  layer_known (Plain-F.Double b) = rw (p.rolls-Double b, tree.spelled-Double b, value_length-Double b) refl
  layer_known (Plain-F.Str t) = rw (p.rolls-Str t, tree.spelled-Str t, value_length-Str t) (omega (arith, length-append t (0 ∷ [])))
  layer_known (Plain-F.Binary s b) = rw (p.rolls-Binary s b, tree.spelled-Binary s b, value_length-Binary s b) (omega arith)
  layer_known (Plain-F.ObjectId b) = rw (p.rolls-ObjectId b, tree.spelled-ObjectId b, value_length-ObjectId b) refl
  layer_known (Plain-F.Bool b) = rw (p.rolls-Bool b, tree.spelled-Bool b, value_length-Bool b) refl
  layer_known (Plain-F.Date z) = rw (p.rolls-Date z, tree.spelled-Date z, value_length-Date z) refl
  layer_known Plain-F.Null = rw (p.rolls-Null, tree.spelled-Null, value_length-Null) refl
  layer_known (Plain-F.Int32 z) = rw (p.rolls-Int32 z, tree.spelled-Int32 z, value_length-Int32 z) refl
  layer_known (Plain-F.Timestamp n) = rw (p.rolls-Timestamp n, tree.spelled-Timestamp n, value_length-Timestamp n) refl
  layer_known (Plain-F.Int64 z) = rw (p.rolls-Int64 z, tree.spelled-Int64 z, value_length-Int64 z) refl
  layer_known (Plain-F.Decimal b) = rw (p.rolls-Decimal b, tree.spelled-Decimal b, value_length-Decimal b) refl

pub lengths : (v : Plain) → length (spelled v).bytes ≡ value_length v
lengths = ind-Plain HasLength (λ x y is. subst (λ (z : Plain-F Plain). HasLength (roll-Plain z)) is (layer_known (λ e. e.0) (λ e. e.1) y))

pub document_lengths : (fs : List (List ℕ × Plain)) → length (document_bytes fs) ≡ document_length fs
document_lengths fs =
    let whole : length (spelled (p.Doc fs)).bytes ≡ value_length (p.Doc fs) = lengths (p.Doc fs) in
    rw (tree.spelled-Doc fs, value_length-Doc fs) at whole
