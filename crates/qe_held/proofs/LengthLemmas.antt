-- How many bytes documents, arrays and single values have that are no longer than was counted.
use Rattle.std.proofs.Common.{◌≡◌, ℕ, ℤ, suc, ◌+◌, ◌≤◌, Bool, List, [], ◌∷◌, length, map, decimal, refl, ap, arith, rules}
use Rattle.std.specs.Prelude.{replicate}
use Rattle.std.specs.List.{AllByRecursion}
use Rattle.qe_value.specs.declared.value.Plain.{Plain, the_lemmas}
use Rattle.qe_value.specs.declared.value.Plain.TheVariants as p
use Rattle.qe_value.specs.Measures.{fields_length, items_length, length_field, value_length}
use Rattle.qe_encode.proofs.SizeLemmas.{value_length-Array, value_length-Doc}
use Rattle.qe_layout.specs.Layouts.{Element}
use Rattle.qe_fits.specs.Sizes.{Counted, array_size, document_size}

pub length-Str : (text : List ℕ) → value_length (p.Str text) ≡ length text + 5
unfolding value_length
length-Str text = search (rules, the_lemmas)

pub length-Bool : (b : Bool) → value_length (p.Bool b) ≡ 1
unfolding value_length
length-Bool b = search (rules, the_lemmas)

pub length-Int32 : (z : ℤ) → value_length (p.Int32 z) ≡ 4
unfolding value_length
length-Int32 z = search (rules, the_lemmas)

pub length-Int64 : (z : ℤ) → value_length (p.Int64 z) ≡ 8
unfolding value_length
length-Int64 z = search (rules, the_lemmas)

-- elements of the counted names, none longer than was counted
abbrev pub AreCounted : List Element → List Counted → Type 0
AreCounted [] [] = Unit {0}
AreCounted [] (c ∷ counted) = ⊥
AreCounted (e ∷ elements) [] = ⊥
AreCounted (e ∷ elements) (c ∷ counted) = ((e.0 ≡ c.0) × (value_length e.1 ≤ c.1)) × AreCounted elements counted

fields_counted : (elements : List Element) (counted : List Counted) → AreCounted elements counted → fields_length (map length_field elements) ≤ fields_length counted
fields_counted [] [] are = omega arith
fields_counted [] (c ∷ counted) are = absurd are
fields_counted (e ∷ elements) [] are = absurd are
fields_counted (e ∷ elements) (c ∷ counted) are = omega (arith, ap (λ (name : List ℕ). length name) are.0.0, are.0.1, fields_counted elements counted are.1)

pub document_counted : (elements : List Element) (counted : List Counted) → AreCounted elements counted → value_length (p.Doc elements) ≤ document_size counted
document_counted elements counted are = omega (arith, value_length-Doc elements, fields_counted elements counted are)

-- items none of which is longer than was counted
abbrev pub AreShort : List Plain → List ℕ → Type 0
AreShort [] [] = Unit {0}
AreShort [] (n ∷ ns) = ⊥
AreShort (v ∷ vs) [] = ⊥
AreShort (v ∷ vs) (n ∷ ns) = (value_length v ≤ n) × AreShort vs ns

items_counted : (k : ℕ) (vs : List Plain) (ns : List ℕ) → AreShort vs ns → items_length k (map value_length vs) ≤ items_length k ns
items_counted k [] [] are = omega arith
items_counted k [] (n ∷ ns) are = absurd are
items_counted k (v ∷ vs) [] are = absurd are
items_counted k (v ∷ vs) (n ∷ ns) are = omega (arith, are.0, items_counted (suc k) vs ns are.1)

pub array_counted : (vs : List Plain) (ns : List ℕ) → AreShort vs ns → value_length (p.Array vs) ≤ array_size ns
array_counted vs ns are = omega (arith, value_length-Array vs, items_counted 0 vs ns are)

-- items of one size
pub same_size : {A : Type 0} (tree : A → Plain) (size : ℕ) (xs : List A) → AllByRecursion (λ x. value_length (tree x) ≤ size) xs
    → AreShort (map tree xs) (replicate (length xs) size)
same_size tree size [] each = tt
same_size tree size (x ∷ xs) each = (each.0, same_size tree size xs each.1)

-- a part of a document is shorter than it
pub parts_short : (elements : List Element) (most : ℕ) → fields_length (map length_field elements) ≤ most → AllByRecursion (λ e. value_length e.1 ≤ most) elements
parts_short [] most few = tt
parts_short (e ∷ elements) most few = (omega (arith, few), parts_short elements most (omega (arith, few)))

-- .. and so is an item of an array
pub items_short : (k : ℕ) (vs : List Plain) (most : ℕ) → items_length k (map value_length vs) ≤ most → AllByRecursion (λ v. value_length v ≤ most) vs
items_short k [] most few = tt
items_short k (v ∷ vs) most few = (omega (arith, few), items_short (suc k) vs most (omega (arith, few)))
