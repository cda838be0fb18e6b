-- Counts of 32 bits.
use Rattle.std.proofs.Common.{◌≡◌, ℕ, Option, None, Some, suc, ◌+◌, ◌-◌, ◌^◌, ◌<◌, ◌≤◌, inl, inr, List, [], ◌∷◌, length, decimal, refl, ◌++◌, arith, rules}
use Rattle.std.specs.Prelude.{replicate}
use Rattle.std.proofs.lemmas.Bool.{cases_lt}
use Rattle.std.proofs.lemmas.Simd.{map-map}
use Rattle.qe_value.specs.declared.value.Plain.{Plain, the_lemmas}
use Rattle.qe_value.specs.declared.value.Plain.TheVariants as p
use Rattle.qe_value.specs.declared.value.Value.{Value}
use Rattle.qe_value.specs.declared.value.Value.TheVariants as v
use Rattle.qe_value.specs.Measures.{value_length, document_length, fields_length, items_length}
use Rattle.qe_value.specs.Views.{plain}
use Rattle.qe_fits.specs.Counts.{capped, leaf_length, values_size}
use Rattle.qe_fits.specs.Sizes.{sealed_size, insert_size}

-- what grows with a number has one count at the number and at its count
pub of_count : (f : ℕ → ℕ) → ((n : ℕ) → n ≤ f n) → (n : ℕ) → capped (f (capped n)) ≡ capped (f n)
of_count f grows n =
    elim (cases_lt n (2 ^ 32 - 1)) [
      | inl less ↦ let same : capped n ≡ n = omega arith in rw same refl
      | inr more ↦
          let most : capped n ≡ 2 ^ 32 - 1 = omega arith in
          let at_most = grows (2 ^ 32 - 1) in
          let at_n = grows n in
          rw most (omega arith)
    ]

sealed_grows : (n : ℕ) → n ≤ sealed_size n
sealed_grows n = omega arith

pub of_sealed : (n : ℕ) → capped (sealed_size (capped n)) ≡ capped (sealed_size n)
of_sealed n = of_count sealed_size sealed_grows n

-- the bytes of a value that holds no other
pub leaf : (x : Value) → ((fs : List (List ℕ × Plain)) → x ≡ v.Doc fs → ⊥) → ((vs : List Plain) → x ≡ v.Array vs → ⊥) → value_length (plain x) ≡ leaf_length x
unfolding value_length
leaf (v.Doc fs) no_document no_array = absurd (no_document fs refl)
leaf (v.Array vs) no_document no_array = absurd (no_array vs refl)
leaf _ no_document no_array = search (rules, the_lemmas)

-- a sum goes on by the first of what is left
pub goes_on : (sum part rest less next total : ℕ) → capped (sum + rest) ≡ capped total → rest ≡ part + less → next ≡ capped (sum + capped part)
    → capped (next + less) ≡ capped total
goes_on sum part rest less next total told split is = omega arith

-- .. and ends where nothing is left
pub counted : (sum rest total : ℕ) → sum ≤ 2 ^ 32 - 1 → rest ≡ 0 → capped (sum + rest) ≡ capped total → sum ≡ capped total
counted sum rest total small none told = omega arith

-- the elements of two lists have the bytes of both
pub fields_length-append : (xs ys : List (List ℕ × ℕ)) → fields_length (xs ++ ys) ≡ fields_length xs + fields_length ys
fields_length-append [] ys = omega arith
fields_length-append (x ∷ xs) ys = omega (arith, fields_length-append xs ys)

-- the payload of an encrypted value, by the count of its bytes
pub of_insert : (n : ℕ) (edges : Option ℕ) → capped (insert_size (capped n) edges) ≡ capped (insert_size n edges)
of_insert n edges = of_count (λ m. insert_size m edges) (λ m. grows m edges) n where
  grows : (m : ℕ) (edges : Option ℕ) → m ≤ insert_size m edges
  grows m None = omega arith
  grows m (Some count) = omega arith

-- one item more of those of one size
pub more_items : (count place item : ℕ) → place < count
    → items_length place (replicate (count - place) item) ≡ (length (decimal place) + 2 + item) + items_length (place + 1) (replicate (count - (place + 1)) item)
more_items count place item lt =
    let one : count - place ≡ suc (count - (place + 1)) = omega arith in
    let next : place + 1 ≡ suc place = omega arith in
    rw (one, next) refl

-- a document and an array have the sizes of what they hold
pub of_document : (fs : List (List ℕ × Plain)) → value_length (p.Doc fs) ≡ document_length fs
unfolding value_length
of_document fs = search (rules, the_lemmas, map-map)

pub of_array : (vs : List Plain) → value_length (p.Array vs) ≡ values_size vs
unfolding value_length
of_array vs = search (rules, the_lemmas, map-map)
