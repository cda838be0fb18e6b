-- A value is smaller than the list or the document that holds it.
use Rattle.std.proofs.Common.{ℕ, ◌≡◌, suc, ◌≤◌, List, [], ◌∷◌, map, arith, rules}
use Rattle.std.proofs.lemmas.Simd.{map-map}
use denote.Param.Weighed.{most}
use Rattle.qe_value.specs.declared.value.Plain.{Plain, the_lemmas, Doc, Array}
use Rattle.qe_value.specs.declared.value.Plain.TheVariants as p
use Rattle.qe_value.specs.declared.value.Value.{Value}
use Rattle.qe_value.specs.declared.value.Value.TheVariants as v
use Rattle.qe_value.specs.declared.value.Document.TheDeep.{deep-Value}
use Rattle.qe_value.specs.declared.value.Document.TheShapes.{weighed-Document-fields-at-2}
use Rattle.qe_value.specs.Views.{plain, field_view, size_of, size_of_items, size_of_fields}

pub size_of-Doc : (fs : List (List ℕ × Plain)) → size_of (p.Doc fs) ≡ suc (size_of_fields fs)
unfolding size_of
size_of-Doc fs = search (rules, the_lemmas, map-map)

pub size_of-Array : (vs : List Plain) → size_of (p.Array vs) ≡ suc (size_of_items vs)
unfolding size_of
size_of-Array vs = search (rules, the_lemmas, map-map)

deep_le : (x : Value) → deep-Value x ≤ size_of (plain x)
deep_le (v.Doc fs) = rw size_of-Doc (omega arith)
deep_le (v.Array vs) = rw size_of-Array (omega arith)
deep_le _ = omega arith

-- no item of a list has more values than all of them
pub most_items : (vs : List Value) → most deep-Value vs ≤ size_of_items (map plain vs)
most_items [] = omega arith
most_items (x ∷ vs) = omega (arith, deep_le x, most_items vs)

-- no field of a document has more values than all of them
pub most_fields : (fs : List (List ℕ × Value)) → most (λ f. weighed-Document-fields-at-2.weight Value deep-Value f) fs ≤ size_of_fields (map field_view fs)
most_fields [] = omega arith
most_fields (f ∷ fs) = omega (arith, deep_le f.1, most_fields fs)
