-- Numbers and bytes of the values that a loop has passed are in the ranges of their types.
use Rattle.std.proofs.Common.{◌≡◌, ℕ, zero, suc, ◌+◌, ◌<◌, ◌≤◌, List, [], ◌∷◌, ◌++◌, length, get_or, take, map, Bool, true, Some, option_map, Result, Ok, Err, refl, sym, ap, ◌∙◌, subst, rules, arith}
use Rattle.std.proofs.lemmas.Bool.Decides.{nat_tests}
use Rattle.std.proofs.lemmas.List.{take_more}
use Rattle.std.specs.Prelude.{◌&&◌, nat_lt, slice_get, IfOk, OnOk}
use Rattle.serde_json.specs.View.{view}
use Rattle.serde_json.specs.declared.value.Value.{Value as Json}
use Rattle.qe_document.specs.Views.{plain, opened}
use Rattle.qe_value.specs.declared.value.Plain.{Plain, the_lemmas}
use Rattle.qe_value.specs.declared.value.Plain.TheVariants as p
use Rattle.qe_value.specs.declared.value.Value.{Value}
use Rattle.qe_value.specs.declared.value.Value.TheVariants as v
use Rattle.qe_bson.specs.declared.extended_json.fault.JsonFault.{JsonFault}
use Rattle.qe_base.specs.Answers.{Answers}
use Rattle.qe_bson.specs.JsonFaults.{json_refusal}
use Rattle.qe_bson.specs.JsonReading.{value_at}
use Rattle.qe_base.specs.Bytes.{are_bytes}
use Rattle.qe_bson.specs.JsonRound.{typed, typed_step, parts_typed, fields_typed, items_typed, ordered, levels}
use Rattle.qe_bson.specs.JsonWriting.{json_of, json_step}
use Rattle.qe_json_forms.proofs.FormLemmas.{both}
use Rattle.qe_json_forms.proofs.RangeLemmas.{and_true}
use Rattle.qe_bson.proofs.JsonPrintLemmas.{json_of-plain}
use Rattle.qe_bson.proofs.JsonValueLemmas.{reads_back}

typed-Doc : (fs : List (List ℕ × Plain)) → typed (p.Doc fs) ≡ fields_typed fs
unfolding typed
typed-Doc fs = search (rules, the_lemmas)

typed-Array : (vs : List Plain) → typed (p.Array vs) ≡ items_typed vs
unfolding typed
typed-Array vs = search (rules, the_lemmas)

typed-plain : (x : Value) → typed (plain x) ≡ typed_step (parts_typed x)
unfolding typed
typed-plain (v.Doc fs) = typed-Doc fs
typed-plain (v.Array vs) = typed-Array vs
typed-plain _ = search (rules, the_lemmas)

items_typed-push : (xs : List Value) (x : Value) → items_typed (map plain xs) ≡ true → typed (plain x) ≡ true → items_typed (map plain (xs ++ x ∷ [])) ≡ true
items_typed-push [] x known new = and_true (typed (plain x)) true new refl
items_typed-push (y ∷ xs) x known new =
    let parts = both (typed (plain y)) (items_typed (map plain xs)) known in and_true (typed (plain y)) _ parts.0 (items_typed-push xs x parts.1 new)

-- one more item is passed
pub items_typed-more : (items : List Value) (k : ℕ) (x : Value) → k < length items → x ≡ get_or items k x → items_typed (map plain (take k items)) ≡ true → typed_step (parts_typed x) ≡ true → items_typed (map plain (take (k + 1) items)) ≡ true
items_typed-more items k x lt is known new =
    let more : take (k + 1) items ≡ take k items ++ x ∷ [] = take_more items k x lt ∙ ap (λ y. take k items ++ y ∷ []) (sym is) in
    subst (λ l. items_typed (map plain l) ≡ true) (sym more) (items_typed-push (take k items) x known (typed-plain x ∙ new))

-- one more field is passed
pub fields_typed-more : (fs : List (List ℕ × Plain)) (i : ℕ) (x : Value) → Some (plain x) ≡ option_map (λ f. f.1) (slice_get fs i) → fields_typed (take i fs) ≡ true → typed_step (parts_typed x) ≡ true → fields_typed (take (suc i) fs) ≡ true
fields_typed-more [] i x is known new = cc
fields_typed-more (f ∷ fs) zero x is known new = let here : plain x ≡ f.1 = cc in and_true (typed f.1) true (ap typed (sym here) ∙ typed-plain x ∙ new) refl
fields_typed-more (f ∷ fs) (suc i) x is known new =
    let parts = both (typed f.1) (fields_typed (take i fs)) known in and_true (typed f.1) _ parts.0 (fields_typed-more fs i x is parts.1 new)

-- what a call printed is read as the value
pub again : (r : Result Json JsonFault) (x : Value) → Answers view json_refusal r (json_step (opened json_of x)) → OnOk r (typed_step (parts_typed x) ≡ true) → IfOk r (λ json. ordered (plain x) ≡ true → levels (plain x) ≤ 100 → value_at 100 (view json) ≡ Ok (plain x))
again (Ok json) x given typing = λ order deep. reads_back (plain x) 100 (view json) (json_of-plain x ∙ given) (typed-plain x ∙ typing) order deep
again (Err fault) x given typing = tt
