-- What judgements in order gave.
use Rattle.std.proofs.Common.{◌≡◌, List, [], ◌∷◌, ◌++◌, Option, None, Some, option_map, refl, subst}
use Rattle.std.specs.List.{AllByRecursion}
use Rattle.std.specs.Prelude.{Result, Ok, Err, option_and_then}
use Rattle.qe_field.specs.Judgements.{bind, some_or, unless, refuse_as, gather}

-- what two judgements in order gave
pub record Gave {A B E : Type 0} (first : Result A E) (next : A → Result B E) (last : B) : Type 0 where
  pub value : A
  pub found : first ≡ Ok value
  pub then_is : next value ≡ Ok last

pub gave : {A B E : Type 0} (first : Result A E) (next : A → Result B E) (last : B) → bind first next ≡ Ok last → Gave first next last
gave (Ok x) next last h = record { value = x; found = refl; then_is = h }
gave (Err fault) next last h = cc

pub there : {A E : Type 0} (fault : E) (o : Option A) (x : A) → some_or fault o ≡ Ok x → o ≡ Some x
there fault None x h = cc
there fault (Some y) x h = cc

pub past : {B E : Type 0} (o : Option E) (next : Result B E) (last : B) → unless o next ≡ Ok last → (o ≡ None) × (next ≡ Ok last)
past None next last h = (refl, h)
past (Some fault) next last h = cc

pub unmapped : {A B : Type 0} (f : A → B) (o : Option A) → option_map f o ≡ None → o ≡ None
unmapped f None h = refl
unmapped f (Some x) h = cc

pub unwrapped : {A D E : Type 0} (wrap : D → E) (r : Result A D) (x : A) → refuse_as wrap r ≡ Ok x → r ≡ Ok x
unwrapped wrap (Ok y) x h = cc
unwrapped wrap (Err fault) x h = cc

-- what two steps in order found
pub record Found {A B : Type 0} (first : Option A) (next : A → Option B) (last : B) : Type 0 where
  pub value : A
  pub is : first ≡ Some value
  pub then_is : next value ≡ Some last

pub found : {A B : Type 0} (next : A → Option B) (first : Option A) (last : B) → option_and_then next first ≡ Some last → Found first next last
found next (Some x) last h = record { value = x; is = refl; then_is = h }
found next None last h = cc

all_append : {B : Type 0} (P : B → Type 0) (ys zs : List B) → AllByRecursion P ys → AllByRecursion P zs → AllByRecursion P (ys ++ zs)
all_append P [] zs all more = more
all_append P (y ∷ ys) zs all more = (all.0, all_append P ys zs all.1 more)

-- what holds of each item's part holds of all
pub gather_all : {A B E : Type 0} (P : B → Type 0) (judge : A → Result (List B) E) → ((x : A) (ys : List B) → judge x ≡ Ok ys → AllByRecursion P ys)
    → (xs : List A) (all : List B) → gather judge xs ≡ Ok all → AllByRecursion P all
gather_all P judge each [] all h =
    let e : [] ≡ all = cc in
    subst (AllByRecursion P) e tt
gather_all P judge each (x ∷ xs) all h =
    let first = gave (judge x) _ all h in
    let rest = gave (gather judge xs) _ all first.then_is in
    let last = rest.then_is in
    let e : first.value ++ rest.value ≡ all = cc in
    subst (AllByRecursion P) e (all_append P first.value rest.value (each x first.value first.found) (gather_all P judge each xs rest.value rest.found))
