-- Two lists that stand for each other, item by item, under what is done to both.
use Rattle.std.proofs.Common.{◌≡◌, List, [], ◌∷◌, ◌++◌, map, Bool, true, false, ◌||◌, if◌then◌else◌, refl}
use Rattle.std.specs.Prelude.{filter}
use Rattle.std.specs.List.{AllZip, list_any}
use Rattle.qe_plain.specs.declared.command.PlainDocument.{PlainDocument}
use Rattle.qe_plain.specs.Collection.{on_first}
use Rattle.qe_protocol.specs.Documents.{change_first, drop_first}

-- what holds of both lists of a pair of tests that are one
pub both_if : {A B : Type 0} (R : A → B → Type 0) (b c : Bool) → b ≡ c → (xs others : List A) (ys more : List B)
    → AllZip R xs ys → AllZip R others more → AllZip R (if b then xs else others) (if c then ys else more)
both_if R true true same xs others ys more one other = one
both_if R false false same xs others ys more one other = other
both_if R true false same xs others ys more one other = cc
both_if R false true same xs others ys more one other = cc

pub zip_push : {A B : Type 0} (R : A → B → Type 0) (xs : List A) (ys : List B) (x : A) (y : B) → AllZip R xs ys → R x y
    → AllZip R (xs ++ x ∷ []) (ys ++ y ∷ [])
zip_push R [] [] x y each is = (is, tt)
zip_push R [] (b ∷ ys) x y each is = absurd each
zip_push R (a ∷ xs) [] x y each is = absurd each
zip_push R (a ∷ xs) (b ∷ ys) x y each is = (each.0, zip_push R xs ys x y each.1 is)

pub zip_weaker : {A B : Type 0} (R S : A → B → Type 0) → ((x : A) (y : B) → R x y → S x y) → (xs : List A) (ys : List B) → AllZip R xs ys → AllZip S xs ys
zip_weaker R S weaker [] [] each = tt
zip_weaker R S weaker [] (y ∷ ys) each = absurd each
zip_weaker R S weaker (x ∷ xs) [] each = absurd each
zip_weaker R S weaker (x ∷ xs) (y ∷ ys) each = (weaker x y each.0, zip_weaker R S weaker xs ys each.1)

pub zip_both : {A B : Type 0} (R S : A → B → Type 0) (xs : List A) (ys : List B) → AllZip R xs ys → AllZip S xs ys → AllZip (λ x y. R x y × S x y) xs ys
zip_both R S [] [] one other = tt
zip_both R S [] (y ∷ ys) one other = absurd one
zip_both R S (x ∷ xs) [] one other = absurd one
zip_both R S (x ∷ xs) (y ∷ ys) one other = ((one.0, other.0), zip_both R S xs ys one.1 other.1)

pub zip_map : {A B C : Type 0} (R : C → B → Type 0) (f : A → C) (xs : List A) (ys : List B) → AllZip (λ x y. R (f x) y) xs ys → AllZip R (map f xs) ys
zip_map R f [] [] each = tt
zip_map R f [] (y ∷ ys) each = absurd each
zip_map R f (x ∷ xs) [] each = absurd each
zip_map R f (x ∷ xs) (y ∷ ys) each = (each.0, zip_map R f xs ys each.1)

pub map_same : {A B C : Type 0} (R : A → B → Type 0) (f : A → C) (g : B → C) → ((x : A) (y : B) → R x y → f x ≡ g y)
    → (xs : List A) (ys : List B) → AllZip R xs ys → map f xs ≡ map g ys
map_same R f g same [] [] each = refl
map_same R f g same [] (y ∷ ys) each = absurd each
map_same R f g same (x ∷ xs) [] each = absurd each
map_same R f g same (x ∷ xs) (y ∷ ys) each = λ i. same x y each.0 i ∷ map_same R f g same xs ys each.1 i

module _ {A B : Type 0} (R : A → B → Type 0) (p : A → Bool) (q : B → Bool) (agree : (x : A) (y : B) → R x y → p x ≡ q y) where
  -- one passes where one of the others does
  pub any_same : (xs : List A) (ys : List B) → AllZip R xs ys → list_any p xs ≡ list_any q ys
  any_same [] [] each = refl
  any_same [] (y ∷ ys) each = absurd each
  any_same (x ∷ xs) [] each = absurd each
  any_same (x ∷ xs) (y ∷ ys) each = λ i. agree x y each.0 i || any_same xs ys each.1 i

  -- those that pass
  pub filter_zip : (xs : List A) (ys : List B) → AllZip R xs ys → AllZip R (filter p xs) (filter q ys)
  filter_zip [] [] each = tt
  filter_zip [] (y ∷ ys) each = absurd each
  filter_zip (x ∷ xs) [] each = absurd each
  filter_zip (x ∷ xs) (y ∷ ys) each =
      let rest = filter_zip xs ys each.1 in
      both_if R (p x) (q y) (agree x y each.0) (x ∷ filter p xs) (filter p xs) (y ∷ filter q ys) (filter q ys) (each.0, rest) rest

-- the first that passes, changed or taken out
module _ {A : Type 0} (R S : A → PlainDocument → Type 0) (p : A → Bool) (q : PlainDocument → Bool)
    (agree : (x : A) (y : PlainDocument) → R x y → p x ≡ q y) (weaker : (x : A) (y : PlainDocument) → R x y → S x y) where
  pub change_zip : (f : A → A) (g : PlainDocument → PlainDocument) → ((x : A) (y : PlainDocument) → R x y → S (f x) (g y))
      → (xs : List A) (ys : List PlainDocument) → AllZip R xs ys → AllZip S (change_first p f xs) (on_first q (λ y. g y ∷ []) ys)
  change_zip f g changed [] [] each = tt
  change_zip f g changed [] (y ∷ ys) each = absurd each
  change_zip f g changed (x ∷ xs) [] each = absurd each
  change_zip f g changed (x ∷ xs) (y ∷ ys) each =
      both_if S (p x) (q y) (agree x y each.0) (f x ∷ xs) (x ∷ change_first p f xs) (g y ∷ ys) (y ∷ on_first q (λ y. g y ∷ []) ys)
      (changed x y each.0, zip_weaker R S weaker xs ys each.1) (weaker x y each.0, change_zip f g changed xs ys each.1)

  pub drop_zip : (xs : List A) (ys : List PlainDocument) → AllZip R xs ys → AllZip S (drop_first p xs) (on_first q (λ y. []) ys)
  drop_zip [] [] each = tt
  drop_zip [] (y ∷ ys) each = absurd each
  drop_zip (x ∷ xs) [] each = absurd each
  drop_zip (x ∷ xs) (y ∷ ys) each =
      both_if S (p x) (q y) (agree x y each.0) xs (x ∷ drop_first p xs) ys (y ∷ on_first q (λ y. []) ys)
      (zip_weaker R S weaker xs ys each.1) (weaker x y each.0, drop_zip xs ys each.1)
