-- The first item of a list that is refused.
use Rattle.std.proofs.Common.{◌≡◌, List, [], ◌∷◌, ◌++◌, Option, None, Some, refl, ap, ◌∙◌}
use Rattle.std.specs.List.{AllByRecursion}
use Rattle.qe_protocol.specs.Contention.{or_else}
use Rattle.qe_causes.specs.Causes.{IsFirstOf}

pub some_none : {A : Type 0} (x : A) → Some x ≡ None → ⊥
some_none x e = cc

pub none_some : {A : Type 0} (x : A) → None ≡ Some x → ⊥
none_some x e = cc

pub same_some : {A : Type 0} (x y : A) → Some x ≡ Some y → x ≡ y
same_some x y e = cc

abbrev pub first_refusal : {A R : Type 0} → (A → Option R) → List A → Option R
first_refusal refuse [] = None
first_refusal refuse (x ∷ xs) = or_else (refuse x) (first_refusal refuse xs)

-- what passes isn't refused, and what fails is, with the reason for which it fails
pub record Judges {A R : Type 0} (refuse : A → Option R) (Passes : A → Type 0) (Fails : R → A → Type 0) : Type 0 where
  pub passes : (x : A) → refuse x ≡ None → Passes x
  pub quiet : (x : A) → Passes x → refuse x ≡ None
  pub fails : (x : A) (reason : R) → refuse x ≡ Some reason → Fails reason x
  pub refuses : (x : A) (reason : R) → Fails reason x → refuse x ≡ Some reason

module _ {A R : Type 0} (refuse : A → Option R) (Passes : A → Type 0) (Fails : R → A → Type 0) (judges : Judges refuse Passes Fails) where
  one_passes : (x : A) (xs : List A) (found : Option R) → refuse x ≡ found → (first_refusal refuse xs ≡ None → AllByRecursion Passes xs)
      → or_else found (first_refusal refuse xs) ≡ None → AllByRecursion Passes (x ∷ xs)
  one_passes x xs None is later none = (judges.passes x is, later none)
  one_passes x xs (Some reason) is later none = absurd (some_none reason none)

  pub all_pass : (xs : List A) → first_refusal refuse xs ≡ None → AllByRecursion Passes xs
  all_pass [] none = tt
  all_pass (x ∷ xs) none = one_passes x xs (refuse x) refl (all_pass xs) none

  pub none_refused : (xs : List A) → AllByRecursion Passes xs → first_refusal refuse xs ≡ None
  none_refused [] all = refl
  none_refused (x ∷ xs) all = ap (λ found. or_else found (first_refusal refuse xs)) (judges.quiet x all.0) ∙ none_refused xs all.1

  one_fails : (reason : R) (x : A) (xs : List A) (found : Option R) → refuse x ≡ found → (first_refusal refuse xs ≡ Some reason → IsFirstOf Passes (Fails reason) xs)
      → or_else found (first_refusal refuse xs) ≡ Some reason → IsFirstOf Passes (Fails reason) (x ∷ xs)
  one_fails reason x xs None is later some =
      let rest = later some in
      record { front = x ∷ rest.front; one = rest.one; back = rest.back; are = ap (λ all. x ∷ all) rest.are; before = (judges.passes x is, rest.before); fails = rest.fails }
  one_fails reason x xs (Some other) is later some =
      record { front = []; one = x; back = xs; are = refl; before = tt; fails = judges.fails x reason (is ∙ some) }

  pub first_fails : (reason : R) (xs : List A) → first_refusal refuse xs ≡ Some reason → IsFirstOf Passes (Fails reason) xs
  first_fails reason [] some = absurd (none_some reason some)
  first_fails reason (x ∷ xs) some = one_fails reason x xs (refuse x) refl (first_fails reason xs) some

  behind_front : (reason : R) (front : List A) (one : A) (back : List A) → AllByRecursion Passes front → Fails reason one
      → first_refusal refuse (front ++ one ∷ back) ≡ Some reason
  behind_front reason [] one back all fails = ap (λ found. or_else found (first_refusal refuse back)) (judges.refuses one reason fails)
  behind_front reason (x ∷ front) one back all fails =
      ap (λ found. or_else found (first_refusal refuse (front ++ one ∷ back))) (judges.quiet x all.0) ∙ behind_front reason front one back all.1 fails

  pub is_refused : (reason : R) (xs : List A) → IsFirstOf Passes (Fails reason) xs → first_refusal refuse xs ≡ Some reason
  is_refused reason xs first =
      ap (first_refusal refuse) first.are ∙ behind_front reason first.front first.one first.back first.before first.fails
