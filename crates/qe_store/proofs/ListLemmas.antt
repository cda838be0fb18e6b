-- Pairs of a tag and a number, by their number: what filters, maps and appends do to them.
use Rattle.std.proofs.Common.{◌≡◌, ℕ, Bool, true, false, cond, not, nat_eq, List, [], ◌∷◌, ◌++◌, map, inl, inr, refl, sym, ◌∙◌, ap, subst}
use Rattle.std.proofs.lemmas.Bool.{cases_Bool, eqb-true, eq-eqb}
use Rattle.std.proofs.lemmas.List.{map-append}
use Rattle.std.proofs.lemmas.List.Elements.{filter-append}
use Rattle.qe_chains.specs.Pairs.{tags_of, of_document, of_others}
use Rattle.qe_store.specs.Parts.{paired}

pub eq_sym : (a b : ℕ) (v : Bool) → nat_eq a b ≡ v → nat_eq b a ≡ v
eq_sym a b true e = eq-eqb b a (sym (eqb-true a b e))
eq_sym a b false e = elim (cases_Bool (nat_eq b a)) [ inl t ↦ absurd (both (nat_eq a b) (eq-eqb a b (sym (eqb-true b a t))) e) | inr f ↦ f ]
  where
    both : (b : Bool) → b ≡ true → b ≡ false → ⊥
    both b t f = cc

-- the tags of a number in two lists of pairs
pub tags_append : (n : ℕ) (xs ys : List (List ℕ × ℕ)) → tags_of n (xs ++ ys) ≡ tags_of n xs ++ tags_of n ys
tags_append n xs ys = ap (map (λ p. p.0)) (filter-append (λ p. nat_eq n p.1) xs ys) ∙ map-append (λ p. p.0) (of_document n xs) (of_document n ys)

-- the pairs of one number
pub tags_here : (n m : ℕ) (tags : List (List ℕ)) → nat_eq n m ≡ true → tags_of n (map (paired m) tags) ≡ tags
tags_here n m [] e = refl
tags_here n m (t ∷ tags) e = ap (λ b. map (λ p. p.0) (cond b (paired m t ∷ of_document n (map (paired m) tags)) (of_document n (map (paired m) tags)))) e ∙ ap (λ rest. t ∷ rest) (tags_here n m tags e)

pub tags_there : (n m : ℕ) (tags : List (List ℕ)) → nat_eq n m ≡ false → tags_of n (map (paired m) tags) ≡ []
tags_there n m [] e = refl
tags_there n m (t ∷ tags) e = ap (λ b. map (λ p. p.0) (cond b (paired m t ∷ of_document n (map (paired m) tags)) (of_document n (map (paired m) tags)))) e ∙ tags_there n m tags e

-- the pairs of the others
pub others_here : (n m : ℕ) (xs : List (List ℕ × ℕ)) → nat_eq m n ≡ true → tags_of n (of_others m xs) ≡ []
others_here n m [] e = refl
others_here n m (x ∷ xs) e = elim (cases_Bool (nat_eq m x.1)) [
  | inl t ↦ ap (λ b. tags_of n (cond (not b) (x ∷ of_others m xs) (of_others m xs))) t ∙ others_here n m xs e
  | inr f ↦
      let far : nat_eq n x.1 ≡ false = subst (λ k. nat_eq k x.1 ≡ false) (eqb-true m n e) f in
      ap (λ b. tags_of n (cond (not b) (x ∷ of_others m xs) (of_others m xs))) f
      ∙ ap (λ b. map (λ p. p.0) (cond b (x ∷ of_document n (of_others m xs)) (of_document n (of_others m xs)))) far
      ∙ others_here n m xs e
]

pub others_there : (n m : ℕ) (xs : List (List ℕ × ℕ)) → nat_eq m n ≡ false → tags_of n (of_others m xs) ≡ tags_of n xs
others_there n m [] e = refl
others_there n m (x ∷ xs) e = elim (cases_Bool (nat_eq m x.1)) [
  | inl t ↦
      let far : nat_eq n x.1 ≡ false = subst (λ k. nat_eq n k ≡ false) (eqb-true m x.1 t) (eq_sym m n false e) in
      ap (λ b. tags_of n (cond (not b) (x ∷ of_others m xs) (of_others m xs))) t
      ∙ others_there n m xs e
      ∙ sym (ap (λ b. map (λ p. p.0) (cond b (x ∷ of_document n xs) (of_document n xs))) far)
  | inr f ↦
      ap (λ b. tags_of n (cond (not b) (x ∷ of_others m xs) (of_others m xs))) f
      ∙ one (nat_eq n x.1) (of_document n (of_others m xs))
      ∙ ap (λ rest. cond (nat_eq n x.1) (x.0 ∷ rest) rest) (others_there n m xs e)
      ∙ sym (one (nat_eq n x.1) (of_document n xs))
]
  where
    one : (b : Bool) (rest : List (List ℕ × ℕ)) → map (λ p. p.0) (cond b (x ∷ rest) rest) ≡ cond b (x.0 ∷ map (λ p. p.0) rest) (map (λ p. p.0) rest)
    one true rest = refl
    one false rest = refl
