-- What putting an element at the end and taking one out do to a doubly linked list.
use Rattle.std.proofs.Common.{◌≡◌, ℕ, List, [], ◌∷◌, ◌++◌, Option, None, Some, refl, sym, ◌∙◌, ap, subst}
use Rattle.std.proofs.lemmas.List.{append-nil}
use Rattle.qe_chains.specs.Linked.{first_or, last_or, Each, Apart, Distinct, Follows, Precedes, IsList, Pushes, Takes}
use Rattle.qe_chains.proofs.LinkLemmas.{same_some, each_map, each_right, each_left, last_has, first_among, last_some, last_push, last_skip, follows_kept, precedes_kept, follows_at, precedes_at}

-- links that the members keep
pub kept : (next prev next' prev' : ℕ → Option ℕ) (first last : Option ℕ) (xs : List ℕ) → Each (λ x. next' x ≡ next x) xs → Each (λ x. prev' x ≡ prev x) xs → IsList next prev first last xs → IsList next' prev' first last xs
kept next prev next' prev' first last xs nexts prevs is = record {
  follows = follows_kept next next' None xs nexts is.follows;
  precedes = precedes_kept prev prev' None xs prevs is.precedes;
  starts = is.starts;
  ends = is.ends;
}

-- AT THE END

follows_push : (n : ℕ) (next next' : ℕ → Option ℕ) (xs : List ℕ) → Distinct xs → Apart n xs → Follows next xs None
    → ((j : ℕ) → (j ≡ n → ⊥) → (last_or None xs ≡ Some j → ⊥) → next' j ≡ next j) → ((l : ℕ) → last_or None xs ≡ Some l → next' l ≡ Some n) → next' n ≡ None
    → Follows next' (xs ++ n ∷ []) None
follows_push n next next' [] d a f same joins here = (here, tt)
follows_push n next next' (x ∷ []) d a f same joins here = (joins x refl, (here, tt))
follows_push n next next' (x ∷ y ∷ xs) d a f same joins here = (
  same x a.0 (λ e. last_has (λ j. j ≡ x → ⊥) y xs d.0 x e refl) ∙ f.0,
  follows_push n next next' (y ∷ xs) d.1 a.1 f.1 same joins here,
)

precedes_push : (n : ℕ) (prev prev' : ℕ → Option ℕ) (b : Option ℕ) (xs : List ℕ) → Apart n xs → Precedes prev b xs
    → ((j : ℕ) → (j ≡ n → ⊥) → prev' j ≡ prev j) → prev' n ≡ last_or b xs
    → Precedes prev' b (xs ++ n ∷ [])
precedes_push n prev prev' b [] a p same here = (here, tt)
precedes_push n prev prev' b (x ∷ xs) a p same here = (same x a.0 ∙ p.0, precedes_push n prev prev' (Some x) xs a.1 p.1 same here)

starts_push : (n : ℕ) (first last first' : Option ℕ) (xs : List ℕ) → first ≡ first_or None xs → last ≡ last_or None xs
    → (last ≡ None → first' ≡ Some n) → ((l : ℕ) → last ≡ Some l → first' ≡ first)
    → first' ≡ first_or None (xs ++ n ∷ [])
starts_push n first last first' [] s e new old = new e
starts_push n first last first' (x ∷ xs) s e new old = let l = last_some x xs in old l.0 (e ∙ l.1) ∙ s

pub pushed : (n : ℕ) (next prev : ℕ → Option ℕ) (first last : Option ℕ) (next' prev' : ℕ → Option ℕ) (first' last' : Option ℕ) (xs : List ℕ)
    → Pushes n next prev first last next' prev' first' last' → Distinct xs → Apart n xs → IsList next prev first last xs → IsList next' prev' first' last' (xs ++ n ∷ [])
pushed n next prev first last next' prev' first' last' xs h d a is = record {
  follows = follows_push n next next' xs d a is.follows (λ j ne other. h.nexts j ne (λ e. other (sym is.ends ∙ e))) (λ l e. h.joins l (is.ends ∙ e)) h.here_next;
  precedes = precedes_push n prev prev' None xs a is.precedes h.prevs (h.here_prev ∙ is.ends);
  starts = starts_push n first last first' xs is.starts is.ends h.starts_new h.starts_old;
  ends = h.ends ∙ sym (last_push None n xs);
}

-- OUT OF THE MIDDLE

follows_take : (n : ℕ) (next next' : ℕ → Option ℕ) (b : Option ℕ) (xs ys : List ℕ) → ((j : ℕ) → b ≡ Some j → Apart j (xs ++ n ∷ ys)) → Distinct (xs ++ n ∷ ys) → Follows next (xs ++ n ∷ ys) None
    → ((j : ℕ) → (last_or b xs ≡ Some j → ⊥) → next' j ≡ next j) → ((l : ℕ) → last_or b xs ≡ Some l → next' l ≡ next n)
    → Follows next' (xs ++ ys) None
follows_take n next next' b [] ys a d f same joins = follows_kept next next' None ys (each_map (λ j. b ≡ Some j → ⊥) (λ j. next' j ≡ next j) same ys (apart b ys (λ j e. (a j e).1))) f.1
  where
    apart : (b : Option ℕ) (ys : List ℕ) → ((j : ℕ) → b ≡ Some j → Apart j ys) → Each (λ j. b ≡ Some j → ⊥) ys
    apart b [] h = tt
    apart b (y ∷ ys) h = ((λ e. (h y e).0 refl), apart b ys (λ j e. (h j e).1))
follows_take n next next' b (x ∷ []) ys a d f same joins = (
  joins x refl ∙ f.1.0,
  follows_take n next next' (Some x) [] ys (λ j e. subst (λ v. Apart v (n ∷ ys)) (same_some x j e) d.0) d.1 f.1 same joins,
)
follows_take n next next' b (x ∷ y ∷ xs) ys a d f same joins = (
  same x (λ e. last_has (λ j. j ≡ x → ⊥) y xs (each_left (λ j. j ≡ x → ⊥) (y ∷ xs) (n ∷ ys) d.0) x e refl) ∙ f.0,
  follows_take n next next' (Some x) (y ∷ xs) ys (λ j e. subst (λ v. Apart v (y ∷ xs ++ n ∷ ys)) (same_some x j e) d.0) d.1 f.1 same joins,
)

precedes_take : (n : ℕ) (prev prev' : ℕ → Option ℕ) (b : Option ℕ) (xs ys : List ℕ) → Distinct (xs ++ n ∷ ys) → Precedes prev b (xs ++ n ∷ ys)
    → ((j : ℕ) → (first_or None ys ≡ Some j → ⊥) → prev' j ≡ prev j) → ((f : ℕ) → first_or None ys ≡ Some f → prev' f ≡ prev n)
    → Precedes prev' b (xs ++ ys)
precedes_take n prev prev' b [] [] d p same joins = tt
precedes_take n prev prev' b [] (y ∷ ys) d p same joins = (
  joins y refl ∙ p.0,
  precedes_kept prev prev' (Some y) ys (each_map (λ j. j ≡ y → ⊥) (λ j. prev' j ≡ prev j) (λ j ne. same j (λ e. ne (sym (same_some y j e)))) ys d.1.0) p.1.1,
)
precedes_take n prev prev' b (x ∷ xs) ys d p same joins = (
  same x (λ e. first_among (λ j. j ≡ x → ⊥) ys (each_right (λ j. j ≡ x → ⊥) xs (n ∷ ys) d.0).1 x e refl) ∙ p.0,
  precedes_take n prev prev' (Some x) xs ys d.1 p.1 same joins,
)

starts_take : (n : ℕ) (first' first back on : Option ℕ) (xs ys : List ℕ) → first ≡ first_or None (xs ++ n ∷ ys) → back ≡ last_or None xs → on ≡ first_or None ys
    → (back ≡ None → first' ≡ on) → ((l : ℕ) → back ≡ Some l → first' ≡ first)
    → first' ≡ first_or None (xs ++ ys)
starts_take n first' first back on [] ys s b o new old = new b ∙ o
starts_take n first' first back on (x ∷ xs) ys s b o new old = let l = last_some x xs in old l.0 (b ∙ l.1) ∙ s

ends_take : (n : ℕ) (last' last back on : Option ℕ) (xs ys : List ℕ) → last ≡ last_or None (xs ++ n ∷ ys) → back ≡ last_or None xs → on ≡ first_or None ys
    → (on ≡ None → last' ≡ back) → ((f : ℕ) → on ≡ Some f → last' ≡ last)
    → last' ≡ last_or None (xs ++ ys)
ends_take n last' last back on xs [] s b o new old = new o ∙ b ∙ ap (last_or None) (sym (append-nil xs))
ends_take n last' last back on xs (y ∷ ys) s b o new old = old y o ∙ s ∙ last_skip None n y xs ys

pub taken : (n : ℕ) (next prev : ℕ → Option ℕ) (first last : Option ℕ) (next' prev' : ℕ → Option ℕ) (first' last' : Option ℕ) (xs ys : List ℕ)
    → Takes n next prev first last next' prev' first' last' → Distinct (xs ++ n ∷ ys) → IsList next prev first last (xs ++ n ∷ ys) → IsList next' prev' first' last' (xs ++ ys)
taken n next prev first last next' prev' first' last' xs ys h d is =
    let on = follows_at next None n xs ys is.follows in
    let back = precedes_at prev None n xs ys is.precedes in
    record {
      follows = follows_take n next next' None xs ys (λ j e. absurd (none_some j e)) d is.follows (λ j ne. h.nexts j (λ e. ne (sym back ∙ e))) (λ l e. h.joins_next l (back ∙ e));
      precedes = precedes_take n prev prev' None xs ys d is.precedes (λ j ne. h.prevs j (λ e. ne (sym on ∙ e))) (λ f e. h.joins_prev f (on ∙ e));
      starts = starts_take n first' first (prev n) (next n) xs ys is.starts back on h.starts_new h.starts_old;
      ends = ends_take n last' last (prev n) (next n) xs ys is.ends back on h.ends_new h.ends_old;
    }
  where
    none_some : (j : ℕ) → None ≡ Some j → ⊥
    none_some j e = cc
