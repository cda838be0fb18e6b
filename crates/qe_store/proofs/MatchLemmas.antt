-- Numbers of documents that meet conditions.
use Rattle.std.proofs.Common.{◌≡◌, ◌↔◌, ◌⊎◌, ℕ, ◌+◌, ◌<◌, Bool, true, false, cond, ◌||◌, nat_eq, bytes_eq, List, [], ◌∷◌, ◌++◌, length, take, get_or, map, Option, Some, None, IsSomeAnd, refl, sym, ◌∙◌, ap, subst, inl, inr, ⊎_elim, arith}
use Rattle.std.specs.HashSet.{HashSet, contains}
use Rattle.std.specs.List.{list_any, Contains}
use Rattle.std.proofs.lemmas.Bool.{cases_Bool, cases_lt, eqb-true, eq-eqb}
use Rattle.std.proofs.lemmas.List.{take_more}
use Rattle.std.proofs.lemmas.List.Elements.{Contains-append_left, Contains-append_right, Contains-push, Contains-push_cases, Contains-append_cases}
use Rattle.std.proofs.lemmas.List.Folds.{list_any_more}
use Rattle.std.proofs.lemmas.Slice.Eq.{bytes_eq-Decides}
use Rattle.std.specs.Cmp.Lexicographic.{nat_list_eq_equiv}
use Rattle.qe_chains.specs.Pairs.{documents_with, tags_of, of_document, with_the_tag}
use Rattle.qe_store.specs.declared.stored.Stored.{Stored}
use Rattle.qe_store.specs.declared.stored.TermSet.{TermSet}
use Rattle.qe_store.specs.declared.stored.TermSet.TheVariants.{Tags}
use Rattle.qe_store.specs.Kept.{document_at, has_tag, Meets, MeetsAll, IsMatch}
use Rattle.qe_store.specs.Parts.{tags_in, MeetsAt, AreThose, IsSetOf}

-- KEPT NUMBERS

module _ (P : ℕ → Type 0) (xs kept : List ℕ) (i d : ℕ) (within : i < length xs) (so_far : AreThose P (take i xs) kept) where
  abbrev x : ℕ
  x = get_or xs i d

  -- one more of the numbers is kept
  pub kept_one : P x → AreThose P (take (i + 1) xs) (kept ++ x ∷ [])
  kept_one holds n = subst (λ front. Contains (kept ++ x ∷ []) n ↔ (Contains front n × P n)) (sym (take_more xs i d within)) (
    (λ has. ⊎_elim
        (λ before. let old = (so_far n).0 before in (Contains-append_left (take i xs) (x ∷ []) n old.0, old.1))
        (λ (same : x ≡ n). subst (λ k. Contains (take i xs ++ x ∷ []) k × P k) same (Contains-push (take i xs) x, holds))
        (Contains-push_cases kept x n has)),
    (λ both. ⊎_elim
        (λ before. Contains-append_left kept (x ∷ []) n ((so_far n).1 (before, both.1)))
        (λ (same : x ≡ n). subst (Contains (kept ++ x ∷ [])) same (Contains-push kept x))
        (Contains-push_cases (take i xs) x n both.0)),
  )

  -- or isn't
  pub kept_none : (P x → ⊥) → AreThose P (take (i + 1) xs) kept
  kept_none fails n = subst (λ front. Contains kept n ↔ (Contains front n × P n)) (sym (take_more xs i d within)) (
    (λ has. let old = (so_far n).0 has in (Contains-append_left (take i xs) (x ∷ []) n old.0, old.1)),
    (λ both. ⊎_elim
        (λ before. (so_far n).1 (before, both.1))
        (λ (same : x ≡ n). absurd (fails (subst P (sym same) both.1)))
        (Contains-push_cases (take i xs) x n both.0)),
  )

-- TAGS

or_cases : (a b : Bool) → (a || b) ≡ true → (a ≡ true) ⊎ (b ≡ true)
or_cases true b e = inl refl
or_cases false b e = inr e

or_left : (a b : Bool) → a ≡ true → (a || b) ≡ true
or_left true b e = refl
or_left false b e = absurd (no e)
  where
    no : false ≡ true → ⊥
    no e = cc

or_right : (a b : Bool) → b ≡ true → (a || b) ≡ true
or_right true b e = refl
or_right false b e = e

-- one more tag in a set
or_cond : (b s : Bool) → cond b true s ≡ (s || b)
or_cond true true = refl
or_cond true false = refl
or_cond false true = refl
or_cond false false = refl

pub has_one_more : (tags : List (List ℕ)) (i : ℕ) (d q : List ℕ) (old : Bool) → i < length tags → old ≡ has_tag (take i tags) q → cond (bytes_eq (get_or tags i d) q) true old ≡ has_tag (take (i + 1) tags) q
has_one_more tags i d q old within is =
    or_cond (bytes_eq (get_or tags i d) q) old
    ∙ ap (λ b. old || b) (nat_list_eq_equiv.symm (get_or tags i d) q)
    ∙ ap (λ b. b || bytes_eq q (get_or tags i d)) is
    ∙ sym (list_any_more (bytes_eq q) tags i d within)

-- a test by a set is one by its tags
pub by_set : {S : Type 0} (docs : List (ℕ × Stored)) (tags : List (List ℕ)) (set : HashSet (List ℕ) S) (n : ℕ) → IsSetOf tags set
    → IsSomeAnd (document_at n docs) (λ (s : Stored). list_any (contains bytes_eq set) s.tags ≡ true) ↔ MeetsAt docs (Tags tags) n
by_set docs tags set n same =
    let all : contains bytes_eq set ≡ has_tag tags = λ i q. same q i in (
      subst (λ test. IsSomeAnd (document_at n docs) (λ (s : Stored). list_any test s.tags ≡ true)) all,
      subst (λ test. IsSomeAnd (document_at n docs) (λ (s : Stored). list_any test s.tags ≡ true)) (sym all),
    )

-- a tag of both lists, whichever is gone through
put_in : (x : List ℕ) (xs ys : List (List ℕ)) → has_tag ys x ≡ true → list_any (has_tag (x ∷ xs)) ys ≡ true
put_in x xs [] e = absurd (no e)
  where
    no : false ≡ true → ⊥
    no e = cc
put_in x xs (y ∷ ys) e = ⊎_elim
    (λ here. let back : bytes_eq y x ≡ true = (bytes_eq-Decides y x).1 (sym ((bytes_eq-Decides x y).0 here)) in
    or_left (bytes_eq y x || has_tag xs y) (list_any (has_tag (x ∷ xs)) ys) (or_left (bytes_eq y x) (has_tag xs y) back))
    (λ there. or_right (bytes_eq y x || has_tag xs y) (list_any (has_tag (x ∷ xs)) ys) (put_in x xs ys there))
    (or_cases (bytes_eq x y) (has_tag ys x) e)

any_more : (x : List ℕ) (xs ys : List (List ℕ)) → list_any (has_tag xs) ys ≡ true → list_any (has_tag (x ∷ xs)) ys ≡ true
any_more x xs [] e = e
any_more x xs (y ∷ ys) e = ⊎_elim
    (λ here. or_left (bytes_eq y x || has_tag xs y) (list_any (has_tag (x ∷ xs)) ys) (or_right (bytes_eq y x) (has_tag xs y) here))
    (λ there. or_right (bytes_eq y x || has_tag xs y) (list_any (has_tag (x ∷ xs)) ys) (any_more x xs ys there))
    (or_cases (has_tag xs y) (list_any (has_tag xs) ys) e)

any_swap : (xs ys : List (List ℕ)) → list_any (has_tag ys) xs ≡ true → list_any (has_tag xs) ys ≡ true
any_swap [] ys e = absurd (no e)
  where
    no : false ≡ true → ⊥
    no e = cc
any_swap (x ∷ xs) ys e = ⊎_elim (put_in x xs ys) (λ there. any_more x xs ys (any_swap xs ys there)) (or_cases (has_tag ys x) (list_any (has_tag ys) xs) e)

-- who has a tag is among the documents with it
tagged_among : (tag : List ℕ) (n : ℕ) (pairs : List (List ℕ × ℕ)) → has_tag (tags_of n pairs) tag ≡ true → Contains (documents_with tag pairs) n
tagged_among tag n [] e = absurd (no e)
  where
    no : false ≡ true → ⊥
    no e = cc
tagged_among tag n (p ∷ pairs) e = elim (cases_Bool (nat_eq n p.1)) [
  | inl t ↦ ⊎_elim
      (λ (here : bytes_eq tag p.0 ≡ true). subst (λ b. Contains (map (λ q. q.1) (cond b (p ∷ with_the_tag tag pairs) (with_the_tag tag pairs))) n) (sym here)
      (subst (Contains (p.1 ∷ documents_with tag pairs)) (sym (eqb-true n p.1 t)) (Contains-append_left (p.1 ∷ []) (documents_with tag pairs) p.1 (Contains-push [] p.1))))
      (λ there. later (bytes_eq tag p.0) (tagged_among tag n pairs there))
      (or_cases (bytes_eq tag p.0) (has_tag (tags_of n pairs) tag) (sym (ap (λ b. has_tag (map (λ q. q.0) (cond b (p ∷ of_document n pairs) (of_document n pairs))) tag) t) ∙ e))
  | inr f ↦ later (bytes_eq tag p.0) (tagged_among tag n pairs (sym (ap (λ b. has_tag (map (λ q. q.0) (cond b (p ∷ of_document n pairs) (of_document n pairs))) tag) f) ∙ e))
]
  where
    later : (b : Bool) → Contains (documents_with tag pairs) n → Contains (map (λ q. q.1) (cond b (p ∷ with_the_tag tag pairs) (with_the_tag tag pairs))) n
    later true has = Contains-append_right (p.1 ∷ []) (documents_with tag pairs) n has
    later false has = has

-- whose document has one of the first tags
has_more : (o : Option Stored) (tags : List (List ℕ)) (i : ℕ) (d : List ℕ) → i < length tags
    → IsSomeAnd o (λ (s : Stored). list_any (has_tag (take (i + 1) tags)) s.tags ≡ true)
    → IsSomeAnd o (λ (s : Stored). list_any (has_tag (take i tags)) s.tags ≡ true) ⊎ (has_tag (tags_in o) (get_or tags i d) ≡ true)
has_more None tags i d within has = absurd has
has_more (Some s) tags i d within has =
    ⊎_elim (λ before. inl (any_swap (take i tags) s.tags before)) (λ here. inr here)
    (or_cases (list_any (has_tag s.tags) (take i tags)) (has_tag s.tags (get_or tags i d)) (sym (list_any_more (has_tag s.tags) tags i d within) ∙ any_swap s.tags (take (i + 1) tags) has))

pub tagged_more : (docs : List (ℕ × Stored)) (pairs : List (List ℕ × ℕ)) (tags : List (List ℕ)) (i : ℕ) (d : List ℕ) (numbers : List ℕ) → i < length tags
    → ((n : ℕ) → tags_of n pairs ≡ tags_in (document_at n docs))
    → ((n : ℕ) → MeetsAt docs (Tags (take i tags)) n → Contains numbers n)
    → (n : ℕ) → MeetsAt docs (Tags (take (i + 1) tags)) n → Contains (numbers ++ documents_with (get_or tags i d) pairs) n
tagged_more docs pairs tags i d numbers within are so_far n has = ⊎_elim
    (λ before. Contains-append_left numbers (documents_with (get_or tags i d) pairs) n (so_far n before))
    (λ here. Contains-append_right numbers (documents_with (get_or tags i d) pairs) n (tagged_among (get_or tags i d) n pairs (ap (λ own. has_tag own (get_or tags i d)) (are n) ∙ here)))
    (has_more (document_at n docs) tags i d within has)

pub tagged_none : (docs : List (ℕ × Stored)) (n : ℕ) → MeetsAt docs (Tags []) n → ⊥
tagged_none docs n has = none (document_at n docs) has
  where
    nothing : (tags : List (List ℕ)) → list_any (has_tag []) tags ≡ true → ⊥
    nothing [] e = cc
    nothing (t ∷ tags) e = nothing tags e

    none : (o : Option Stored) → IsSomeAnd o (λ (s : Stored). list_any (has_tag []) s.tags ≡ true) → ⊥
    none None has = has
    none (Some s) has = nothing s.tags has

-- ALL CONDITIONS

-- each of the first conditions is met
abbrev pub MeetsFirst : List (ℕ × Stored) → List TermSet → ℕ → ℕ → Type 0
MeetsFirst docs terms i n = (k : ℕ) → k < i → (d : TermSet) → MeetsAt docs (get_or terms k d) n

pub meets_more : (docs : List (ℕ × Stored)) (terms : List TermSet) (i n : ℕ) → MeetsFirst docs terms i n → ((d : TermSet) → MeetsAt docs (get_or terms i d) n) → MeetsFirst docs terms (i + 1) n
meets_more docs terms i n first next k less d = ⊎_elim (λ before. first k before d) (λ from. let here : k ≡ i = omega arith in subst (λ j. MeetsAt docs (get_or terms j d) n) (sym here) (next d)) (cases_lt k i)

pub match_one : (docs : List (ℕ × Stored)) (terms : List TermSet) (n k : ℕ) (d : TermSet) → k < length terms → IsMatch docs terms n → MeetsAt docs (get_or terms k d) n
match_one docs terms n k d less all = at (document_at n docs) all
  where
    at : (o : Option Stored) → IsSomeAnd o (MeetsAll terms) → IsSomeAnd o (Meets (get_or terms k d))
    at None all = all
    at (Some s) all = all k d less

pub match_all : (docs : List (ℕ × Stored)) (terms : List TermSet) (n : ℕ) → 0 < length terms → MeetsFirst docs terms (length terms) n → IsMatch docs terms n
match_all docs [] n some first = absurd (omega arith)
match_all docs (t ∷ terms) n some first = at (document_at n docs) first
  where
    at : (o : Option Stored) → ((k : ℕ) → k < length (t ∷ terms) → (d : TermSet) → IsSomeAnd o (Meets (get_or (t ∷ terms) k d))) → IsSomeAnd o (MeetsAll (t ∷ terms))
    at None each = each 0 (omega arith) t
    at (Some s) each = λ k d less. each k less d

-- NO CONDITION

only_one : (a n : ℕ) → Contains (a ∷ []) n → n ≡ a
only_one a n has = ⊎_elim (λ (none : Contains [] n). absurd (omega (arith, none.1))) (λ (same : a ≡ n). sym same) (Contains-push_cases [] a n has)

pub all_match : (docs : List (ℕ × Stored)) (n : ℕ) → Contains (map (λ d. d.0) docs) n ↔ IsMatch docs [] n
all_match [] n = ((λ has. absurd (omega (arith, has.1))), (λ has. absurd has))
all_match (d ∷ docs) n = by_test (nat_eq n d.0) refl (all_match docs n)
  where
    numbers : List ℕ
    numbers = map (λ d. d.0) docs

    no : (b : Bool) → b ≡ true → b ≡ false → ⊥
    no b t f = cc

    by_test : (b : Bool) → nat_eq n d.0 ≡ b → (Contains numbers n ↔ IsMatch docs [] n) → Contains (d.0 ∷ numbers) n ↔ IsMatch (d ∷ docs) [] n
    by_test true t rest = (
      (λ _. subst (λ (o : Option Stored). IsSomeAnd o (MeetsAll [])) (sym (ap (λ b. cond b (Some d.1) (document_at n docs)) t)) (λ k e less. absurd (omega arith))),
      (λ _. subst (Contains (d.0 ∷ numbers)) (sym (eqb-true n d.0 t)) (Contains-append_left (d.0 ∷ []) numbers d.0 (Contains-push [] d.0))),
    )
    by_test false f rest = (
      (λ has. subst (λ (o : Option Stored). IsSomeAnd o (MeetsAll [])) (sym (ap (λ b. cond b (Some d.1) (document_at n docs)) f)) (rest.0 (⊎_elim
          (λ (first : Contains (d.0 ∷ []) n). absurd (no (nat_eq n d.0) (eq-eqb n d.0 (only_one d.0 n first)) f))
          (λ (later : Contains numbers n). later)
          (Contains-append_cases (d.0 ∷ []) numbers n has)))),
      (λ has. Contains-append_right (d.0 ∷ []) numbers n (rest.1 (subst (λ (o : Option Stored). IsSomeAnd o (MeetsAll [])) (ap (λ b. cond b (Some d.1) (document_at n docs)) f) has))),
    )
