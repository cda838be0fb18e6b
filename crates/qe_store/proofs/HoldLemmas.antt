-- What inserting, replacing and removing a document do to the parts of a store.
use Rattle.std.proofs.Common.{◌≡◌, ℕ, ◌<◌, ◌+◌, Bool, true, false, cond, not, nat_eq, List, [], ◌∷◌, ◌++◌, map, inl, inr, Option, None, Some, IsSomeAnd, refl, sym, ◌∙◌, ap, subst, arith}
use Rattle.std.proofs.lemmas.Bool.{cases_Bool, cond_both, eqb-true}
use Rattle.std.proofs.lemmas.List.{append-nil, map-append}
use Rattle.qe_chains.specs.Pairs.{tags_of, of_others}
use Rattle.qe_store.specs.declared.stored.Stored.{Stored}
use Rattle.qe_value.specs.declared.value.Value.{Value}
use Rattle.qe_store.specs.Kept.{document_at, without, with_new}
use Rattle.qe_store.specs.Parts.{IsNew, Above, Rising, Below, AreDistinct, ids_of, tags_in, id_pair, paired, Holds}
use Rattle.qe_store.specs.IdHash.{key_of}
use Rattle.qe_store.proofs.ListLemmas.{eq_sym, tags_append, tags_here, tags_there, others_here, others_there}

pub both : (b : Bool) → b ≡ true → b ≡ false → ⊥
both b t f = cc

pub ne_false : (a b : ℕ) → (a ≡ b → ⊥) → nat_eq a b ≡ false
ne_false a b ne = elim (cases_Bool (nat_eq a b)) [ inl t ↦ absurd (ne (eqb-true a b t)) | inr f ↦ f ]

-- at the end of a list of documents
above_push : (n m : ℕ) (s : Stored) (docs : List (ℕ × Stored)) → n < m → Above n docs → Above n (docs ++ (m, s) ∷ [])
above_push n m s [] lt a = (lt, tt)
above_push n m s (d ∷ docs) lt a = (a.0, above_push n m s docs lt a.1)

rising_push : (m : ℕ) (s : Stored) (docs : List (ℕ × Stored)) → Below m docs → Rising docs → Rising (docs ++ (m, s) ∷ [])
rising_push m s [] b r = (tt, tt)
rising_push m s (d ∷ docs) b r = (above_push d.0 m s docs b.0 r.0, rising_push m s docs b.1 r.1)

below_push : (m : ℕ) (s : Stored) (docs : List (ℕ × Stored)) → Below m docs → Below (m + 1) (docs ++ (m, s) ∷ [])
below_push m s [] b = (omega arith, tt)
below_push m s (d ∷ docs) b = (omega (arith, b.0), below_push m s docs b.1)

-- an id that no other has
new_push : (id : Value) (m : ℕ) (s : Stored) (docs : List (ℕ × Stored)) → IsNew id docs → (s.id ≡ id → ⊥) → IsNew id (docs ++ (m, s) ∷ [])
new_push id m s [] new other = (other, tt)
new_push id m s (d ∷ docs) new other = (new.0, new_push id m s docs new.1 other)

distinct_push : (m : ℕ) (s : Stored) (docs : List (ℕ × Stored)) → AreDistinct (ids_of docs) → IsNew s.id docs → AreDistinct (ids_of (docs ++ (m, s) ∷ []))
distinct_push m s [] apart new = (tt, tt)
distinct_push m s (d ∷ docs) apart new = (new_push d.1.id m s docs apart.0 (λ same. new.0 (sym same)), distinct_push m s docs apart.1 new.1)

-- no document has a number that all are below
pub none_at : (m : ℕ) (docs : List (ℕ × Stored)) → Below m docs → document_at m docs ≡ None
none_at m [] b = refl
none_at m (d ∷ docs) b =
    let far : nat_eq m d.0 ≡ false = ne_false m d.0 (λ e. let lt = b.0 in omega arith) in
    ap (λ t. cond t (Some d.1) (document_at m docs)) far ∙ none_at m docs b.1

at_push_here : (n m : ℕ) (s : Stored) (docs : List (ℕ × Stored)) → nat_eq n m ≡ true → document_at n docs ≡ None → document_at n (docs ++ (m, s) ∷ []) ≡ Some s
at_push_here n m s [] e none = ap (λ t. cond t (Some s) None) e
at_push_here n m s (d ∷ docs) e none = elim (cases_Bool (nat_eq n d.0)) [
  | inl t ↦ absurd (no (d.1) (sym (ap (λ t. cond t (Some d.1) (document_at n docs)) t) ∙ none))
  | inr f ↦ ap (λ t. cond t (Some d.1) (document_at n (docs ++ (m, s) ∷ []))) f ∙ at_push_here n m s docs e (sym (ap (λ t. cond t (Some d.1) (document_at n docs)) f) ∙ none)
]
  where
    no : (s : Stored) → Some s ≡ None → ⊥
    no s e = cc

at_push_there : (n m : ℕ) (s : Stored) (docs : List (ℕ × Stored)) → nat_eq n m ≡ false → document_at n (docs ++ (m, s) ∷ []) ≡ document_at n docs
at_push_there n m s [] e = ap (λ t. cond t (Some s) None) e
at_push_there n m s (d ∷ docs) e = ap (λ rest. cond (nat_eq n d.0) (Some d.1) rest) (at_push_there n m s docs e)

pub inserted : (docs : List (ℕ × Stored)) (made : ℕ) (ids tags ids' tags' : List (List ℕ × ℕ)) (s : Stored) → Holds docs made ids tags → IsNew s.id docs
    → ids' ≡ ids ++ (key_of s.id, made) ∷ [] → tags' ≡ tags ++ map (paired made) s.tags → Holds (docs ++ (made, s) ∷ []) (made + 1) ids' tags'
inserted docs made ids tags ids' tags' s h new i t = record {
  rising = rising_push made s docs h.below h.rising;
  below = below_push made s docs h.below;
  distinct = distinct_push made s docs h.distinct new;
  ids = i ∙ ap (λ front. front ++ (key_of s.id, made) ∷ []) h.ids ∙ sym (map-append id_pair docs ((made, s) ∷ []));
  tags = λ n. ap (tags_of n) t ∙ tags_append n tags (map (paired made) s.tags) ∙ at n;
}
  where
    at : (n : ℕ) → tags_of n tags ++ tags_of n (map (paired made) s.tags) ≡ tags_in (document_at n (docs ++ (made, s) ∷ []))
    at n = elim (cases_Bool (nat_eq n made)) [
      | inl e ↦
          let none : document_at n docs ≡ None = subst (λ k. document_at k docs ≡ None) (sym (eqb-true n made e)) (none_at made docs h.below) in
          ap (λ front. front ++ tags_of n (map (paired made) s.tags)) (h.tags n ∙ ap tags_in none) ∙ tags_here n made s.tags e ∙ ap tags_in (sym (at_push_here n made s docs e none))
      | inr f ↦
          ap (λ back. tags_of n tags ++ back) (tags_there n made s.tags f) ∙ append-nil (tags_of n tags) ∙ h.tags n ∙ ap tags_in (sym (at_push_there n made s docs f))
    ]

-- WITHOUT A DOCUMENT

above_without : (n m : ℕ) (docs : List (ℕ × Stored)) → Above n docs → Above n (without m docs)
above_without n m [] a = tt
above_without n m (d ∷ docs) a = cond_both (not (nat_eq m d.0)) (d ∷ without m docs) (without m docs) (Above n) (λ _. (a.0, above_without n m docs a.1)) (λ _. above_without n m docs a.1)

rising_without : (m : ℕ) (docs : List (ℕ × Stored)) → Rising docs → Rising (without m docs)
rising_without m [] r = tt
rising_without m (d ∷ docs) r = cond_both (not (nat_eq m d.0)) (d ∷ without m docs) (without m docs) Rising (λ _. (above_without d.0 m docs r.0, rising_without m docs r.1)) (λ _. rising_without m docs r.1)

below_without : (n m : ℕ) (docs : List (ℕ × Stored)) → Below n docs → Below n (without m docs)
below_without n m [] b = tt
below_without n m (d ∷ docs) b = cond_both (not (nat_eq m d.0)) (d ∷ without m docs) (without m docs) (Below n) (λ _. (b.0, below_without n m docs b.1)) (λ _. below_without n m docs b.1)

new_without : (id : Value) (m : ℕ) (docs : List (ℕ × Stored)) → IsNew id docs → IsNew id (without m docs)
new_without id m [] new = tt
new_without id m (d ∷ docs) new = cond_both (not (nat_eq m d.0)) (d ∷ without m docs) (without m docs) (IsNew id) (λ _. (new.0, new_without id m docs new.1)) (λ _. new_without id m docs new.1)

distinct_without : (m : ℕ) (docs : List (ℕ × Stored)) → AreDistinct (ids_of docs) → AreDistinct (ids_of (without m docs))
distinct_without m [] apart = tt
distinct_without m (d ∷ docs) apart =
    cond_both (not (nat_eq m d.0)) (d ∷ without m docs) (without m docs) (λ ds. AreDistinct (ids_of ds)) (λ _. (new_without d.1.id m docs apart.0, distinct_without m docs apart.1)) (λ _. distinct_without m docs apart.1)

ids_without : (m : ℕ) (docs : List (ℕ × Stored)) → of_others m (map id_pair docs) ≡ map id_pair (without m docs)
ids_without m [] = refl
ids_without m (d ∷ docs) = ap (λ rest. cond (not (nat_eq m d.0)) (id_pair d ∷ rest) rest) (ids_without m docs) ∙ one (not (nat_eq m d.0)) (without m docs)
  where
    one : (b : Bool) (rest : List (ℕ × Stored)) → cond b (id_pair d ∷ map id_pair rest) (map id_pair rest) ≡ map id_pair (cond b (d ∷ rest) rest)
    one true rest = refl
    one false rest = refl

at_without_here : (n m : ℕ) (docs : List (ℕ × Stored)) → nat_eq m n ≡ true → document_at n (without m docs) ≡ None
at_without_here n m [] e = refl
at_without_here n m (d ∷ docs) e = elim (cases_Bool (nat_eq m d.0)) [
  | inl t ↦ ap (λ b. document_at n (cond (not b) (d ∷ without m docs) (without m docs))) t ∙ at_without_here n m docs e
  | inr f ↦
      let far : nat_eq n d.0 ≡ false = subst (λ k. nat_eq k d.0 ≡ false) (eqb-true m n e) f in
      ap (λ b. document_at n (cond (not b) (d ∷ without m docs) (without m docs))) f ∙ ap (λ b. cond b (Some d.1) (document_at n (without m docs))) far ∙ at_without_here n m docs e
]

at_without_there : (n m : ℕ) (docs : List (ℕ × Stored)) → nat_eq m n ≡ false → document_at n (without m docs) ≡ document_at n docs
at_without_there n m [] e = refl
at_without_there n m (d ∷ docs) e = elim (cases_Bool (nat_eq m d.0)) [
  | inl t ↦
      let far : nat_eq n d.0 ≡ false = subst (λ k. nat_eq n k ≡ false) (eqb-true m d.0 t) (eq_sym m n false e) in
      ap (λ b. document_at n (cond (not b) (d ∷ without m docs) (without m docs))) t ∙ at_without_there n m docs e ∙ sym (ap (λ b. cond b (Some d.1) (document_at n docs)) far)
  | inr f ↦ ap (λ b. document_at n (cond (not b) (d ∷ without m docs) (without m docs))) f ∙ ap (λ rest. cond (nat_eq n d.0) (Some d.1) rest) (at_without_there n m docs e)
]

pub removed : (docs : List (ℕ × Stored)) (made number : ℕ) (ids tags ids' tags' : List (List ℕ × ℕ)) → Holds docs made ids tags
    → ids' ≡ of_others number ids → tags' ≡ of_others number tags → Holds (without number docs) made ids' tags'
removed docs made number ids tags ids' tags' h i t = record {
  rising = rising_without number docs h.rising;
  below = below_without made number docs h.below;
  distinct = distinct_without number docs h.distinct;
  ids = i ∙ ap (of_others number) h.ids ∙ ids_without number docs;
  tags = λ n. ap (tags_of n) t ∙ at n;
}
  where
    at : (n : ℕ) → tags_of n (of_others number tags) ≡ tags_in (document_at n (without number docs))
    at n = elim (cases_Bool (nat_eq number n)) [
      | inl e ↦ others_here n number tags e ∙ ap tags_in (sym (at_without_here n number docs e))
      | inr f ↦ others_there n number tags f ∙ h.tags n ∙ ap tags_in (sym (at_without_there n number docs f))
    ]

-- WITH ANOTHER IN ITS PLACE

same_number : (m : ℕ) (s : Stored) (d : ℕ × Stored) → (cond (nat_eq m d.0) (d.0, s) d).0 ≡ d.0
same_number m s d = one (nat_eq m d.0)
  where
    one : (b : Bool) → (cond b (d.0, s) d).0 ≡ d.0
    one true = refl
    one false = refl

above_with : (n m : ℕ) (s : Stored) (docs : List (ℕ × Stored)) → Above n docs → Above n (with_new m s docs)
above_with n m s [] a = tt
above_with n m s (d ∷ docs) a = (subst (λ k. n < k) (sym (same_number m s d)) a.0, above_with n m s docs a.1)

rising_with : (m : ℕ) (s : Stored) (docs : List (ℕ × Stored)) → Rising docs → Rising (with_new m s docs)
rising_with m s [] r = tt
rising_with m s (d ∷ docs) r = (subst (λ k. Above k (with_new m s docs)) (sym (same_number m s d)) (above_with d.0 m s docs r.0), rising_with m s docs r.1)

below_with : (n m : ℕ) (s : Stored) (docs : List (ℕ × Stored)) → Below n docs → Below n (with_new m s docs)
below_with n m s [] b = tt
below_with n m s (d ∷ docs) b = (subst (λ k. k < n) (sym (same_number m s d)) b.0, below_with n m s docs b.1)

-- all numbers above one are other numbers
pub above_other : (m : ℕ) (s : Stored) (docs : List (ℕ × Stored)) → Above m docs → with_new m s docs ≡ docs
above_other m s [] a = refl
above_other m s (d ∷ docs) a =
    let far : nat_eq m d.0 ≡ false = ne_false m d.0 (λ e. let lt = a.0 in omega arith) in
    ap (λ b. cond b (d.0, s) d ∷ with_new m s docs) far ∙ ap (λ rest. d ∷ rest) (above_other m s docs a.1)

pub above_none : (m : ℕ) (docs : List (ℕ × Stored)) → Above m docs → document_at m docs ≡ None
above_none m [] a = refl
above_none m (d ∷ docs) a =
    let far : nat_eq m d.0 ≡ false = ne_false m d.0 (λ e. let lt = a.0 in omega arith) in
    ap (λ b. cond b (Some d.1) (document_at m docs)) far ∙ above_none m docs a.1

-- the document there has the same id
abbrev pub HasSameId : Stored → Option Stored → Type 0
HasSameId s o = IsSomeAnd o (λ old. old.id ≡ s.id)

-- what is read of each document's number and id stays
map_with : {X : Type 0} (f : ℕ × Stored → X) → ((n : ℕ) (a b : Stored) → a.id ≡ b.id → f (n, a) ≡ f (n, b)) → (m : ℕ) (s : Stored) (docs : List (ℕ × Stored)) → Rising docs → HasSameId s (document_at m docs)
    → map f (with_new m s docs) ≡ map f docs
map_with f same m s [] r h = refl
map_with f same m s (d ∷ docs) r h = elim (cases_Bool (nat_eq m d.0)) [
  | inl t ↦
      let here : d.1.id ≡ s.id = subst (HasSameId s) (ap (λ b. cond b (Some d.1) (document_at m docs)) t) h in
      ap (λ b. f (cond b (d.0, s) d) ∷ map f (with_new m s docs)) t
      ∙ ap (λ x. x ∷ map f (with_new m s docs)) (sym (same d.0 d.1 s here))
      ∙ ap (λ rest. f d ∷ map f rest) (above_other m s docs (subst (λ k. Above k docs) (sym (eqb-true m d.0 t)) r.0))
  | inr e ↦
      ap (λ b. f (cond b (d.0, s) d) ∷ map f (with_new m s docs)) e
      ∙ ap (λ rest. f d ∷ rest) (map_with f same m s docs r.1 (subst (HasSameId s) (ap (λ b. cond b (Some d.1) (document_at m docs)) e) h))
]

at_with_here : (n m : ℕ) (s : Stored) (docs : List (ℕ × Stored)) → nat_eq m n ≡ true → HasSameId s (document_at m docs) → document_at n (with_new m s docs) ≡ Some s
at_with_here n m s [] e h = absurd h
at_with_here n m s (d ∷ docs) e h = elim (cases_Bool (nat_eq m d.0)) [
  | inl t ↦
      let here : nat_eq n d.0 ≡ true = subst (λ k. nat_eq k d.0 ≡ true) (eqb-true m n e) t in
      ap (λ b. cond (nat_eq n (cond b (d.0, s) d).0) (Some (cond b (d.0, s) d).1) (document_at n (with_new m s docs))) t
      ∙ ap (λ b. cond b (Some s) (document_at n (with_new m s docs))) here
  | inr f ↦
      let far : nat_eq n d.0 ≡ false = subst (λ k. nat_eq k d.0 ≡ false) (eqb-true m n e) f in
      ap (λ b. cond (nat_eq n (cond b (d.0, s) d).0) (Some (cond b (d.0, s) d).1) (document_at n (with_new m s docs))) f
      ∙ ap (λ b. cond b (Some d.1) (document_at n (with_new m s docs))) far
      ∙ at_with_here n m s docs e (subst (HasSameId s) (ap (λ b. cond b (Some d.1) (document_at m docs)) f) h)
]

at_with_there : (n m : ℕ) (s : Stored) (docs : List (ℕ × Stored)) → nat_eq m n ≡ false → document_at n (with_new m s docs) ≡ document_at n docs
at_with_there n m s [] e = refl
at_with_there n m s (d ∷ docs) e = elim (cases_Bool (nat_eq m d.0)) [
  | inl t ↦
      let far : nat_eq n d.0 ≡ false = subst (λ k. nat_eq n k ≡ false) (eqb-true m d.0 t) (eq_sym m n false e) in
      ap (λ b. cond (nat_eq n (cond b (d.0, s) d).0) (Some (cond b (d.0, s) d).1) (document_at n (with_new m s docs))) t
      ∙ ap (λ b. cond b (Some s) (document_at n (with_new m s docs))) far
      ∙ at_with_there n m s docs e
      ∙ sym (ap (λ b. cond b (Some d.1) (document_at n docs)) far)
  | inr f ↦
      ap (λ b. cond (nat_eq n (cond b (d.0, s) d).0) (Some (cond b (d.0, s) d).1) (document_at n (with_new m s docs))) f
      ∙ ap (λ rest. cond (nat_eq n d.0) (Some d.1) rest) (at_with_there n m s docs e)
]

pub replaced : (docs : List (ℕ × Stored)) (made number : ℕ) (ids tags tags' : List (List ℕ × ℕ)) (s : Stored) → Holds docs made ids tags → HasSameId s (document_at number docs)
    → tags' ≡ of_others number tags ++ map (paired number) s.tags → Holds (with_new number s docs) made ids tags'
replaced docs made number ids tags tags' s h id t = record {
  rising = rising_with number s docs h.rising;
  below = below_with made number s docs h.below;
  distinct = subst AreDistinct (sym (map_with (λ d. d.1.id) (λ n a b same. same) number s docs h.rising id)) h.distinct;
  ids = h.ids ∙ sym (map_with id_pair (λ n a b same. ap (λ i. (key_of i, n)) same) number s docs h.rising id);
  tags = λ n. ap (tags_of n) t ∙ tags_append n (of_others number tags) (map (paired number) s.tags) ∙ at n;
}
  where
    at : (n : ℕ) → tags_of n (of_others number tags) ++ tags_of n (map (paired number) s.tags) ≡ tags_in (document_at n (with_new number s docs))
    at n = elim (cases_Bool (nat_eq number n)) [
      | inl e ↦
          ap (λ front. front ++ tags_of n (map (paired number) s.tags)) (others_here n number tags e) ∙ tags_here n number s.tags (eq_sym number n true e) ∙ ap tags_in (sym (at_with_here n number s docs e id))
      | inr f ↦
          ap (λ front. front ++ tags_of n (map (paired number) s.tags)) (others_there n number tags f)
          ∙ ap (λ back. tags_of n tags ++ back) (tags_there n number s.tags (eq_sym number n false f)) ∙ append-nil (tags_of n tags) ∙ h.tags n ∙ ap tags_in (sym (at_with_there n number s docs f))
    ]
