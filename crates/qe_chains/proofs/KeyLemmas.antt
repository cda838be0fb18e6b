-- Lists for each key: what putting a node at the end and taking one out do to the lists of all keys.
use Rattle.std.proofs.Common.{◌≡◌, ℕ, Bool, true, false, cond, List, [], ◌∷◌, ◌++◌, filter, ◌⊎◌, inl, inr, Option, None, Some, refl, sym, ◌∙◌, ap, subst}
use Rattle.std.proofs.lemmas.Bool.{cases_Bool, cond_both}
use Rattle.std.proofs.lemmas.List.Elements.{filter-append}
use Rattle.std.proofs.lemmas.List.{append-nil}
use Rattle.qe_chains.specs.Linked.{Each, Apart, Distinct, IsList, Pushes, Takes, those, AreLists}
use Rattle.qe_chains.proofs.LinkLemmas.{each_map, each_both, last_among, first_among, follows_at, precedes_at}
use Rattle.qe_chains.proofs.ListLemmas.{kept, pushed, taken}

not_both : (b : Bool) → b ≡ true → b ≡ false → ⊥
not_both b t f = cc

-- a filter keeps what holds of each, and the distance of any two
pub each_filter : (P : ℕ → Type 0) (p : ℕ → Bool) (xs : List ℕ) → Each P xs → Each P (filter p xs)
each_filter P p [] h = tt
each_filter P p (x ∷ xs) h = cond_both (p x) (x ∷ filter p xs) (filter p xs) (Each P) (λ _. (h.0, each_filter P p xs h.1)) (λ _. each_filter P p xs h.1)

pub filter_passes : (p : ℕ → Bool) (xs : List ℕ) → Each (λ x. p x ≡ true) (filter p xs)
filter_passes p [] = tt
filter_passes p (x ∷ xs) = cond_both (p x) (x ∷ filter p xs) (filter p xs) (Each (λ y. p y ≡ true)) (λ e. (e, filter_passes p xs)) (λ _. filter_passes p xs)

distinct_filter : (p : ℕ → Bool) (xs : List ℕ) → Distinct xs → Distinct (filter p xs)
distinct_filter p [] d = tt
distinct_filter p (x ∷ xs) d = cond_both (p x) (x ∷ filter p xs) (filter p xs) Distinct (λ _. (each_filter (λ y. y ≡ x → ⊥) p xs d.0, distinct_filter p xs d.1)) (λ _. distinct_filter p xs d.1)

-- two tests that agree on the elements keep the same
pub filter_agrees : (p q : ℕ → Bool) (xs : List ℕ) → Each (λ x. p x ≡ q x) xs → filter p xs ≡ filter q xs
filter_agrees p q [] h = refl
filter_agrees p q (x ∷ xs) h = ap (λ b. cond b (x ∷ filter p xs) (filter p xs)) h.0 ∙ ap (λ rest. cond (q x) (x ∷ rest) rest) (filter_agrees p q xs h.1)

-- one element at the end of a filter
filter_end : (p : ℕ → Bool) (n : ℕ) (xs : List ℕ) → filter p (xs ++ n ∷ []) ≡ filter p xs ++ cond (p n) (n ∷ []) []
filter_end p n xs = filter-append p xs (n ∷ [])

module _ {K : Type 0} (eq : K → K → Bool) (sound : (a b : K) → eq a b ≡ true → a ≡ b) (same : (a : K) → eq a a ≡ true) where
  -- two keys are equal or not
  pub cases_key : (a b : K) → (a ≡ b) ⊎ (eq a b ≡ false)
  cases_key a b = elim (cases_Bool (eq a b)) [ inl e ↦ inl (sound a b e) | inr e ↦ inr e ]

  pub apart_key : (a b : K) → eq a b ≡ false → a ≡ b → ⊥
  apart_key a b f e = not_both (eq a b) (subst (λ v. eq a v ≡ true) e (same a)) f

  pub other_way : (a b : K) → eq a b ≡ false → eq b a ≡ false
  other_way a b f = elim (cases_Bool (eq b a)) [ inl e ↦ absurd (apart_key a b f (sym (sound b a e))) | inr e ↦ e ]

  module _ (n : ℕ) (key key' : ℕ → K) (next prev next' prev' : ℕ → Option ℕ) (first last first' last' : K → Option ℕ) (f l : Option ℕ) (order : List ℕ)
      (sets_first : (q : K) → first' q ≡ cond (eq (key' n) q) f (first q)) (sets_last : (q : K) → last' q ≡ cond (eq (key' n) q) l (last q))
      (keys : Each (λ j. key' j ≡ key j) order) (distinct : Distinct order) (apart : Apart n order)
      (lists : AreLists eq key next prev first last order) (pushes : Pushes n next prev (first (key' n)) (last (key' n)) next' prev' f l) where
    those_same : (k : K) → those eq key' k order ≡ those eq key k order
    those_same k = filter_agrees (λ j. eq k (key' j)) (λ j. eq k (key j)) order (each_map (λ j. key' j ≡ key j) (λ j. eq k (key' j) ≡ eq k (key j)) (λ j e. ap (eq k) e) order keys)

    push_here : IsList next' prev' (first' (key' n)) (last' (key' n)) (those eq key' (key' n) (order ++ n ∷ []))
    push_here =
        let k = key' n in
        let grown : those eq key k order ++ n ∷ [] ≡ those eq key' k (order ++ n ∷ []) =
        sym (filter_end (λ j. eq k (key' j)) n order ∙ ap (λ b. those eq key' k order ++ cond b (n ∷ []) []) (same k) ∙ ap (λ xs. xs ++ n ∷ []) (those_same k)) in
        let at_first : f ≡ first' k = sym (sets_first k ∙ ap (λ b. cond b f (first k)) (same k)) in
        let at_last : l ≡ last' k = sym (sets_last k ∙ ap (λ b. cond b l (last k)) (same k)) in
        let done = pushed n next prev (first k) (last k) next' prev' f l (those eq key k order) pushes (distinct_filter (λ j. eq k (key j)) order distinct) (each_filter (λ j. j ≡ n → ⊥) (λ j. eq k (key j)) order apart) (lists k) in
        subst (λ xs. IsList next' prev' (first' k) (last' k) xs) grown (subst (λ o. IsList next' prev' (first' k) o (those eq key k order ++ n ∷ [])) at_last (subst (λ o. IsList next' prev' o l (those eq key k order ++ n ∷ [])) at_first done))

    push_other : (k : K) → eq (key' n) k ≡ false → IsList next' prev' (first' k) (last' k) (those eq key' k (order ++ n ∷ []))
    push_other k other =
        let p = λ (j : ℕ). eq k (key j) in
        let grown : those eq key k order ≡ those eq key' k (order ++ n ∷ []) =
        sym (filter_end (λ j. eq k (key' j)) n order ∙ ap (λ b. those eq key' k order ++ cond b (n ∷ []) []) (other_way (key' n) k other) ∙ append-nil (those eq key' k order) ∙ those_same k) in
        let at_first : first k ≡ first' k = sym (sets_first k ∙ ap (λ b. cond b f (first k)) other) in
        let at_last : last k ≡ last' k = sym (sets_last k ∙ ap (λ b. cond b l (last k)) other) in
        let ours = each_both (λ j. j ≡ n → ⊥) (λ j. p j ≡ true) (filter p order) (each_filter (λ j. j ≡ n → ⊥) p order apart) (filter_passes p order) in
        let theirs : (j : ℕ) → p j ≡ true → last (key' n) ≡ Some j → ⊥ = λ j holds e.
        let is : eq (key' n) (key j) ≡ true = last_among (λ i. eq (key' n) (key i) ≡ true) (those eq key (key' n) order) (filter_passes (λ i. eq (key' n) (key i)) order) j (sym (lists (key' n)).ends ∙ e) in
        apart_key (key' n) k other (sound (key' n) (key j) is ∙ sym (sound k (key j) holds)) in
        let done = kept next prev next' prev' (first k) (last k) (those eq key k order)
        (each_map (λ j. (j ≡ n → ⊥) × (p j ≡ true)) (λ j. next' j ≡ next j) (λ j h. pushes.nexts j h.0 (theirs j h.1)) (filter p order) ours)
        (each_map (λ j. (j ≡ n → ⊥) × (p j ≡ true)) (λ j. prev' j ≡ prev j) (λ j h. pushes.prevs j h.0) (filter p order) ours) (lists k) in
        subst (λ xs. IsList next' prev' (first' k) (last' k) xs) grown (subst (λ o. IsList next' prev' (first' k) o (those eq key k order)) at_last (subst (λ o. IsList next' prev' o (last k) (those eq key k order)) at_first done))

    pub pushed_all : AreLists eq key' next' prev' first' last' (order ++ n ∷ [])
    pushed_all k = elim (cases_key (key' n) k) [
      | inl e ↦ subst (λ v. IsList next' prev' (first' v) (last' v) (those eq key' v (order ++ n ∷ []))) e push_here
      | inr other ↦ push_other k other
    ]

  module _ (n : ℕ) (key : ℕ → K) (next prev next' prev' : ℕ → Option ℕ) (first last first' last' : K → Option ℕ) (f l : Option ℕ) (xs ys : List ℕ)
      (sets_first : (q : K) → first' q ≡ cond (eq (key n) q) f (first q)) (sets_last : (q : K) → last' q ≡ cond (eq (key n) q) l (last q))
      (distinct : Distinct (xs ++ n ∷ ys))
      (lists : AreLists eq key next prev first last (xs ++ n ∷ ys)) (takes : Takes n next prev (first (key n)) (last (key n)) next' prev' f l) where
    -- those with n's key, cut at n
    pub those_cut : those eq key (key n) (xs ++ n ∷ ys) ≡ those eq key (key n) xs ++ n ∷ those eq key (key n) ys
    those_cut = filter-append (λ j. eq (key n) (key j)) xs (n ∷ ys) ∙ ap (λ b. those eq key (key n) xs ++ cond b (n ∷ those eq key (key n) ys) (those eq key (key n) ys)) (same (key n))

    pub cut_list : IsList next prev (first (key n)) (last (key n)) (those eq key (key n) xs ++ n ∷ those eq key (key n) ys)
    cut_list = subst (λ zs. IsList next prev (first (key n)) (last (key n)) zs) those_cut (lists (key n))

    take_here : IsList next' prev' (first' (key n)) (last' (key n)) (those eq key (key n) (xs ++ ys))
    take_here =
        let k = key n in
        let at_first : f ≡ first' k = sym (sets_first k ∙ ap (λ b. cond b f (first k)) (same k)) in
        let at_last : l ≡ last' k = sym (sets_last k ∙ ap (λ b. cond b l (last k)) (same k)) in
        let apart : Distinct (those eq key k xs ++ n ∷ those eq key k ys) = subst Distinct those_cut (distinct_filter (λ j. eq k (key j)) (xs ++ n ∷ ys) distinct) in
        let done = taken n next prev (first k) (last k) next' prev' f l (those eq key k xs) (those eq key k ys) takes apart cut_list in
        subst (λ zs. IsList next' prev' (first' k) (last' k) zs) (sym (filter-append (λ j. eq k (key j)) xs ys))
        (subst (λ o. IsList next' prev' (first' k) o (those eq key k xs ++ those eq key k ys)) at_last (subst (λ o. IsList next' prev' o l (those eq key k xs ++ those eq key k ys)) at_first done))

    take_other : (k : K) → eq (key n) k ≡ false → IsList next' prev' (first' k) (last' k) (those eq key k (xs ++ ys))
    take_other k other =
        let p = λ (j : ℕ). eq k (key j) in
        let ours : those eq key k (xs ++ n ∷ ys) ≡ those eq key k (xs ++ ys) =
        filter-append p xs (n ∷ ys) ∙ ap (λ b. filter p xs ++ cond b (n ∷ filter p ys) (filter p ys)) (other_way (key n) k other) ∙ sym (filter-append p xs ys) in
        let at_first : first k ≡ first' k = sym (sets_first k ∙ ap (λ b. cond b f (first k)) other) in
        let at_last : last k ≡ last' k = sym (sets_last k ∙ ap (λ b. cond b l (last k)) other) in
        let theirs : (j : ℕ) → p j ≡ true → eq (key n) (key j) ≡ true → ⊥ = λ j holds is. apart_key (key n) k other (sound (key n) (key j) is ∙ sym (sound k (key j) holds)) in
        let back : (j : ℕ) → p j ≡ true → prev n ≡ Some j → ⊥ = λ j holds e. theirs j holds
        (last_among (λ i. eq (key n) (key i) ≡ true) (those eq key (key n) xs) (filter_passes (λ i. eq (key n) (key i)) xs) j
        (sym (precedes_at prev None n (those eq key (key n) xs) (those eq key (key n) ys) cut_list.precedes) ∙ e)) in
        let on : (j : ℕ) → p j ≡ true → next n ≡ Some j → ⊥ = λ j holds e. theirs j holds
        (first_among (λ i. eq (key n) (key i) ≡ true) (those eq key (key n) ys) (filter_passes (λ i. eq (key n) (key i)) ys) j
        (sym (follows_at next None n (those eq key (key n) xs) (those eq key (key n) ys) cut_list.follows) ∙ e)) in
        let old : IsList next prev (first k) (last k) (filter p (xs ++ ys)) = subst (λ zs. IsList next prev (first k) (last k) zs) ours (lists k) in
        let done = kept next prev next' prev' (first k) (last k) (filter p (xs ++ ys))
        (each_map (λ j. p j ≡ true) (λ j. next' j ≡ next j) (λ j holds. takes.nexts j (back j holds)) (filter p (xs ++ ys)) (filter_passes p (xs ++ ys)))
        (each_map (λ j. p j ≡ true) (λ j. prev' j ≡ prev j) (λ j holds. takes.prevs j (on j holds)) (filter p (xs ++ ys)) (filter_passes p (xs ++ ys))) old in
        subst (λ o. IsList next' prev' (first' k) o (filter p (xs ++ ys))) at_last (subst (λ o. IsList next' prev' o (last k) (filter p (xs ++ ys))) at_first done)

    pub taken_all : AreLists eq key next' prev' first' last' (xs ++ ys)
    taken_all k = elim (cases_key (key n) k) [
      | inl e ↦ subst (λ v. IsList next' prev' (first' v) (last' v) (those eq key v (xs ++ ys))) e take_here
      | inr other ↦ take_other k other
    ]

-- where the first that passes a test stands
pub record CutFirst (p : ℕ → Bool) (n : ℕ) (order rest : List ℕ) : Type 0 where
  pub front : List ℕ
  pub back : List ℕ
  pub cut : order ≡ front ++ n ∷ back
  pub none_before : filter p front ≡ []
  pub behind : filter p back ≡ rest

pub cut_first : (p : ℕ → Bool) (n : ℕ) (order rest : List ℕ) → filter p order ≡ n ∷ rest → CutFirst p n order rest
cut_first p n [] rest e = absurd (no_cons n rest e)
  where
    no_cons : (n : ℕ) (rest : List ℕ) → [] ≡ n ∷ rest → ⊥
    no_cons n rest e = cc
cut_first p n (x ∷ order) rest e = elim (cases_Bool (p x)) [
  | inl holds ↦ at_once holds
  | inr fails ↦ later fails (cut_first p n order rest (sym (ap (λ b. cond b (x ∷ filter p order) (filter p order)) fails) ∙ e))
]
  where
    at_once : p x ≡ true → CutFirst p n (x ∷ order) rest
    at_once holds =
        let both : x ∷ filter p order ≡ n ∷ rest = sym (ap (λ b. cond b (x ∷ filter p order) (filter p order)) holds) ∙ e in
        let first : x ≡ n = cc in
        let others : filter p order ≡ rest = cc in
        record { front = []; back = order; cut = ap (λ v. v ∷ order) first; none_before = refl; behind = others }

    later : p x ≡ false → CutFirst p n order rest → CutFirst p n (x ∷ order) rest
    later fails c = record {
      front = x ∷ c.front;
      back = c.back;
      cut = ap (λ zs. x ∷ zs) c.cut;
      none_before = ap (λ b. cond b (x ∷ filter p c.front) (filter p c.front)) fails ∙ c.none_before;
      behind = c.behind;
    }
