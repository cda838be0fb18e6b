-- The documents with an id are among those that its key gives.
use Rattle.std.proofs.Common.{◌≡◌, ◌≢◌, ◌↔◌, ℕ, zero, suc, arith, Bool, true, false, cond, ◌||◌, nat_eq, bytes_eq, List, [], ◌∷◌, map, Option, Some, IsSomeAnd, refl, sym, ◌∙◌, ap, subst, inl, inr}
use Rattle.std.specs.List.{list_any, AllPairs}
use Rattle.std.proofs.lemmas.Bool.{cases_Bool, eqb-true, eq-eqb}
use Rattle.std.proofs.lemmas.Slice.Eq.{bytes_eq-Decides}
use Rattle.qe_chains.specs.Pairs.{with_the_tag}
use Rattle.qe_value.specs.declared.value.Value.{Value}
use Rattle.qe_store.specs.declared.stored.Stored.{Stored}
use Rattle.qe_store.specs.IdHash.{key_of}
use Rattle.qe_store.specs.Kept.{document_at, HasId, IsNewId}
use Rattle.qe_store.specs.Parts.{IsNew, NoneIs, AreDistinct, ids_of, Rising, id_pair}
use Rattle.qe_store.proofs.HoldLemmas.{above_none}

-- the number is among those of the pairs
abbrev pub among : ℕ → List (List ℕ × ℕ) → Bool
among n pairs = list_any (λ p. nat_eq n p.1) pairs

or_true : (a b : Bool) → b ≡ true → (a || b) ≡ true
or_true true b e = refl
or_true false b e = e

pub key_gives : (docs : List (ℕ × Stored)) (id : Value) (n : ℕ) → HasId docs id n → among n (with_the_tag (key_of id) (map id_pair docs)) ≡ true
key_gives [] id n h = absurd h
key_gives (d ∷ docs) id n h = elim (cases_Bool (nat_eq n d.0)) [
  | inl t ↦
      let same : d.1.id ≡ id = subst (λ (o : Option Stored). IsSomeAnd o (λ (s : Stored). s.id ≡ id)) (ap (λ b. cond b (Some d.1) (document_at n docs)) t) h in
      let kept : bytes_eq (key_of id) (key_of d.1.id) ≡ true = (bytes_eq-Decides (key_of id) (key_of d.1.id)).1 (ap key_of (sym same)) in
      ap (λ b. among n (cond b (id_pair d ∷ with_the_tag (key_of id) (map id_pair docs)) (with_the_tag (key_of id) (map id_pair docs)))) kept
      ∙ ap (λ b. b || among n (with_the_tag (key_of id) (map id_pair docs))) t
  | inr f ↦
      let rest = key_gives docs id n (subst (λ (o : Option Stored). IsSomeAnd o (λ (s : Stored). s.id ≡ id)) (ap (λ b. cond b (Some d.1) (document_at n docs)) f) h) in
      either (bytes_eq (key_of id) (key_of d.1.id)) rest
]
  where
    either : (b : Bool) → among n (with_the_tag (key_of id) (map id_pair docs)) ≡ true → among n (cond b (id_pair d ∷ with_the_tag (key_of id) (map id_pair docs)) (with_the_tag (key_of id) (map id_pair docs))) ≡ true
    either true e = or_true (nat_eq n d.0) (among n (with_the_tag (key_of id) (map id_pair docs))) e
    either false e = e

-- a pair whose document has another id is passed over
pub passed_over : (docs : List (ℕ × Stored)) (id : Value) (pair : List ℕ × ℕ) (left : List (List ℕ × ℕ)) → (HasId docs id pair.1 → ⊥)
    → ((n : ℕ) → HasId docs id n → among n (pair ∷ left) ≡ true) → (n : ℕ) → HasId docs id n → among n left ≡ true
passed_over docs id pair left other all n h = elim (cases_Bool (nat_eq n pair.1)) [
  | inl t ↦ absurd (other (subst (HasId docs id) (eqb-true n pair.1 t) h))
  | inr f ↦ sym (ap (λ b. b || among n left) f) ∙ all n h
]

-- where no number's document has the id, it is new
pub is_new : (docs : List (ℕ × Stored)) (id : Value) → Rising docs → ((n : ℕ) → HasId docs id n → ⊥) → IsNew id docs
is_new [] id r none = tt
is_new (d ∷ docs) id r none = (
  (λ same. none d.0 (subst (λ (o : Option Stored). IsSomeAnd o (λ (s : Stored). s.id ≡ id)) (sym (ap (λ b. cond b (Some d.1) (document_at d.0 docs)) (eq-eqb d.0 d.0 refl))) same)),
  is_new docs id r.1 (λ n h. none n (elim (cases_Bool (nat_eq n d.0)) [
    | inl t ↦ absurd (subst (λ (o : Option Stored). IsSomeAnd o (λ (s : Stored). s.id ≡ id)) (ap (λ k. document_at k docs) (eqb-true n d.0 t) ∙ above_none d.0 docs r.0) h)
    | inr f ↦ subst (λ (o : Option Stored). IsSomeAnd o (λ (s : Stored). s.id ≡ id)) (sym (ap (λ b. cond b (Some d.1) (document_at n docs)) f)) h
  ])),
)

-- nothing is among no pairs
pub none_among : (docs : List (ℕ × Stored)) (id : Value) (left : List (List ℕ × ℕ)) → left ≡ [] → ((n : ℕ) → HasId docs id n → among n left ≡ true) → (n : ℕ) → HasId docs id n → ⊥
none_among docs id left e all n h = no (sym (ap (among n) e) ∙ all n h)
  where
    no : false ≡ true → ⊥
    no e = cc

-- the document with a number is the first one, or is among the others
pub at_here : (P : Stored → Type 0) (d : ℕ × Stored) (docs : List (ℕ × Stored)) (n : ℕ) → nat_eq n d.0 ≡ true → IsSomeAnd (document_at n (d ∷ docs)) P → P d.1
at_here P d docs n t h = subst (λ (o : Option Stored). IsSomeAnd o P) (ap (λ b. cond b (Some d.1) (document_at n docs)) t) h

pub at_there : (P : Stored → Type 0) (d : ℕ × Stored) (docs : List (ℕ × Stored)) (n : ℕ) → nat_eq n d.0 ≡ false → IsSomeAnd (document_at n (d ∷ docs)) P → IsSomeAnd (document_at n docs) P
at_there P d docs n f h = subst (λ (o : Option Stored). IsSomeAnd o P) (ap (λ b. cond b (Some d.1) (document_at n docs)) f) h

-- a new id is no document's
pub new_nowhere : (docs : List (ℕ × Stored)) (id : Value) (n : ℕ) → IsNew id docs → HasId docs id n → ⊥
new_nowhere [] id n new h = absurd h
new_nowhere (d ∷ docs) id n new h = elim (cases_Bool (nat_eq n d.0)) [
  | inl t ↦ new.0 (at_here (λ (s : Stored). s.id ≡ id) d docs n t h)
  | inr f ↦ new_nowhere docs id n new.1 (at_there (λ (s : Stored). s.id ≡ id) d docs n f h)
]

-- one document has an id
one_id : (docs : List (ℕ × Stored)) (id : Value) (n m : ℕ) → AreDistinct (ids_of docs) → HasId docs id n → HasId docs id m → n ≡ m
one_id [] id n m apart h k = absurd h
one_id (d ∷ docs) id n m apart h k = elim (cases_Bool (nat_eq n d.0)) [
  | inl t ↦ elim (cases_Bool (nat_eq m d.0)) [
    | inl u ↦ eqb-true n d.0 t ∙ sym (eqb-true m d.0 u)
    | inr g ↦ absurd (new_nowhere docs id m (subst (λ i. NoneIs i (ids_of docs)) (at_here Has d docs n t h) apart.0) (at_there Has d docs m g k))
  ]
  | inr f ↦ elim (cases_Bool (nat_eq m d.0)) [
    | inl u ↦ absurd (new_nowhere docs id n (subst (λ i. NoneIs i (ids_of docs)) (at_here Has d docs m u k) apart.0) (at_there Has d docs n f h))
    | inr g ↦ one_id docs id n m apart.1 (at_there Has d docs n f h) (at_there Has d docs m g k)
  ]
]
  where
    Has : Stored → Type 0
    Has s = s.id ≡ id

pub the_number : (docs : List (ℕ × Stored)) (id : Value) (n : ℕ) → AreDistinct (ids_of docs) → HasId docs id n → (other : ℕ) → HasId docs id other ↔ (other ≡ n)
the_number docs id n apart h other = ((λ k. one_id docs id other n apart k h), (λ same. subst (HasId docs id) (sym same) h))

-- the same, for each document
pub new_by_each : (docs : List (ℕ × Stored)) (id : Value) → IsNewId id docs → IsNew id docs
new_by_each [] id new = tt
new_by_each (d ∷ docs) id new = (new 0 d (omega arith), new_by_each docs id (λ k e less. new (suc k) e (omega arith)))

pub new_of_each : (docs : List (ℕ × Stored)) (id : Value) → IsNew id docs → IsNewId id docs
new_of_each [] id new k e less = absurd (omega arith)
new_of_each (d ∷ docs) id new zero e less = new.0
new_of_each (d ∷ docs) id new (suc k) e less = new_of_each docs id new.1 k e (omega arith)

pub distinct_of_each : (docs : List (ℕ × Stored)) → AreDistinct (ids_of docs) → AllPairs (λ (a b : ℕ × Stored). a.1.id ≢ b.1.id) docs
distinct_of_each [] apart i j d less within = absurd (omega arith)
distinct_of_each (x ∷ docs) apart i zero d less within = absurd (omega arith)
distinct_of_each (x ∷ docs) apart zero (suc j) d less within = λ same. new_of_each docs x.1.id apart.0 j d (omega arith) (sym same)
distinct_of_each (x ∷ docs) apart (suc i) (suc j) d less within = distinct_of_each docs apart.1 i j d (omega arith) (omega arith)
