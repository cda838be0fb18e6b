-- The first document that passes a test, by its number.
use Rattle.std.proofs.Common.{◌≡◌, ℕ, ◌<◌, Bool, true, false, cond, not, ◌||◌, List, [], ◌∷◌, Option, None, Some, refl, sym, ◌∙◌, ap, subst, inl, inr, nat_eq, arith}
use Rattle.std.specs.List.{list_any}
use Rattle.std.proofs.lemmas.Bool.{cases_Bool, eqb-true, eq-eqb}
use Rattle.qe_store.specs.declared.stored.Stored.{Stored}
use Rattle.qe_store.specs.Kept.{document_at, without, with_new}
use Rattle.qe_protocol.specs.Documents.{change_first, drop_first}
use Rattle.qe_store.proofs.HoldLemmas.{ne_false, above_other}
use Rattle.qe_indexing.specs.Merge.{Over, Rises}
use Rattle.qe_serving.specs.Serving.{docs_in}
use Rattle.qe_serving.specs.Documents.{IsFirstOf, FirstOf}

-- DOCUMENTS OF OTHER NUMBERS STAY

others_stay : (n : ℕ) (docs : List (ℕ × Stored)) → Over n docs → without n docs ≡ docs
others_stay n [] over = refl
others_stay n (d ∷ docs) over =
    ap (λ b. cond (not b) (d ∷ without n docs) (without n docs)) (ne_false n d.0 (λ same. let less = over.0 in omega arith))
    ∙ ap (λ rest. d ∷ rest) (others_stay n docs over.1)

no_none : {A : Type 0} {x : A} → None ≡ Some x → ⊥
no_none e = cc

pub at_over : (m n : ℕ) (docs : List (ℕ × Stored)) (stored : Stored) → Over m docs → document_at n docs ≡ Some stored → m < n
at_over m n [] stored over there = absurd (no_none there)
at_over m n (d ∷ docs) stored over there = elim (cases_Bool (nat_eq n d.0)) [
  | inl t ↦ subst (λ k. m < k) (sym (eqb-true n d.0 t)) over.0
  | inr f ↦ at_over m n docs stored over.1 (sym (ap (λ b. cond b (Some d.1) (document_at n docs)) f) ∙ there)
]

-- THE FIRST

abbrev pub first_of : (Stored → Bool) → List (ℕ × Stored) → Option ℕ
first_of test [] = None
first_of test (d ∷ docs) = cond (test d.1) (Some d.0) (first_of test docs)

module _ (test : Stored → Bool) (d : ℕ × Stored) (docs : List (ℕ × Stored)) where
  first_here : test d.1 ≡ true → Over d.0 docs → IsFirstOf test (d ∷ docs) d.0
  first_here passes over =
      let same : nat_eq d.0 d.0 ≡ true = eq-eqb d.0 d.0 refl in
      record {
        document = d.1;
        there = ap (λ b. cond b (Some d.1) (document_at d.0 docs)) same;
        some = ap (λ b. b || list_any test (docs_in docs)) passes;
        dropped =
            ap (λ b. docs_in (cond (not b) (d ∷ without d.0 docs) (without d.0 docs))) same ∙ ap docs_in (others_stay d.0 docs over)
            ∙ ap (λ b. cond b (docs_in docs) (d.1 ∷ drop_first test (docs_in docs))) (sym passes);
        changed = λ change.
            ap (λ b. docs_in (cond b (d.0, change d.1) d ∷ with_new d.0 (change d.1) docs)) same
            ∙ ap (λ rest. change d.1 ∷ docs_in rest) (above_other d.0 (change d.1) docs over)
            ∙ ap (λ b. cond b (change d.1 ∷ docs_in docs) (d.1 ∷ change_first test change (docs_in docs))) (sym passes);
      }

  first_behind : (n : ℕ) → test d.1 ≡ false → Over d.0 docs → IsFirstOf test docs n → IsFirstOf test (d ∷ docs) n
  first_behind n fails over first =
      let less : d.0 < n = at_over d.0 n docs first.document over first.there in
      let other : nat_eq n d.0 ≡ false = ne_false n d.0 (λ same. omega arith) in
      record {
        document = first.document;
        there = ap (λ b. cond b (Some d.1) (document_at n docs)) other ∙ first.there;
        some = ap (λ b. b || list_any test (docs_in docs)) fails ∙ first.some;
        dropped =
            ap (λ b. docs_in (cond (not b) (d ∷ without n docs) (without n docs))) other ∙ ap (λ rest. d.1 ∷ rest) first.dropped
            ∙ ap (λ b. cond b (docs_in docs) (d.1 ∷ drop_first test (docs_in docs))) (sym fails);
        changed = λ change.
            ap (λ b. docs_in (cond b (d.0, change first.document) d ∷ with_new n (change first.document) docs)) other
            ∙ ap (λ rest. d.1 ∷ rest) (first.changed change)
            ∙ ap (λ b. cond b (change d.1 ∷ docs_in docs) (d.1 ∷ change_first test change (docs_in docs))) (sym fails);
      }

behind : (test : Stored → Bool) (d : ℕ × Stored) (docs : List (ℕ × Stored)) (first : Option ℕ) → test d.1 ≡ false → Over d.0 docs
    → FirstOf test docs first → FirstOf test (d ∷ docs) first
behind test d docs None fails over none = ap (λ b. b || list_any test (docs_in docs)) fails ∙ none
behind test d docs (Some n) fails over first = first_behind test d docs n fails over first

pub first_is : (test : Stored → Bool) (docs : List (ℕ × Stored)) → Rises docs → FirstOf test docs (first_of test docs)
first_is test [] rises = refl
first_is test (d ∷ docs) rises = elim (cases_Bool (test d.1)) [
  | inl t ↦ subst (λ b. FirstOf test (d ∷ docs) (cond b (Some d.0) (first_of test docs))) (sym t) (first_here test d docs t rises.0)
  | inr f ↦
      subst (λ b. FirstOf test (d ∷ docs) (cond b (Some d.0) (first_of test docs))) (sym f)
      (behind test d docs (first_of test docs) f rises.0 (first_is test docs rises.1))
]
