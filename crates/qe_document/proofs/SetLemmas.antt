-- A set of names beside the fields that have them.
use Rattle.std.proofs.Common.{◌≡◌, ℕ, Bool, true, false, cond, ◌||◌, List, [], ◌∷◌, ◌++◌, bytes_eq, refl, sym, ap, ◌∙◌, arith, zero, suc, ◌<◌, ◌≤◌, length, take, drop, Bor, subst, inl, inr}
use Rattle.std.proofs.lemmas.Bool.{cases_Bool}
use Rattle.std.proofs.lemmas.List.{drop_all, length-append, take-append-drop}
use Rattle.std.proofs.lemmas.Slice.Eq.{bytes_eq-Decides}
use Rattle.std.specs.BTreeSet.{BTreeSet}
use Rattle.qe_value.specs.declared.value.Plain.{Plain}
use Rattle.qe_value.specs.Names.{is_named}
use Rattle.qe_value.proofs.NameLemmas.{bytes_differ, is_named-append}
use Rattle.qe_document.specs.NameSet.{Knows}

bytes_eq_sym : (a b : List ℕ) → bytes_eq a b ≡ bytes_eq b a
bytes_eq_sym a b = elim (cases_Bool (bytes_eq b a)) [
  | inl same ↦ (bytes_eq-Decides a b).1 (sym ((bytes_eq-Decides b a).0 same)) ∙ sym same
  | inr differ ↦ bytes_differ b a differ ∙ sym differ
]

cond_or : (a b : Bool) → cond a true b ≡ (b || (a || false))
cond_or true true = refl
cond_or true false = refl
cond_or false true = refl
cond_or false false = refl

-- a name is among fields and one more, where it is that one's or among the others
pub named_or_last : {V : Type 0} (name q : List ℕ) (fields : List (List ℕ × V)) (value : V) → cond (bytes_eq name q) true (is_named q fields) ≡ is_named q (fields ++ (name, value) ∷ [])
named_or_last name q fields value =
    ap (λ b. cond b true (is_named q fields)) (bytes_eq_sym name q) ∙ cond_or (bytes_eq q name) (is_named q fields) ∙ sym (is_named-append q fields ((name, value) ∷ []))

-- names are those of the first fields and those of the others
pub named_either : {V : Type 0} (n : ℕ) (q : List ℕ) (fields : List (List ℕ × V)) → is_named q fields ≡ (is_named q (take n fields) || is_named q (drop n fields))
named_either n q fields = ap (is_named q) (sym (take-append-drop n fields)) ∙ is_named-append q (take n fields) (drop n fields)

drop_push : {A : Type 0} (n : ℕ) (xs : List A) (x : A) → n ≤ length xs → drop n (xs ++ x ∷ []) ≡ drop n xs ++ x ∷ []
drop_push zero xs x le = refl
drop_push (suc n) [] x le = absurd (omega arith)
drop_push (suc n) (y ∷ xs) x le = drop_push n xs x (omega arith)

-- the set after a field behind the first ones was added
pub knows_push : (n : ℕ) (seen : BTreeSet (Bor (List ℕ))) (fields : List (List ℕ × Plain)) (f : List ℕ × Plain) → n ≤ length fields → Knows seen (drop n fields ++ f ∷ []) → Knows seen (drop n (fields ++ f ∷ []))
knows_push n seen fields f le known = subst (Knows seen) (sym (drop_push n fields f le)) known

-- nothing stands behind the first ones
pub knows_few : (n : ℕ) (seen : BTreeSet (Bor (List ℕ))) (fields : List (List ℕ × Plain)) (f : List ℕ × Plain) → length fields < n → Knows seen (drop n fields) → Knows seen (drop n (fields ++ f ∷ []))
knows_few n seen fields f lt known = subst (Knows seen) (drop_all n fields (omega arith) ∙ sym (drop_all n (fields ++ f ∷ []) (omega (arith, length-append fields (f ∷ []))))) known
