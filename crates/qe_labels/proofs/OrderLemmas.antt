-- The order of words is total and exact; what a map of numbers answers.
use Rattle.std.proofs.Common.{◌≡◌, ℕ, true, List, Some, refl, ap, ◌∙◌, subst, ◌⊎◌, inl, inr}
use Rattle.std.proofs.lemmas.Bool.{cases_Bool, cond-true, cond-false}
use Rattle.std.proofs.Common.{Ordering, Less, Equal, Greater}
use Rattle.std.specs.Ordering.{is_eq, eq_by_cmp, nat_cmp, then_cmp, on, ordering_then, ordering_reverse}
use Rattle.std.specs.Cmp.{IsTotalOrder, nat_cmp_total, then_total, on_total, eq_by_cmp_equiv}
use Rattle.std.specs.Cmp.Lexicographic.{slice_cmp, nat_list_cmp_total}
use Rattle.std.specs.FinMap.{get, insert, get-insert, slice_cmp-IsAntisymmetric, nat_cmp-IsAntisymmetric}
use Rattle.qe_tokens.specs.declared.words.Word.{Word}
use Rattle.qe_tokens.specs.declared.words.Word.TheVariants.{Item, Stray}
use Rattle.qe_labels.specs.Numbers.{word_cmp, Numbers}

abbrev Parts : Type 0
Parts = ℕ × List ℕ × ℕ

abbrev parts_cmp : Parts → Parts → Ordering
parts_cmp = then_cmp (on (λ (p : Parts). p.0) nat_cmp) (then_cmp (on (λ (p : Parts). p.1) (slice_cmp nat_cmp)) (on (λ (p : Parts). p.2) nat_cmp))

parts_total : IsTotalOrder parts_cmp
parts_total = then_total (on_total (λ (p : Parts). p.0) nat_cmp_total) (then_total (on_total (λ (p : Parts). p.1) nat_list_cmp_total) (on_total (λ (p : Parts). p.2) nat_cmp_total))

flips : (a b : Word) → word_cmp a b ≡ ordering_reverse (word_cmp b a)
flips (Item f x u) (Item g y v) = parts_total.antisymm (f, x, u) (g, y, v)
flips (Item f x u) (Stray t) = refl
flips (Stray s) (Item g y v) = refl
flips (Stray s) (Stray t) = nat_list_cmp_total.antisymm s t

chains : (a b c : Word) → word_cmp a b ≡ Less → word_cmp b c ≡ Less → word_cmp a c ≡ Less
chains (Item f x u) (Item g y v) (Item h z w) p q = parts_total.trans (f, x, u) (g, y, v) (h, z, w) p q
chains (Item f x u) (Item g y v) (Stray t) p q = refl
chains (Item f x u) (Stray s) (Item h z w) p q = cc
chains (Item f x u) (Stray s) (Stray t) p q = refl
chains (Stray r) (Item g y v) (Item h z w) p q = cc
chains (Stray r) (Item g y v) (Stray t) p q = cc
chains (Stray r) (Stray s) (Item h z w) p q = cc
chains (Stray r) (Stray s) (Stray t) p q = nat_list_cmp_total.trans r s t p q

alike : (a b c : Word) → word_cmp a b ≡ Equal → word_cmp a c ≡ word_cmp b c
alike (Item f x u) (Item g y v) (Item h z w) p = parts_total.congr (f, x, u) (g, y, v) (h, z, w) p
alike (Item f x u) (Item g y v) (Stray t) p = refl
alike (Item f x u) (Stray s) c p = cc
alike (Stray r) (Item g y v) c p = cc
alike (Stray r) (Stray s) (Item h z w) p = refl
alike (Stray r) (Stray s) (Stray t) p = nat_list_cmp_total.congr r s t p

pub words_total : IsTotalOrder word_cmp
words_total = record { antisymm = flips; trans = chains; congr = alike }

-- only equal words tie
first_tied : (r s : Ordering) → ordering_then r s ≡ Equal → r ≡ Equal
first_tied Less s p = p
first_tied Equal s p = refl
first_tied Greater s p = p

second_tied : (r s : Ordering) → ordering_then r s ≡ Equal → s ≡ Equal
second_tied Less s p = cc
second_tied Equal s p = p
second_tied Greater s p = cc

pub words_exact : (a b : Word) → word_cmp a b ≡ Equal → a ≡ b
words_exact (Item f x u) (Item g y v) p =
    let fields : f ≡ g = nat_cmp-IsAntisymmetric f g (first_tied (nat_cmp f g) _ p) in
    let rest = second_tied (nat_cmp f g) _ p in
    let items : x ≡ y = slice_cmp-IsAntisymmetric nat_cmp-IsAntisymmetric x y (first_tied (slice_cmp nat_cmp x y) _ rest) in
    let factors : u ≡ v = nat_cmp-IsAntisymmetric u v (second_tied (slice_cmp nat_cmp x y) _ rest) in
    λ i. Item (fields i) (items i) (factors i)
words_exact (Item f x u) (Stray t) p = cc
words_exact (Stray s) (Item g y v) p = cc
words_exact (Stray s) (Stray t) p = ap Stray (slice_cmp-IsAntisymmetric nat_cmp-IsAntisymmetric s t p)

pub tied : (r : Ordering) → is_eq r ≡ true → r ≡ Equal
tied Less p = cc
tied Equal p = refl
tied Greater p = cc

-- two words are one or are not
pub cases_word : (a b : Word) → (a ≡ b) ⊎ (a ≡ b → ⊥)
cases_word a b = elim (cases_Bool (eq_by_cmp word_cmp a b)) [
  | inl same ↦ inl (words_exact a b (tied (word_cmp a b) same))
  | inr apart ↦ inr (λ same.
      let met : eq_by_cmp word_cmp a b ≡ true = subst (λ w. eq_by_cmp word_cmp a w ≡ true) same ((eq_by_cmp_equiv words_total).refl a) in
      cc)
]

pub number_same : (numbers : Numbers) (word : Word) (n : ℕ) → get (insert numbers word n) word ≡ Some n
number_same numbers word n =
    get-insert words_total numbers word n word ∙ cond-true (eq_by_cmp word_cmp word word) (Some n) (get numbers word) ((eq_by_cmp_equiv words_total).refl word)

pub number_other : (numbers : Numbers) (word : Word) (n : ℕ) (other : Word) → (other ≡ word → ⊥) → get (insert numbers word n) other ≡ get numbers other
number_other numbers word n other apart =
    get-insert words_total numbers word n other ∙ cond-false (eq_by_cmp word_cmp other word) (Some n) (get numbers other)
    (elim (cases_Bool (eq_by_cmp word_cmp other word)) [
      | inl same ↦ absurd (apart (words_exact other word (tied (word_cmp other word) same)))
      | inr no_tie ↦ no_tie
    ])
