-- A rising list rises with one more that stands behind its last.
use Rattle.std.proofs.Common.{◌≡◌, ℕ, ◌-◌, List, [], ◌∷◌, ◌++◌, map, length, get_or, Ordering, Less, refl, sym, ap, ◌∙◌, subst, arith}
use Rattle.std.proofs.lemmas.List.{length_push, get_or_push}
use Rattle.std.specs.Cmp.{IsTotalOrder, nat_cmp_total, then_total, on_total}
use Rattle.std.specs.List.{AllByRecursion}
use Rattle.std.specs.List.Sorted.{IsStrictlySortedBy}
use Rattle.qe_tokens.specs.declared.words.Label.{Label}
use Rattle.qe_tokens.specs.declared.words.Word.{Word}
use Rattle.qe_labels.specs.Listed.{kind_place, label_cmp}
use Rattle.qe_labels.specs.Numbers.{word_cmp}
use Rattle.qe_labels.proofs.OrderLemmas.{words_total}
use Rattle.qe_label_list.specs.Order.{IsInOrder}
use Rattle.qe_label_list.specs.Roots.{AreWithin, IsWithin}
use Rattle.qe_rising.specs.Rising.{AreCounted, LabelStandsBehind, WordStandsBehind}

module _ {X : Type 0} {K : Type 0} (c : K → K → Ordering) (total : IsTotalOrder c) (f : X → K) where
  all_push : (k : K) (xs : List X) (y : X) → AllByRecursion (λ z. c k z ≡ Less) (map f xs) → c k (f y) ≡ Less
      → AllByRecursion (λ z. c k z ≡ Less) (map f (xs ++ y ∷ []))
  all_push k [] y all is = (is, tt)
  all_push k (x ∷ xs) y all is = (all.0, all_push k xs y all.1 is)

  all_last : (k : K) (xs : List X) (y : X) → AllByRecursion (λ z. c k z ≡ Less) (map f (xs ++ y ∷ [])) → c k (f y) ≡ Less
  all_last k [] y all = all.0
  all_last k (x ∷ xs) y all = all_last k xs y all.1

  pub rising_push : (xs : List X) (y : X) → IsStrictlySortedBy c (map f xs)
      → ((front : List X) (last : X) → xs ≡ front ++ last ∷ [] → c (f last) (f y) ≡ Less) → IsStrictlySortedBy c (map f (xs ++ y ∷ []))
  unfolding IsStrictlySortedBy
  rising_push [] y rise behind = (tt, tt)
  rising_push (x ∷ []) y rise behind = ((behind [] x refl, tt), (tt, tt))
  rising_push (x ∷ z ∷ xs) y rise behind =
      let rest = rising_push (z ∷ xs) y rise.1 (λ front last is. behind (x ∷ front) last (ap (λ ls. x ∷ ls) is)) in
      let up : c (f x) (f y) ≡ Less = total.trans (f x) (f z) (f y) rise.0.0 (all_last (f z) xs y rest.0) in
      (all_push (f x) (z ∷ xs) y rise.0 up, rest)

-- the order of labels is total
labels_total : IsTotalOrder label_cmp
labels_total =
    then_total (on_total (λ (l : Label). kind_place l.kind) nat_cmp_total)
    (then_total (on_total (λ (l : Label). l.word) words_total) (on_total (λ (l : Label). l.number) nat_cmp_total))

within_push : (fields : ℕ) (counted : List (Word × ℕ)) (one : Word × ℕ) → AreWithin fields counted → IsWithin fields one.0 → AreWithin fields (counted ++ one ∷ [])
within_push fields [] one within is = (is, tt)
within_push fields (x ∷ counted) one within is = (within.0, within_push fields counted one within.1 is)

pub counted_push : (fields : ℕ) (counted : List (Word × ℕ)) (word : Word) (n : ℕ) → AreCounted fields counted → IsWithin fields word → WordStandsBehind counted word
    → AreCounted fields (counted ++ (word, n) ∷ [])
counted_push fields counted word n are within behind = record {
  rising = rising_push word_cmp words_total (λ (one : Word × ℕ). one.0) counted (word, n) are.rising behind;
  within = within_push fields counted (word, n) are.within within;
}

pub labels_push : (entries : List (Label × List ℕ)) (label : Label) (identifier : List ℕ) → IsInOrder entries → LabelStandsBehind entries label
    → IsInOrder (entries ++ (label, identifier) ∷ [])
labels_push entries label identifier rise behind =
    rising_push label_cmp labels_total (λ (entry : Label × List ℕ). entry.0) entries (label, identifier) rise behind

-- a label stands behind all others since it does behind the one at the last place
pub label_behind : (entries : List (Label × List ℕ)) (one label : Label) (at : ℕ) → at ≡ length entries - 1
    → ((d : Label × List ℕ) → one ≡ (get_or entries at d).0) → label_cmp one label ≡ Less → LabelStandsBehind entries label
label_behind entries one label at is last less = λ front end split.
    let long : length front ≡ at = omega (arith, is, ap length split, length_push front end) in
    let it : get_or entries at end ≡ end = ap (λ es. get_or es at end) split ∙ get_or_push front end end at long in
    let same : one ≡ end.0 = last end ∙ ap (λ (entry : Label × List ℕ). entry.0) it in
    subst (λ (l : Label). label_cmp l label ≡ Less) same less

-- nothing rises
pub counted_none : (fields : ℕ) (counted : List (Word × ℕ)) → counted ≡ [] → AreCounted fields counted
unfolding IsStrictlySortedBy
counted_none fields counted none = subst (AreCounted fields) (sym none) (record { rising = tt; within = tt })

pub labels_none : (entries : List (Label × List ℕ)) → entries ≡ [] → IsInOrder entries
unfolding IsStrictlySortedBy
labels_none entries none = subst IsInOrder (sym none) tt
