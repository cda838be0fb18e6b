-- Words may be learned in any order, and before or after others are raised.
use Rattle.std.proofs.Common.{◌≡◌, ℕ, ◌+◌, cond, List, [], ◌∷◌, ◌++◌, Option, None, Some, refl, sym, ap, ◌∙◌, subst, ◌⊎◌, inl, inr}
use Rattle.std.specs.Prelude.{is_some, unwrap_or}
use Rattle.std.specs.FinMap.{get, insert, same_map}
use Rattle.qe_tokens.specs.declared.words.Word.{Word}
use Rattle.qe_labels.specs.Numbers.{Numbers, all_learned, all_raised, learned, raised}
use Rattle.qe_labels.proofs.NumberLemmas.{other_learned}
use Rattle.qe_labels.proofs.OrderLemmas.{cases_word, number_other, number_same, words_exact, words_total}

abbrev number_in : Numbers → Word → ℕ
number_in numbers word = unwrap_or (get numbers word) 0

-- one word's number becomes another, and no other word's
record IsUpdate (before after : Numbers) (word : Word) (f : ℕ → ℕ) : Type 0 where
  at : get after word ≡ Some (f (number_in before word))
  others : (other : Word) → (other ≡ word → ⊥) → get after other ≡ get before other

learned_at : (numbers : Numbers) (word : Word) → get (learned numbers word) word ≡ Some (number_in numbers word)
learned_at numbers word = by (get numbers word) refl
  where
    by : (o : Option ℕ) → get numbers word ≡ o → get (learned numbers word) word ≡ Some (number_in numbers word)
    by None is =
        ap (λ o. get (cond (is_some o) numbers (insert numbers word 0)) word) is ∙ number_same numbers word 0
        ∙ sym (ap (λ o. Some (unwrap_or o 0)) is)
    by (Some n) is = ap (λ o. get (cond (is_some o) numbers (insert numbers word 0)) word) is ∙ is ∙ sym (ap (λ o. Some (unwrap_or o 0)) is)

learned_updates : (numbers : Numbers) (word : Word) → IsUpdate numbers (learned numbers word) word (λ n. n)
learned_updates numbers word = record { at = learned_at numbers word; others = other_learned numbers word }

raised_updates : (numbers : Numbers) (word : Word) → IsUpdate numbers (raised numbers word) word (λ n. n + 1)
raised_updates numbers word = record {
  at = number_same numbers word (number_in numbers word + 1);
  others = λ other apart. number_other numbers word (number_in numbers word + 1) other apart;
}

at_same : (before after : Numbers) (word other : Word) (f : ℕ → ℕ) → IsUpdate before after word f → other ≡ word → get after other ≡ Some (f (number_in before other))
at_same before after word other f is same = subst (λ x. get after x ≡ Some (f (number_in before x))) (sym same) is.at

-- two updates in either order
module _ (m a b c d : Numbers) (v w : Word) (f g : ℕ → ℕ) (first : IsUpdate m a v f) (then : IsUpdate a b w g) (other_first : IsUpdate m c w g) (other_then : IsUpdate c d v f)
    (swap : (n : ℕ) → g (f n) ≡ f (g n)) where
  by_cases : (q : Word) → (q ≡ v) ⊎ (q ≡ v → ⊥) → (q ≡ w) ⊎ (q ≡ w → ⊥) → get b q ≡ get d q
  by_cases q (inl is_v) (inl is_w) =
      at_same a b w q g then is_w ∙ ap (λ o. Some (g (unwrap_or o 0))) (at_same m a v q f first is_v) ∙ ap Some (swap (number_in m q))
      ∙ sym (at_same c d v q f other_then is_v ∙ ap (λ o. Some (f (unwrap_or o 0))) (at_same m c w q g other_first is_w))
  by_cases q (inl is_v) (inr not_w) =
      then.others q not_w ∙ at_same m a v q f first is_v
      ∙ sym (at_same c d v q f other_then is_v ∙ ap (λ o. Some (f (unwrap_or o 0))) (other_first.others q not_w))
  by_cases q (inr not_v) (inl is_w) =
      at_same a b w q g then is_w ∙ ap (λ o. Some (g (unwrap_or o 0))) (first.others q not_v)
      ∙ sym (other_then.others q not_v ∙ at_same m c w q g other_first is_w)
  by_cases q (inr not_v) (inr not_w) = then.others q not_w ∙ first.others q not_v ∙ sym (other_then.others q not_v ∙ other_first.others q not_w)

  commute : b ≡ d
  commute = same_map words_total words_exact b d (λ q. by_cases q (cases_word q v) (cases_word q w))

learned_learned : (m : Numbers) (v w : Word) → learned (learned m v) w ≡ learned (learned m w) v
learned_learned m v w =
    commute m (learned m v) (learned (learned m v) w) (learned m w) (learned (learned m w) v) v w (λ n. n) (λ n. n)
    (learned_updates m v) (learned_updates (learned m v) w) (learned_updates m w) (learned_updates (learned m w) v) (λ n. refl)

raised_learned : (m : Numbers) (v w : Word) → learned (raised m v) w ≡ raised (learned m w) v
raised_learned m v w =
    commute m (raised m v) (learned (raised m v) w) (learned m w) (raised (learned m w) v) v w (λ n. n + 1) (λ n. n)
    (raised_updates m v) (learned_updates (raised m v) w) (learned_updates m w) (raised_updates (learned m w) v) (λ n. refl)

one_past_learned : (words : List Word) (m : Numbers) (w : Word) → all_learned (learned m w) words ≡ learned (all_learned m words) w
one_past_learned [] m w = refl
one_past_learned (v ∷ words) m w = ap (λ x. all_learned x words) (learned_learned m w v) ∙ one_past_learned words (learned m v) w

one_past_raised : (words : List Word) (m : Numbers) (w : Word) → all_raised (learned m w) words ≡ learned (all_raised m words) w
one_past_raised [] m w = refl
one_past_raised (v ∷ words) m w = ap (λ x. all_raised x words) (sym (raised_learned m v w)) ∙ one_past_raised words (raised m v) w

pub past_learned : (words : List Word) (m : Numbers) (more : List Word) → all_learned (all_learned m words) more ≡ all_learned (all_learned m more) words
past_learned [] m more = refl
past_learned (w ∷ words) m more = past_learned words (learned m w) more ∙ ap (λ x. all_learned x words) (one_past_learned more m w)

pub past_raised : (words : List Word) (m : Numbers) (more : List Word) → all_raised (all_learned m words) more ≡ all_learned (all_raised m more) words
past_raised [] m more = refl
past_raised (w ∷ words) m more = past_raised words (learned m w) more ∙ ap (λ x. all_learned x words) (one_past_raised more m w)

pub learned_append : (words : List Word) (m : Numbers) (more : List Word) → all_learned m (words ++ more) ≡ all_learned (all_learned m words) more
learned_append [] m more = refl
learned_append (w ∷ words) m more = learned_append words (learned m w) more
