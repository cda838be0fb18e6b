-- Numbers grow: what is learned, raised, and stays.
use Rattle.std.proofs.Common.{◌≡◌, ℕ, ◌+◌, ◌≤◌, false, cond, List, [], ◌∷◌, Option, None, Some, refl, sym, ap, ◌∙◌, inl, inr, arith}
use Rattle.std.proofs.lemmas.Bool.{cond_both}
use Rattle.std.specs.Prelude.{is_some, unwrap_or}
use Rattle.std.specs.FinMap.{get, insert, contains_key}
use Rattle.qe_tokens.specs.Labels.{IsLabel}
use Rattle.qe_tokens.specs.declared.words.Label.{Label}
use Rattle.qe_tokens.specs.declared.words.Word.{Word}
use Rattle.qe_tokens.specs.declared.words.Word.TheVariants.{Item, Stray}
use Rattle.qe_labels.specs.Numbers.{Numbers, counted, learned, raised, all_learned, all_raised, Later, StraysAreZero}
use Rattle.qe_labels.specs.Laws.{IsFree, Grows}
use Rattle.qe_labels.proofs.OrderLemmas.{cases_word, number_same, number_other}

pub later_same : (numbers : Numbers) → Later numbers numbers
later_same numbers = record { at = λ word n is. (n, is, omega arith) }

pub later_on : (first second third : Numbers) → Later first second → Later second third → Later first third
later_on first second third one two = record {
  at = λ word n is.
      let middle = one.at word n is in
      let last = two.at word middle.0 middle.1 in
      (last.0, last.1, omega (arith, middle.2, last.2));
}

-- a word is put in with at least its number
put_later : (numbers : Numbers) (word : Word) (k : ℕ) → ((n : ℕ) → get numbers word ≡ Some n → n ≤ k) → Later numbers (insert numbers word k)
put_later numbers word k more = record {
  at = λ other n is. elim (cases_word other word) [
    | inl same ↦ (k, ap (get (insert numbers word k)) same ∙ number_same numbers word k, more n (ap (get numbers) (sym same) ∙ is))
    | inr apart ↦ (n, number_other numbers word k other apart ∙ is, omega arith)
  ];
}

none_there : (o : Option ℕ) → is_some o ≡ false → (n : ℕ) → o ≡ Some n → n ≤ 0
none_there None p n is = cc
none_there (Some m) p n is = cc

pub later_learned : (numbers : Numbers) (word : Word) → Later numbers (learned numbers word)
later_learned numbers word =
    cond_both (contains_key numbers word) numbers (insert numbers word 0) (Later numbers) (λ _. later_same numbers)
    (λ none. put_later numbers word 0 (none_there (get numbers word) none))

number_below : (o : Option ℕ) (n : ℕ) → o ≡ Some n → n ≤ unwrap_or o 0 + 1
number_below o n is = let same : unwrap_or o 0 ≡ n = ap (λ p. unwrap_or p 0) is in omega arith

pub later_raised : (numbers : Numbers) (word : Word) → Later numbers (raised numbers word)
later_raised numbers word = put_later numbers word (unwrap_or (get numbers word) 0 + 1) (number_below (get numbers word))

pub later_all_learned : (words : List Word) (numbers : Numbers) → Later numbers (all_learned numbers words)
later_all_learned [] numbers = later_same numbers
later_all_learned (word ∷ words) numbers =
    later_on numbers (learned numbers word) (all_learned (learned numbers word) words) (later_learned numbers word) (later_all_learned words (learned numbers word))

pub later_all_raised : (words : List Word) (numbers : Numbers) → Later numbers (all_raised numbers words)
later_all_raised [] numbers = later_same numbers
later_all_raised (word ∷ words) numbers =
    later_on numbers (raised numbers word) (all_raised (raised numbers word) words) (later_raised numbers word) (later_all_raised words (raised numbers word))

pub label_later : (before after : Numbers) → Later before after → (label : Label) → IsLabel (counted before) label → IsLabel (counted after) label
label_later before after later label is =
    let there = later.at label.word is.count is.known in
    record { count = there.0; known = there.1; has = is.has; low = is.low; high = omega (arith, is.high, there.2) }

pub free_before : (root : ℕ → List ℕ) (before after : Numbers) → Later before after → IsFree root after → IsFree root before
free_before root before after later free = record {
  one = λ one other is_one is_other same_group same_id.
      free.one one other (label_later before after later one is_one) (label_later before after later other is_other) same_group same_id;
}

pub grows : Grows
grows = record { learned = later_learned; raised = later_raised; labels = label_later; free = free_before }

-- ---- what was learned and raised

pub known_learned : (numbers : Numbers) (word : Word) → (n : ℕ) × (get (learned numbers word) word ≡ Some n)
known_learned numbers word = known_by (get numbers word) refl
  where
    known_by : (o : Option ℕ) → get numbers word ≡ o → (n : ℕ) × (get (learned numbers word) word ≡ Some n)
    known_by None is = (0, ap (λ o. get (cond (is_some o) numbers (insert numbers word 0)) word) is ∙ number_same numbers word 0)
    known_by (Some n) is = (n, ap (λ o. get (cond (is_some o) numbers (insert numbers word 0)) word) is ∙ is)

pub other_learned : (numbers : Numbers) (word other : Word) → (other ≡ word → ⊥) → get (learned numbers word) other ≡ get numbers other
other_learned numbers word other apart =
    cond_both (contains_key numbers word) numbers (insert numbers word 0) (λ m. get m other ≡ get numbers other) (λ _. refl)
    (λ _. number_other numbers word 0 other apart)

-- an item's number says nothing of stray words, and a stray word is learned with 0
pub strays_learned : (numbers : Numbers) (word : Word) → StraysAreZero numbers → StraysAreZero (learned numbers word)
strays_learned numbers word strays =
    cond_both (contains_key numbers word) numbers (insert numbers word 0) StraysAreZero (λ _. strays)
    (λ _. record {
      zero = λ token n is. elim (cases_word (Stray token) word) [
        | inl same ↦
            let put : get (insert numbers word 0) (Stray token) ≡ Some 0 = ap (get (insert numbers word 0)) same ∙ number_same numbers word 0 in
            cc
        | inr apart ↦ strays.zero token n (sym (number_other numbers word 0 (Stray token) apart) ∙ is)
      ];
    })

pub strays_raised : (numbers : Numbers) (field factor : ℕ) (item : List ℕ) → StraysAreZero numbers → StraysAreZero (raised numbers (Item field item factor))
strays_raised numbers field factor item strays = record {
  zero = λ token n is.
      let apart : Stray token ≡ Item field item factor → ⊥ = λ (same : Stray token ≡ Item field item factor). cc in
      strays.zero token n (sym (number_other numbers (Item field item factor) (unwrap_or (get numbers (Item field item factor)) 0 + 1) (Stray token) apart) ∙ is);
}
