-- Words that become known, and limits of their factors.
use Rattle.std.proofs.Common.{◌≡◌, ◌≤◌, ◌+◌, ℕ, List, [], ◌∷◌, Some, sym, ap, ◌∙◌, subst, arith, inl, inr}
use Rattle.std.specs.Prelude.{unwrap_or}
use Rattle.std.specs.List.{AllByRecursion}
use Rattle.std.specs.FinMap.{get, insert}
use Rattle.std.proofs.lemmas.Bool.{cond_both}
use Rattle.std.specs.FinMap.{contains_key}
use Rattle.qe_tokens.specs.declared.words.Word.{Word}
use Rattle.qe_tokens.specs.declared.words.Word.TheVariants.{Item}
use Rattle.qe_labels.specs.Numbers.{Later, Numbers, all_learned, all_raised, learned, raised}
use Rattle.qe_labels.proofs.NumberLemmas.{known_learned, later_all_learned}
use Rattle.qe_labels.proofs.OrderLemmas.{cases_word, number_other, number_same}
use Rattle.qe_protocol.specs.Contention.{current_of}
use Rattle.qe_relation.specs.Stands.{AllLimited}
use Rattle.qe_standing.specs.Laws.{AllKnown}

-- what is known stays so
known_later : (before after : Numbers) → Later before after → (words : List Word) → AllKnown before words → AllKnown after words
known_later before after later [] known = tt
known_later before after later (word ∷ words) known =
    let there = later.at word known.0.0 known.0.1 in
    ((there.0, there.1), known_later before after later words known.1)

-- what was learned is known
pub all_known : (words : List Word) (numbers : Numbers) → AllKnown (all_learned numbers words) words
all_known [] numbers = tt
all_known (word ∷ words) numbers =
    let first = known_learned numbers word in
    let there = (later_all_learned words (learned numbers word)).at word first.0 first.1 in
    ((there.0, there.1), all_known words (learned numbers word))

-- a word's factor is within its field's contention
abbrev pub IsWithin : List ℕ → Word → Type 0
IsWithin current (Item field item factor) = factor ≤ current_of current field
IsWithin current word = Unit {0}

module _ (current : List ℕ) where
  -- a word that was only learned has none of its own
  limited_learned : (numbers : Numbers) (word : Word) → AllLimited current numbers → AllLimited current (learned numbers word)
  limited_learned numbers word limited =
      cond_both (contains_key numbers word) numbers (insert numbers word 0) (AllLimited current) (λ _. limited)
      (λ _. record {
        at = λ field factor n item is some.
            elim (cases_word (Item field item factor) word) [
              | inl same ↦
                  let put : get (insert numbers word 0) (Item field item factor) ≡ Some 0 = ap (get (insert numbers word 0)) same ∙ number_same numbers word 0 in
                  let none : n ≡ 0 = same_number n 0 (sym is ∙ put) in
                  absurd (omega (arith, some, none))
              | inr apart ↦ limited.at field factor n item (sym (number_other numbers word 0 (Item field item factor) apart) ∙ is) some
            ];
      })
    where
      same_number : (n m : ℕ) → Some n ≡ Some m → n ≡ m
      same_number n m is = cc

  pub limited_all_learned : (words : List Word) (numbers : Numbers) → AllLimited current numbers → AllLimited current (all_learned numbers words)
  limited_all_learned [] numbers limited = limited
  limited_all_learned (word ∷ words) numbers limited = limited_all_learned words (learned numbers word) (limited_learned numbers word limited)

  -- .. and one that was indexed has a factor within its field's contention
  limited_raised : (numbers : Numbers) (word : Word) → IsWithin current word → AllLimited current numbers → AllLimited current (raised numbers word)
  limited_raised numbers word within limited = record {
    at = λ field factor n item is some.
        elim (cases_word (Item field item factor) word) [
          | inl same ↦ subst (IsWithin current) (sym same) within
          | inr apart ↦
              limited.at field factor n item (sym (number_other numbers word (unwrap_or (get numbers word) 0 + 1) (Item field item factor) apart) ∙ is) some
        ];
  }

  pub limited_all_raised : (words : List Word) (numbers : Numbers) → AllByRecursion (IsWithin current) words → AllLimited current numbers → AllLimited current (all_raised numbers words)
  limited_all_raised [] numbers within limited = limited
  limited_all_raised (word ∷ words) numbers within limited = limited_all_raised words (raised numbers word) within.1 (limited_raised numbers word within.0 limited)
