-- The words that a term looks for, and the searches for them.
use Rattle.std.proofs.Common.{◌≡◌, ◌≤◌, ◌<◌, ◌+◌, ◌⊎◌, ℕ, zero, suc, List, [], ◌∷◌, ◌++◌, map, refl, sym, ap, ◌∙◌, subst, inl, inr, arith}
use Rattle.std.proofs.lemmas.Bool.{cases_lt}
use Rattle.std.proofs.lemmas.List.{map-append}
use Rattle.qe_tokens.specs.Labels.{row_token, tag_token}
use Rattle.qe_tokens.specs.Tokens.{edc_twice_of}
use Rattle.qe_tokens.specs.declared.words.Word.{Word}
use Rattle.qe_tokens.specs.declared.words.Word.TheVariants.{Item}
use Rattle.qe_protocol.specs.Filters.{Search, search_of, factor_searches, edge_searches}
use Rattle.qe_labels.specs.Under.{Under, root_of}
use Rattle.qe_encodes.specs.Payloads.{find_tokens}
use Rattle.qe_encodes.specs.Words.{factor_words, item_words}
use Rattle.qe_encodes.proofs.MemberLemmas.{IsIn, in_cases, in_left, in_right}

-- a word of an item of a field, under a factor up to the greatest
pub record IsSought (field : ℕ) (items : List (List ℕ)) (greatest : ℕ) (word : Word) : Type 0 where
  pub item : List ℕ
  pub factor : ℕ
  pub is : word ≡ Item field item factor
  pub among : IsIn item items
  pub within : factor ≤ greatest

factor_tells : (field : ℕ) (item : List ℕ) (word : Word) (more factor : ℕ) → IsIn word (factor_words field item factor more)
    → (at : ℕ) × (word ≡ Item field item at) × (at < factor + more)
factor_tells field item word zero factor here = absurd here
factor_tells field item word (suc more) factor (inl is) = (factor, sym is, omega arith)
factor_tells field item word (suc more) factor (inr later) =
    let found = factor_tells field item word more (factor + 1) later in (found.0, found.1, omega (arith, found.2))

factor_from : (field : ℕ) (item : List ℕ) (at more factor : ℕ) → factor ≤ at → at < factor + more → IsIn (Item field item at) (factor_words field item factor more)
factor_from field item at zero factor low high = absurd (omega (arith, low, high))
factor_from field item at (suc more) factor low high = elim (order at factor low) [
  | inl here ↦ inl (ap (λ n. Item field item n) (sym here))
  | inr later ↦ inr (factor_from field item at more (factor + 1) later (omega (arith, high)))
]
  where
    order : (at factor : ℕ) → factor ≤ at → (at ≡ factor) ⊎ (factor + 1 ≤ at)
    order at factor low = elim (cases_lt factor at) [ inl less ↦ inr (omega (arith, less)) | inr more ↦ inl (omega (arith, low, more)) ]

pub word_tells : (field greatest : ℕ) (word : Word) (items : List (List ℕ)) → IsIn word (item_words field items greatest) → IsSought field items greatest word
word_tells field greatest word [] here = absurd here
word_tells field greatest word (item ∷ items) here =
    elim (in_cases word (factor_words field item 0 (greatest + 1)) (item_words field items greatest) here) [
      | inl first ↦ let found = factor_tells field item word (greatest + 1) 0 first in
          record { item = item; factor = found.0; is = found.1; among = inl refl; within = omega (arith, found.2) }
      | inr later ↦ let found = word_tells field greatest word items later in
          record { item = found.item; factor = found.factor; is = found.is; among = inr found.among; within = found.within }
    ]

pub word_from : (field greatest factor : ℕ) (item : List ℕ) (items : List (List ℕ)) → IsIn item items → factor ≤ greatest
    → IsIn (Item field item factor) (item_words field items greatest)
word_from field greatest factor item [] among within = absurd among
word_from field greatest factor item (other ∷ items) (inl is) within =
    in_left (Item field item factor) (factor_words field other 0 (greatest + 1)) (item_words field items greatest)
    (subst (λ (x : List ℕ). IsIn (Item field item factor) (factor_words field x 0 (greatest + 1))) (sym is)
    (factor_from field item factor (greatest + 1) 0 (omega arith) (omega (arith, within))))
word_from field greatest factor item (other ∷ items) (inr later) within =
    in_right (Item field item factor) (factor_words field other 0 (greatest + 1)) (item_words field items greatest) (word_from field greatest factor item items later within)

module _ (u : Under) where
  -- what a word is searched by
  abbrev pub search_for : Word → Search
  search_for word = record { token = row_token (root_of u) word; key = edc_twice_of (tag_token (root_of u) word) }

  search_is : (field factor : ℕ) (item : List ℕ) → search_of (find_tokens u field item) factor ≡ search_for (Item field item factor)
  unfolding row_token tag_token
  search_is field factor item = refl

  factor_searches_are : (field : ℕ) (item : List ℕ) (more factor : ℕ)
      → factor_searches (find_tokens u field item) factor more ≡ map search_for (factor_words field item factor more)
  factor_searches_are field item zero factor = refl
  factor_searches_are field item (suc more) factor = λ i. search_is field factor item i ∷ factor_searches_are field item more (factor + 1) i

  pub searches_are : (field greatest : ℕ) (items : List (List ℕ))
      → edge_searches (map (find_tokens u field) items) greatest ≡ map search_for (item_words field items greatest)
  searches_are field greatest [] = refl
  searches_are field greatest (item ∷ items) =
      (λ i. factor_searches_are field item (greatest + 1) 0 i ++ searches_are field greatest items i)
      ∙ sym (map-append search_for (factor_words field item 0 (greatest + 1)) (item_words field items greatest))
