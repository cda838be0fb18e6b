-- Loops over items, and over two lists side by side, that add a list for each.
use Rattle.std.proofs.Common.{◌≡◌, ◌<◌, ◌≤◌, ◌+◌, ◌-◌, ℕ, zero, suc, List, [], ◌∷◌, ◌++◌, length, min, get_or, drop, refl, sym, ap, ◌∙◌, append_assoc, arith}
use Rattle.std.proofs.lemmas.List.{append-nil, drop_more, drop_all}
use Rattle.qe_tokens.specs.declared.words.Word.{Word}
use Rattle.qe_tokens.specs.declared.words.Word.TheVariants.{Item}
use Rattle.qe_command.specs.declared.cells.SentCell.{SentCell}
use Rattle.qe_command.specs.declared.filter.SentTerm.{SentTerm}
use Rattle.qe_field.specs.declared.field.Field.{Field}
use Rattle.qe_plain.specs.declared.command.PlainCell.{PlainCell}
use Rattle.qe_plain.specs.declared.command.Term.{Term}
use Rattle.qe_encodes.specs.Words.{cell_words, cells_words, factor_words, item_words, term_words, terms_words}

-- a list is made so far; what is added stands at the front of what is left
joined : {A : Type 0} (made now whole one rest all : List A) → now ≡ made ++ one → all ≡ one ++ rest → made ++ all ≡ whole → now ++ rest ≡ whole
joined made now whole one rest all added split so_far =
    ap (λ front. front ++ rest) added ∙ append_assoc made one rest ∙ ap (λ after. made ++ after) (sym split) ∙ so_far

ended : {A : Type 0} (made whole all : List A) → all ≡ [] → made ++ all ≡ whole → made ≡ whole
ended made whole all none so_far = sym (append-nil made) ∙ ap (λ after. made ++ after) (sym none) ∙ so_far

-- ---- an item under factors
factors_split : (field : ℕ) (item : List ℕ) (factor count : ℕ) → 0 < count
    → factor_words field item factor count ≡ (Item field item factor ∷ []) ++ factor_words field item (factor + 1) (count - 1)
factors_split field item factor zero some = absurd (omega arith)
factors_split field item factor (suc count) some = let one : suc count - 1 ≡ count = omega arith in rw one refl

pub factors_next : (field : ℕ) (item : List ℕ) (count factor : ℕ) (made now whole : List Word) → factor < count → now ≡ made ++ Item field item factor ∷ []
    → made ++ factor_words field item factor (count - factor) ≡ whole → now ++ factor_words field item (factor + 1) (count - (factor + 1)) ≡ whole
factors_next field item count factor made now whole less added so_far =
    let left : count - factor - 1 ≡ count - (factor + 1) = omega arith in
    joined made now whole (Item field item factor ∷ []) (factor_words field item (factor + 1) (count - (factor + 1))) (factor_words field item factor (count - factor))
    added (factors_split field item factor (count - factor) (omega arith) ∙ ap (λ n. Item field item factor ∷ factor_words field item (factor + 1) n) left) so_far

pub factors_end : (field : ℕ) (item : List ℕ) (count factor : ℕ) (made whole : List Word) → count ≤ factor
    → made ++ factor_words field item factor (count - factor) ≡ whole → made ≡ whole
factors_end field item count factor made whole past so_far =
    let none : count - factor ≡ 0 = omega arith in
    ended made whole (factor_words field item factor (count - factor)) (ap (λ n. factor_words field item factor n) none) so_far

-- ---- items under factors
pub items_next : (field greatest : ℕ) (items : List (List ℕ)) (i : ℕ) (item : List ℕ) (made now whole : List Word) → i < length items → item ≡ get_or items i item
    → now ≡ made ++ factor_words field item 0 (greatest + 1) → made ++ item_words field (drop i items) greatest ≡ whole
    → now ++ item_words field (drop (i + 1) items) greatest ≡ whole
items_next field greatest items i item made now whole within at added so_far =
    let split : drop i items ≡ item ∷ drop (i + 1) items = drop_more items i item within ∙ ap (λ x. x ∷ drop (i + 1) items) (sym at) in
    joined made now whole (factor_words field item 0 (greatest + 1)) (item_words field (drop (i + 1) items) greatest) (item_words field (drop i items) greatest) added
    (ap (λ xs. item_words field xs greatest) split) so_far

pub items_end : (field greatest : ℕ) (items : List (List ℕ)) (i : ℕ) (made whole : List Word) → length items ≤ i
    → made ++ item_words field (drop i items) greatest ≡ whole → made ≡ whole
items_end field greatest items i made whole past so_far =
    ended made whole (item_words field (drop i items) greatest) (ap (λ xs. item_words field xs greatest) (drop_all i items past)) so_far

-- ---- two lists side by side
module _ {A B C : Type 0} (one : A → B → List C) (all : List A → List B → List C)
    (steps : (x : A) (y : B) (xs : List A) (ys : List B) → all (x ∷ xs) (y ∷ ys) ≡ one x y ++ all xs ys)
    (no_first : (ys : List B) → all [] ys ≡ []) (no_second : (xs : List A) → all xs [] ≡ []) where
  both_next : (xs : List A) (ys : List B) (i : ℕ) (x : A) (y : B) (made now whole : List C) → i < length xs → i < length ys → x ≡ get_or xs i x
      → y ≡ get_or ys i y → now ≡ made ++ one x y → made ++ all (drop i xs) (drop i ys) ≡ whole → now ++ all (drop (i + 1) xs) (drop (i + 1) ys) ≡ whole
  both_next xs ys i x y made now whole within also at beside added so_far =
      let first : drop i xs ≡ x ∷ drop (i + 1) xs = drop_more xs i x within ∙ ap (λ z. z ∷ drop (i + 1) xs) (sym at) in
      let second : drop i ys ≡ y ∷ drop (i + 1) ys = drop_more ys i y also ∙ ap (λ z. z ∷ drop (i + 1) ys) (sym beside) in
      joined made now whole (one x y) (all (drop (i + 1) xs) (drop (i + 1) ys)) (all (drop i xs) (drop i ys)) added
      ((λ j. all (first j) (second j)) ∙ steps x y (drop (i + 1) xs) (drop (i + 1) ys)) so_far

  none_left : (xs : List A) (ys : List B) (i : ℕ) → min (length xs) (length ys) ≤ i → all (drop i xs) (drop i ys) ≡ []
  none_left [] ys zero past = no_first ys
  none_left [] ys (suc i) past = no_first (drop (suc i) ys)
  none_left (x ∷ xs) [] zero past = no_second (x ∷ xs)
  none_left (x ∷ xs) [] (suc i) past = no_second (drop i xs)
  none_left (x ∷ xs) (y ∷ ys) zero past = absurd (omega arith)
  none_left (x ∷ xs) (y ∷ ys) (suc i) past = none_left xs ys i (omega arith)

module _ (fields : List Field) where
  one_cell : PlainCell → ℕ × SentCell → List Word
  one_cell cell sent = cell_words fields cell sent.1

  no_cells : (sents : List (ℕ × SentCell)) → cells_words fields [] sents ≡ []
  no_cells sents = refl

  no_sents : (cells : List PlainCell) → cells_words fields cells [] ≡ []
  no_sents [] = refl
  no_sents (cell ∷ cells) = refl

  pub cells_next : (cells : List PlainCell) (sents : List (ℕ × SentCell)) (i : ℕ) (cell : PlainCell) (sent : ℕ × SentCell) (made now whole : List Word)
      → i < length cells → i < length sents → cell ≡ get_or cells i cell → sent ≡ get_or sents i sent → now ≡ made ++ cell_words fields cell sent.1
      → made ++ cells_words fields (drop i cells) (drop i sents) ≡ whole → now ++ cells_words fields (drop (i + 1) cells) (drop (i + 1) sents) ≡ whole
  unfolding one_cell
  cells_next = both_next one_cell (cells_words fields) (λ x y xs ys. refl) no_cells no_sents

  pub cells_end : (cells : List PlainCell) (sents : List (ℕ × SentCell)) (i : ℕ) (made whole : List Word) → min (length cells) (length sents) ≤ i
      → made ++ cells_words fields (drop i cells) (drop i sents) ≡ whole → made ≡ whole
  unfolding one_cell
  cells_end cells sents i made whole past so_far =
      ended made whole (cells_words fields (drop i cells) (drop i sents))
      (none_left one_cell (cells_words fields) (λ x y xs ys. refl) no_cells no_sents cells sents i past) so_far

  no_terms : (sents : List SentTerm) → terms_words fields [] sents ≡ []
  no_terms sents = refl

  no_filter : (terms : List Term) → terms_words fields terms [] ≡ []
  no_filter [] = refl
  no_filter (term ∷ terms) = refl

  pub terms_next : (terms : List Term) (sents : List SentTerm) (i : ℕ) (term : Term) (sent : SentTerm) (made now whole : List Word)
      → i < length terms → i < length sents → term ≡ get_or terms i term → sent ≡ get_or sents i sent → now ≡ made ++ term_words fields term sent
      → made ++ terms_words fields (drop i terms) (drop i sents) ≡ whole → now ++ terms_words fields (drop (i + 1) terms) (drop (i + 1) sents) ≡ whole
  terms_next = both_next (term_words fields) (terms_words fields) (λ x y xs ys. refl) no_terms no_filter

  pub terms_end : (terms : List Term) (sents : List SentTerm) (i : ℕ) (made whole : List Word) → min (length terms) (length sents) ≤ i
      → made ++ terms_words fields (drop i terms) (drop i sents) ≡ whole → made ≡ whole
  terms_end terms sents i made whole past so_far =
      ended made whole (terms_words fields (drop i terms) (drop i sents))
      (none_left (term_words fields) (terms_words fields) (λ x y xs ys. refl) no_terms no_filter terms sents i past) so_far
