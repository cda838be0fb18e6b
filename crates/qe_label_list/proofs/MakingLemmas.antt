-- Rows that are made kind by kind are the labels of words, with their identifiers.
use Rattle.std.proofs.Common.{◌≡◌, ◌&&◌, ℕ, zero, suc, ◌+◌, ◌-◌, ◌*◌, Bool, true, false, T, List, [], ◌∷◌, ◌++◌, map, length, get_or, Ordering, Less, refl, sym, ap, ◌∙◌, subst, arith}
use Rattle.std.proofs.lemmas.List.{map-append, append_assoc, length_push, length-map, get_or_at}
use Rattle.std.specs.List.{AllByRecursion}
use Rattle.std.specs.List.Sorted.{IsStrictlySortedBy}
use Rattle.std.specs.FinMap.Entries.{is_sorted, below_all}
use Rattle.std.specs.Ordering.{is_lt}
use Rattle.qe_tokens.specs.Labels.{first_number, identifier_by, row_token}
use Rattle.qe_tokens.specs.Tokens.{esc_tag_of}
use Rattle.qe_tokens.specs.declared.words.Label.{Label}
use Rattle.qe_tokens.specs.declared.words.LabelKind.{LabelKind}
use Rattle.qe_tokens.specs.declared.words.LabelKind.TheVariants.{Position, Anchor, Tag}
use Rattle.qe_tokens.specs.declared.words.Word.{Word}
use Rattle.qe_tokens.specs.declared.words.Word.TheVariants.{Item, Stray}
use Rattle.qe_labels.specs.Clashes.{with_identifier}
use Rattle.qe_labels.specs.Listed.{how_many, label_cmp, labels_in, numbered, of_kind}
use Rattle.qe_labels.specs.Numbers.{word_cmp}
use Rattle.qe_labels.proofs.ListedLemmas.{labels_in_sorted}
use Rattle.qe_label_rows.specs.declared.row.Row.{Row}
use Rattle.qe_label_rows.specs.declared.row.WordTokens.{WordTokens}
use Rattle.qe_label_rows.specs.Made.{identifier_under, key_for, rows_from, rows_of_all, rows_of_kind, rows_of_word}
use Rattle.qe_label_rows.proofs.RowLemmas.{known_both, known_kind}
use Rattle.qe_label_list.specs.Order.{IsInOrder, labels_in as labels_alone}
use Rattle.qe_label_list.specs.Rows.{AreHeld, entries_of, entry_at, word_at}
use Rattle.qe_label_list.specs.Tokens.{tokens_by, tokens_of}

module _ (root : ℕ → List ℕ) (words : List Word) where
  abbrev one_label : LabelKind → Word → ℕ → Label
  one_label kind word number = record { kind = kind; word = word; number = number }

  rows_are : (kind : LabelKind) (place : ℕ) (key : List ℕ) (word : Word) → word_at words place ≡ word
      → ((number : ℕ) → identifier_under kind key number ≡ identifier_by root kind word number) → (more from : ℕ)
      → entries_of words (rows_from kind place key from more) ≡ map (with_identifier root) (numbered kind word from more)
  rows_are kind place key word is same zero from = refl
  rows_are kind place key word is same (suc more) from =
      let rest = rows_are kind place key word is same more (from + 1) in
      let id = same from in
      λ i. (one_label kind (is i) from, id i) ∷ rest i

  -- the rows of a word, of a kind
  abbrev WordIs : LabelKind → ℕ → Word → ℕ → Type 0
  WordIs kind place word n =
      entries_of words (rows_of_word kind place (tokens_by root word (2 * n + 3))) ≡ map (with_identifier root) (numbered kind word (first_number kind) (how_many kind word n))

  word_rows : (kind : LabelKind) (place : ℕ) (word : Word) (n : ℕ) → word_at words place ≡ word → WordIs kind place word n
  unfolding row_token
  word_rows Position place (Item field item factor) n is =
      let many : (2 * n + 3) - 1 ≡ 2 * n + 2 = omega arith in
      let key = key_for Position (tokens_by root (Item field item factor) (2 * n + 3)) in
      ap (λ m. entries_of words (rows_from Position place key 1 m)) many
      ∙ rows_are Position place key (Item field item factor) is (λ _. refl) (2 * n + 2) 1
  word_rows Position place (Stray token) n is =
      let many : (2 * n + 3) - 1 ≡ 2 * n + 2 = omega arith in
      ap (λ m. entries_of words (rows_from Position place (esc_tag_of token) 1 m)) many
      ∙ rows_are Position place (esc_tag_of token) (Stray token) is (λ _. refl) (2 * n + 2) 1
  word_rows Anchor place (Item field item factor) n is =
      rows_are Anchor place (key_for Anchor (tokens_by root (Item field item factor) (2 * n + 3))) (Item field item factor) is (λ _. refl) (2 * n + 3) 0
  word_rows Anchor place (Stray token) n is = rows_are Anchor place (esc_tag_of token) (Stray token) is (λ _. refl) (2 * n + 3) 0
  word_rows Tag place (Item field item factor) n is =
      let many : (2 * n + 3) - 1 ≡ 2 * n + 2 = omega arith in
      let key = key_for Tag (tokens_by root (Item field item factor) (2 * n + 3)) in
      ap (λ m. entries_of words (rows_from Tag place key 1 m)) many
      ∙ rows_are Tag place key (Item field item factor) is (λ _. refl) (2 * n + 2) 1
  word_rows Tag place (Stray token) n is = refl

  -- the rows of words behind others, of a kind
  kind_rows : (kind : LabelKind) (front : List Word) (es : List (Word × ℕ)) (place : ℕ) → words ≡ front ++ map (λ e. e.0) es → length front ≡ place
      → entries_of words (rows_of_kind kind place (map (tokens_of root) es)) ≡ map (with_identifier root) (of_kind kind es)
  kind_rows kind front [] place is many = refl
  kind_rows kind front (e ∷ es) place is many =
      let here : word_at words place ≡ e.0 =
      ap (λ ws. get_or ws place (Stray [])) is ∙ get_or_at front e.0 (map (λ e. e.0) es) (Stray []) place many in
      let next : words ≡ (front ++ e.0 ∷ []) ++ map (λ e. e.0) es = is ∙ sym (append_assoc front (e.0 ∷ []) (map (λ e. e.0) es)) in
      let longer : length (front ++ e.0 ∷ []) ≡ place + 1 = length_push front e.0 ∙ ap (λ n. n + 1) many in
      map-append (entry_at words) (rows_of_word kind place (tokens_of root e)) (rows_of_kind kind (place + 1) (map (tokens_of root) es))
      ∙ (λ i. word_rows kind place e.0 e.1 here i ++ kind_rows kind (front ++ e.0 ∷ []) es (place + 1) next longer i)
      ∙ sym (map-append (with_identifier root) (numbered kind e.0 (first_number kind) (how_many kind e.0 e.1)) (of_kind kind es))

labels_kept : (root : ℕ → List ℕ) (ls : List Label) → labels_alone (map (with_identifier root) ls) ≡ ls
labels_kept root [] = refl
labels_kept root (l ∷ ls) = ap (λ xs. l ∷ xs) (labels_kept root ls)

-- a list that is sorted by its keys, as a test
less_to : (o : Ordering) → o ≡ Less → T (is_lt o)
less_to o is = subst (λ x. T (is_lt x)) (sym is) tt

both_to : (a b : Bool) → T a → T b → T (a && b)
both_to true b one other = other
both_to false b one other = absurd one

below_from : (word : Word) (es : List (Word × ℕ)) → AllByRecursion (λ y. word_cmp word y ≡ Less) (map (λ e. e.0) es) → T (below_all word_cmp word es)
below_from word [] all = tt
below_from word (e ∷ es) all =
    both_to (is_lt (word_cmp word e.0)) (below_all word_cmp word es) (less_to (word_cmp word e.0) all.0) (below_from word es all.1)

pub sorted_from : (es : List (Word × ℕ)) → IsStrictlySortedBy word_cmp (map (λ e. e.0) es) → T (is_sorted word_cmp es)
unfolding IsStrictlySortedBy
sorted_from [] rise = tt
sorted_from (e ∷ es) rise = both_to (below_all word_cmp e.0 es) (is_sorted word_cmp es) (below_from e.0 es rise.0) (sorted_from es rise.1)

module _ (root : ℕ → List ℕ) (es : List (Word × ℕ)) where
  abbrev words_in : List Word
  words_in = map (λ e. e.0) es

  abbrev tokens_in : List WordTokens
  tokens_in = map (tokens_of root) es

  pub all_rows : entries_of words_in (rows_of_all tokens_in) ≡ map (with_identifier root) (labels_in es)
  all_rows =
      let of = λ (kind : LabelKind). kind_rows root words_in kind [] es 0 refl refl in
      map-append (entry_at words_in) (rows_of_kind Position 0 tokens_in) (rows_of_kind Anchor 0 tokens_in ++ rows_of_kind Tag 0 tokens_in)
      ∙ ap (λ xs. entries_of words_in (rows_of_kind Position 0 tokens_in) ++ xs) (map-append (entry_at words_in) (rows_of_kind Anchor 0 tokens_in) (rows_of_kind Tag 0 tokens_in))
      ∙ (λ i. of Position i ++ (of Anchor i ++ of Tag i))
      ∙ sym (map-append (with_identifier root) (of_kind Position es) (of_kind Anchor es ++ of_kind Tag es)
      ∙ ap (λ xs. map (with_identifier root) (of_kind Position es) ++ xs) (map-append (with_identifier root) (of_kind Anchor es) (of_kind Tag es)))

  pub all_held : IsStrictlySortedBy word_cmp words_in → AreHeld words_in (rows_of_all tokens_in)
  all_held rise =
      let many : length words_in ≡ length es = length-map es (λ e. e.0) in
      let as_many : length tokens_in ≡ length es = length-map es (tokens_of root) in
      let known = λ (kind : LabelKind). known_kind (length words_in) kind tokens_in 0 (omega (arith, many, as_many)) in
      record {
        known = known_both (length words_in) (rows_of_kind Position 0 tokens_in) (rows_of_kind Anchor 0 tokens_in ++ rows_of_kind Tag 0 tokens_in) (known Position)
            (known_both (length words_in) (rows_of_kind Anchor 0 tokens_in) (rows_of_kind Tag 0 tokens_in) (known Anchor) (known Tag));
        rising = subst IsInOrder (sym all_rows) (subst (IsStrictlySortedBy label_cmp) (sym (labels_kept root (labels_in es))) (labels_in_sorted es (sorted_from es rise)));
      }

-- ---- from what was made
module _ (root : ℕ → List ℕ) (es : List (Word × ℕ)) (words : List Word) (rows : List Row) (tokens : List WordTokens)
    (words_are : words ≡ map (λ e. e.0) es) (tokens_are : tokens ≡ map (tokens_of root) es) (rows_are_all : rows ≡ rows_of_all tokens) where
  made_rows : rows ≡ rows_of_all (map (tokens_of root) es)
  made_rows = rows_are_all ∙ ap rows_of_all tokens_are

  pub made_held : IsStrictlySortedBy word_cmp (map (λ e. e.0) es) → AreHeld words rows
  made_held rise = subst (λ ws. AreHeld ws rows) (sym words_are) (subst (AreHeld (map (λ e. e.0) es)) (sym made_rows) (all_held root es rise))

  pub made_are : entries_of words rows ≡ map (with_identifier root) (labels_in es)
  made_are = (λ i. entries_of (words_are i) (made_rows i)) ∙ all_rows root es
