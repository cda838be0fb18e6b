-- Labels under the root keys of a schema.
use Rattle.std.proofs.Common.{◌≡◌, ℕ, List, [], ◌∷◌, map, length, Some, refl, sym, ap, ◌∙◌, subst, arith, inl, inr}
use Rattle.std.proofs.lemmas.Option.{slice_get_within}
use Rattle.std.specs.FinMap.{entries, entries_sorted, get}
use Rattle.std.specs.List.Sorted.{IsStrictlySortedBy}
use Rattle.qe_field.specs.declared.field.Field.{Field}
use Rattle.qe_tokens.specs.Labels.{identifier_by, row_token, tag_token}
use Rattle.qe_tokens.specs.Tokens.{anchor_of, collections_of, document_tag_of, edc_contention_of, edc_derived_of, edc_of, edc_twice_of, esc_contention_of, esc_derived_of, esc_of, esc_tag_of, position_of}
use Rattle.qe_tokens.specs.declared.tokens.RootKey.{RootKey}
use Rattle.qe_tokens.specs.declared.words.Label.{Label}
use Rattle.qe_tokens.specs.declared.words.LabelKind.{LabelKind}
use Rattle.qe_tokens.specs.declared.words.LabelKind.TheVariants.{Position, Anchor, Tag}
use Rattle.qe_tokens.specs.declared.words.Word.{Word}
use Rattle.qe_tokens.specs.declared.words.Word.TheVariants.{Item, Stray}
use Rattle.qe_labels.specs.Clashes.{with_identifier}
use Rattle.qe_labels.specs.Listed.{labels, labels_in}
use Rattle.qe_labels.specs.Numbers.{Numbers, word_cmp}
use Rattle.qe_labels.specs.Under.{root_of}
use Rattle.qe_labels.proofs.AmongLemmas.{IsAmong, each_from}
use Rattle.qe_labels.proofs.ListedLemmas.{get_from_entry, listed_label}
use Rattle.qe_label_list.specs.Roots.{AreWithin, IsWithin, root_in}
use Rattle.qe_census.specs.Noted.{HasFields}
use Rattle.qe_census.specs.Roots.{IsEncrypted, roots_from}
use Rattle.qe_census.proofs.EntryLemmas.{sorted_to}
use Rattle.qe_census.proofs.RootLemmas.{root_is, roots_many}

module _ (one other : ℕ → List ℕ) where
  -- the roots are the same at the word's field
  abbrev SameAt : Word → Type 0
  SameAt word = (field factor : ℕ) (item : List ℕ) → word ≡ Item field item factor → one field ≡ other field

  rows_same : (word : Word) → SameAt word → row_token one word ≡ row_token other word
  unfolding row_token
  rows_same (Item field item factor) same = ap (λ root. esc_contention_of (esc_derived_of (esc_of (collections_of root)) item) factor) (same field factor item refl)
  rows_same (Stray token) same = refl

  tags_same : (word : Word) → SameAt word → tag_token one word ≡ tag_token other word
  unfolding tag_token
  tags_same (Item field item factor) same = ap (λ root. edc_contention_of (edc_derived_of (edc_of (collections_of root)) item) factor) (same field factor item refl)
  tags_same (Stray token) same = refl

  id_same : (kind : LabelKind) (word : Word) (number : ℕ) → SameAt word → identifier_by one kind word number ≡ identifier_by other kind word number
  id_same Position word number same = ap (λ token. position_of (esc_tag_of token) number) (rows_same word same)
  id_same Anchor word number same = ap (λ token. anchor_of (esc_tag_of token) number) (rows_same word same)
  id_same Tag word number same = ap (λ token. document_tag_of (edc_twice_of token) number) (tags_same word same)

  all_same : (ls : List Label) → ((l : Label) → IsAmong l ls → SameAt l.word) → map (with_identifier one) ls ≡ map (with_identifier other) ls
  all_same [] same = refl
  all_same (l ∷ ls) same =
      let here = id_same l.kind l.word l.number (same l (inl refl)) in
      let rest = all_same ls (λ x among. same x (inr among)) in
      λ i. (l, here i) ∷ rest i

module _ (fields : List Field) (keys : List (List ℕ)) (numbers : Numbers) (has : HasFields (IsEncrypted fields) numbers) where
  abbrev all_roots : List RootKey
  all_roots = roots_from keys 0 fields

  within_word : (word : Word) (n : ℕ) → get numbers word ≡ Some n → IsWithin (length all_roots) word
  within_word (Item field item factor) n known =
      let is = has.each field factor n item known in
      let low = slice_get_within fields field is.field is.at in
      omega (arith, low, roots_many keys fields 0)
  within_word (Stray token) n known = tt

  pub all_within : AreWithin (length all_roots) (entries numbers)
  all_within = each_from (λ (e : Word × ℕ). IsWithin (length all_roots) e.0) (entries numbers) (λ e among. within_word e.0 e.1 (get_from_entry numbers e.0 e.1 among))

  pub labels_same : map (with_identifier (root_in all_roots)) (labels numbers) ≡ map (with_identifier (root_of (record { schema = fields; keys = keys }))) (labels numbers)
  labels_same =
      all_same (root_in all_roots) (root_of (record { schema = fields; keys = keys })) (labels numbers) (λ l among field factor item is.
      let label = listed_label numbers l among in
      root_is fields keys field (has.each field factor label.count item (ap (get numbers) (sym is) ∙ label.known)))

-- the same of what was made of them
pub made_same : (fields : List Field) (keys : List (List ℕ)) (numbers : Numbers) → HasFields (IsEncrypted fields) numbers → (roots : List RootKey) (words : List (Word × ℕ))
    → roots ≡ roots_from keys 0 fields → words ≡ entries numbers
    → map (with_identifier (root_in roots)) (labels_in words) ≡ map (with_identifier (root_of (record { schema = fields; keys = keys }))) (labels numbers)
made_same fields keys numbers has roots words roots_are words_are =
    (λ i. map (with_identifier (root_in (roots_are i))) (labels_in (words_are i))) ∙ labels_same fields keys numbers has

pub made_within : (fields : List Field) (keys : List (List ℕ)) (numbers : Numbers) → HasFields (IsEncrypted fields) numbers → (roots : List RootKey) (words : List (Word × ℕ))
    → roots ≡ roots_from keys 0 fields → words ≡ entries numbers → AreWithin (length roots) words
made_within fields keys numbers has roots words roots_are words_are =
    subst (λ rs. AreWithin (length rs) words) (sym roots_are) (subst (AreWithin (length (roots_from keys 0 fields))) (sym words_are) (all_within fields keys numbers has))

pub made_rising : (numbers : Numbers) (words : List (Word × ℕ)) → words ≡ entries numbers → IsStrictlySortedBy word_cmp (map (λ e. e.0) words)
made_rising numbers words words_are =
    subst (λ (es : List (Word × ℕ)). IsStrictlySortedBy word_cmp (map (λ e. e.0) es)) (sym words_are) (sorted_to (entries numbers) (entries_sorted numbers))
