-- Tags: those that searches find, and those that documents have.
use Rattle.std.proofs.Common.{◌≡◌, ◌≤◌, ℕ, zero, suc, List, [], ◌∷◌, map, refl, sym, ap, subst, inl, inr, arith}
use Rattle.std.proofs.lemmas.Bool.{cases_lt}
use Rattle.std.specs.Prelude.{Some}
use Rattle.std.specs.List.{AllZip}
use Rattle.std.specs.FinMap.{get}
use Rattle.qe_base.specs.declared.maintenance.Count.{Count}
use Rattle.qe_tokens.specs.Labels.{row_token, tag_token}
use Rattle.qe_tokens.specs.Tokens.{document_tag_of, edc_twice_of}
use Rattle.qe_tokens.specs.declared.words.Word.{Word}
use Rattle.qe_esc.specs.Rows.{Rows}
use Rattle.qe_plain.specs.declared.command.PlainCell.{PlainCell}
use Rattle.qe_store.specs.declared.stored.Cell.{Cell}
use Rattle.qe_protocol.specs.Counting.{IsCounted, counted}
use Rattle.qe_protocol.specs.Filters.{AllowedSearches, found_tags, tags_upto}
use Rattle.qe_protocol.specs.Indexing.{cell_tags, tags_of}
use Rattle.qe_labels.specs.Numbers.{Numbers}
use Rattle.qe_labels.specs.Tags.{AreTagsOf, IsTagOf, words_under}
use Rattle.qe_labels.specs.Under.{Under, root_of}
use Rattle.qe_encodes.specs.Fields.{kind_at}
use Rattle.qe_encodes.specs.Items.{value_items}
use Rattle.qe_encodes.proofs.MemberLemmas.{IsIn, in_cases, in_left, in_right}
use Rattle.qe_standing.specs.Laws.{AllKnown}
use Rattle.qe_standing.specs.Standing.{StandsCell}
use Rattle.qe_standing.proofs.WordLemmas.{search_for}

-- document tags 1 to a number
upto_tells : (key tag : List ℕ) (number : ℕ) → IsIn tag (tags_upto key number) → (i : ℕ) × (1 ≤ i) × (i ≤ number) × (tag ≡ document_tag_of key i)
upto_tells key tag zero here = absurd here
upto_tells key tag (suc number) here = elim (in_cases tag (tags_upto key number) (document_tag_of key (suc number) ∷ []) here) [
  | inl before ↦ let found = upto_tells key tag number before in (found.0, found.1, omega (arith, found.2), found.3)
  | inr last ↦ elim last [ inl is ↦ (suc number, omega arith, omega arith, sym is) | inr none ↦ absurd none ]
]

upto_from : (key : List ℕ) (i number : ℕ) → 1 ≤ i → i ≤ number → IsIn (document_tag_of key i) (tags_upto key number)
upto_from key i zero low high = absurd (omega (arith, low, high))
upto_from key i (suc number) low high = elim (cases_lt i (suc number)) [
  | inl less ↦ in_left (document_tag_of key i) (tags_upto key number) (document_tag_of key (suc number) ∷ []) (upto_from key i number low (omega (arith, less)))
  | inr more ↦ let same : suc number ≡ i = omega (arith, high, more) in
      in_right (document_tag_of key i) (tags_upto key number) (document_tag_of key (suc number) ∷ []) (inl (ap (document_tag_of key) same))
]

module _ (u : Under) (numbers : Numbers) (rows : Rows)
    (exact : (word : Word) (n : ℕ) → get numbers word ≡ Some n → (count : Count) → IsCounted rows (row_token (root_of u) word) count → counted rows count ≡ n) where
  -- a tag that a search for one of the words finds
  pub record IsFoundTag (words : List Word) (tag : List ℕ) : Type 0 where
    pub word : Word
    pub among : IsIn word words
    pub tags : IsTagOf (root_of u) numbers word tag

  later : (word : Word) (words : List Word) (tag : List ℕ) → IsFoundTag words tag → IsFoundTag (word ∷ words) tag
  later word words tag found = record { word = found.word; among = inr found.among; tags = found.tags }

  pub found_tells : (tag : List ℕ) (words : List Word) (counts : List Count) → AllKnown numbers words
      → AllowedSearches rows (map (search_for u) words) counts → IsIn tag (found_tags rows (map (search_for u) words) counts) → IsFoundTag words tag
  found_tells tag [] counts known allowed here = absurd here
  found_tells tag (word ∷ words) [] known allowed here = absurd allowed
  found_tells tag (word ∷ words) (count ∷ counts) known allowed here =
      let key = edc_twice_of (tag_token (root_of u) word) in
      elim (in_cases tag (tags_upto key (counted rows count)) (found_tags rows (map (search_for u) words) counts) here) [
        | inl first ↦
            let at = upto_tells key tag (counted rows count) first in
            let is : counted rows count ≡ known.0.0 = exact word known.0.0 known.0.1 count allowed.0 in
            record { word = word; among = inl refl; tags = record { n = known.0.0; known = known.0.1; i = at.0; low = at.1; high = omega (arith, at.2, is); is = at.3 } }
        | inr other ↦ later word words tag (found_tells tag words counts known.1 allowed.1 other)
      ]

  pub found_from : (word : Word) (tag : List ℕ) (words : List Word) (counts : List Count) → IsIn word words → IsTagOf (root_of u) numbers word tag
      → AllowedSearches rows (map (search_for u) words) counts → IsIn tag (found_tags rows (map (search_for u) words) counts)
  found_from word tag [] counts among is allowed = absurd among
  found_from word tag (w ∷ words) [] among is allowed = absurd allowed
  found_from word tag (w ∷ words) (count ∷ counts) (inl same) is allowed =
      let key = edc_twice_of (tag_token (root_of u) w) in
      let here : IsTagOf (root_of u) numbers w tag = subst (λ x. IsTagOf (root_of u) numbers x tag) (sym same) is in
      let number : counted rows count ≡ here.n = exact w here.n here.known count allowed.0 in
      in_left tag (tags_upto key (counted rows count)) (found_tags rows (map (search_for u) words) counts)
      (subst (λ (x : List ℕ). IsIn x (tags_upto key (counted rows count))) (sym here.is)
      (upto_from key here.i (counted rows count) here.low (omega (arith, here.high, number))))
  found_from word tag (w ∷ words) (count ∷ counts) (inr among) is allowed =
      let key = edc_twice_of (tag_token (root_of u) w) in
      in_right tag (tags_upto key (counted rows count)) (found_tags rows (map (search_for u) words) counts) (found_from word tag words counts among is allowed.1)

-- tags of words and the words
tags_tell : (root : ℕ → List ℕ) (numbers : Numbers) (tag : List ℕ) (words : List Word) (tags : List (List ℕ)) → AreTagsOf root numbers words tags → IsIn tag tags
    → (word : Word) × IsIn word words × IsTagOf root numbers word tag
tags_tell root numbers tag [] [] each here = absurd here
tags_tell root numbers tag [] (t ∷ tags) each here = absurd each
tags_tell root numbers tag (word ∷ words) [] each here = absurd here
tags_tell root numbers tag (word ∷ words) (t ∷ tags) each (inl is) = (word, inl refl, subst (λ (x : List ℕ). IsTagOf root numbers word x) is each.0)
tags_tell root numbers tag (word ∷ words) (t ∷ tags) each (inr other) =
    let found = tags_tell root numbers tag words tags each.1 other in (found.0, inr found.1, found.2)

words_tell : (root : ℕ → List ℕ) (numbers : Numbers) (word : Word) (words : List Word) (tags : List (List ℕ)) → AreTagsOf root numbers words tags → IsIn word words
    → (tag : List ℕ) × IsIn tag tags × IsTagOf root numbers word tag
words_tell root numbers word [] [] each here = absurd here
words_tell root numbers word [] (t ∷ tags) each here = absurd each
words_tell root numbers word (w ∷ words) [] each here = absurd each
words_tell root numbers word (w ∷ words) (t ∷ tags) each (inl is) = (t, inl refl, subst (λ (x : Word). IsTagOf root numbers x t) is each.0)
words_tell root numbers word (w ∷ words) (t ∷ tags) each (inr other) =
    let found = words_tell root numbers word words tags each.1 other in (found.0, inr found.1, found.2)

module _ (u : Under) (numbers : Numbers) where
  -- a tag of a value that stands in the document
  pub record IsTagIn (plains : List PlainCell) (tag : List ℕ) : Type 0 where
    pub cell : PlainCell
    pub among : IsIn cell plains
    pub factor : ℕ
    pub word : Word
    pub is_word : IsIn word (words_under cell.field factor (value_items (kind_at u.schema cell.field) cell.value))
    pub tags : IsTagOf (root_of u) numbers word tag

  pub cells_tell : (tag : List ℕ) (cells : List (ℕ × Cell)) (plains : List PlainCell) → AllZip (StandsCell u numbers) cells plains
      → IsIn tag (tags_of cells) → IsTagIn plains tag
  cells_tell tag [] [] each here = absurd here
  cells_tell tag [] (plain ∷ plains) each here = absurd each
  cells_tell tag (cell ∷ cells) [] each here = absurd each
  cells_tell tag (cell ∷ cells) (plain ∷ plains) each here = elim (in_cases tag (cell_tags cell.1) (tags_of cells) here) [
    | inl first ↦
        let found = tags_tell (root_of u) numbers tag (words_under plain.field each.0.factor (value_items (kind_at u.schema plain.field) plain.value)) (cell_tags cell.1) each.0.tags first in
        record { cell = plain; among = inl refl; factor = each.0.factor; word = found.0; is_word = found.1; tags = found.2 }
    | inr other ↦
        let found = cells_tell tag cells plains each.1 other in
        record { cell = found.cell; among = inr found.among; factor = found.factor; word = found.word; is_word = found.is_word; tags = found.tags }
  ]

  -- each of a value's items has a tag among those of its document, all under one factor
  pub record HasTags (cells : List (ℕ × Cell)) (plain : PlainCell) : Type 0 where
    pub factor : ℕ
    pub each : (word : Word) → IsIn word (words_under plain.field factor (value_items (kind_at u.schema plain.field) plain.value))
        → (tag : List ℕ) × IsIn tag (tags_of cells) × IsTagOf (root_of u) numbers word tag

  pub cells_have : (cells : List (ℕ × Cell)) (plains : List PlainCell) (plain : PlainCell) → AllZip (StandsCell u numbers) cells plains → IsIn plain plains
      → HasTags cells plain
  cells_have [] [] plain each here = absurd here
  cells_have [] (p ∷ plains) plain each here = absurd each
  cells_have (cell ∷ cells) [] plain each here = absurd here
  cells_have (cell ∷ cells) (p ∷ plains) plain each (inl is) = subst (λ (x : PlainCell). HasTags (cell ∷ cells) x) is (record {
    factor = each.0.factor;
    each = λ word here.
        let found = words_tell (root_of u) numbers word (words_under p.field each.0.factor (value_items (kind_at u.schema p.field) p.value)) (cell_tags cell.1) each.0.tags here in
        (found.0, in_left found.0 (cell_tags cell.1) (tags_of cells) found.1, found.2);
  })
  cells_have (cell ∷ cells) (p ∷ plains) plain each (inr other) =
      let found = cells_have cells plains plain each.1 other in
      record {
        factor = found.factor;
        each = λ word here. let at = found.each word here in (at.0, in_right at.0 (cell_tags cell.1) (tags_of cells) at.1, at.2);
      }
