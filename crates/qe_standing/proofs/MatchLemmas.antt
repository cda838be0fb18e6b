-- A filter holds of a stored document exactly where the plain one holds of the plain document.
use Rattle.std.proofs.Common.{◌≡◌, ◌≤◌, ◌<◌, ◌+◌, ℕ, ℤ, suc, List, [], ◌∷◌, ◌++◌, map, Bool, true, false, ◌&&◌, Option, None, Some, refl, sym, ap, ◌∙◌, subst, inl, inr, arith}
use Rattle.std.proofs.lemmas.Bool.{cases_Bool, eqb-true, eq-eqb, false≢true, ltb-false}
use Rattle.std.specs.Prelude.{◌==◌, nat_lt}
use Rattle.std.specs.List.{AllPairs, AllByRecursion}
use Rattle.std.specs.FinMap.{get}
use Rattle.qe_base.specs.declared.maintenance.Count.{Count}
use Rattle.qe_value.specs.declared.value.Plain.{Plain}
use Rattle.qe_tokens.specs.Labels.{row_token}
use Rattle.qe_tokens.specs.declared.words.Label.{Label}
use Rattle.qe_tokens.specs.declared.words.LabelKind.TheVariants.{Tag}
use Rattle.qe_tokens.specs.declared.words.Word.{Word}
use Rattle.qe_tokens.specs.declared.words.Word.TheVariants.{Item, Stray}
use Rattle.qe_esc.specs.Rows.{Rows}
use Rattle.qe_edges.specs.declared.edge.Edge.{Edge}
use Rattle.qe_edges.specs.Texts.{text_of}
use Rattle.qe_field.specs.Values.{lies_in}
use Rattle.qe_plain.specs.Collection.{IsPlainDocument, equals_in, number_there, same_value, value_in}
use Rattle.qe_plain.specs.Collection as plainly
use Rattle.qe_plain.specs.declared.command.PlainCell.{PlainCell}
use Rattle.qe_plain.specs.declared.command.PlainDocument.{PlainDocument}
use Rattle.qe_plain.specs.declared.command.Term.{Term}
use Rattle.qe_plain.specs.declared.command.Term.TheVariants as term
use Rattle.qe_parts.specs.declared.edges.FindEdge.{FindEdge}
use Rattle.qe_schema.specs.Resolved.{IsKeptBy, IsTerm}
use Rattle.qe_store.specs.declared.stored.Stored.{Stored}
use Rattle.qe_protocol.specs.Contention.{below_at, current_of, filter_below, or_else, term_below}
use Rattle.qe_protocol.specs.Counting.{IsCounted, counted}
use Rattle.qe_protocol.specs.Filters.{Search, AllowedSearches, AllowedTerms, behind, edge_searches, filter_sets, found_tags, holds, matches, set_of, term_searches}
use Rattle.qe_labels.specs.Laws.{IsFree}
use Rattle.qe_labels.specs.Numbers.{Numbers}
use Rattle.qe_labels.specs.Tags.{IsTagOf}
use Rattle.qe_labels.specs.Under.{Under, root_of}
use Rattle.qe_relation.proofs.FreeLemmas.{number_is}
use Rattle.qe_encodes.specs.Callers.{Contentions, contention_of}
use Rattle.qe_encodes.specs.Fields.{IsUnder, kind_at}
use Rattle.qe_encodes.specs.Items.{bytes_of, cover_in, meet, says_of, value_items}
use Rattle.qe_encodes.specs.Laws.{EdgeLaws}
use Rattle.qe_encodes.specs.Meant.{IsSpelledTerm}
use Rattle.qe_encodes.specs.Payloads.{find_tokens, sent_filter, sent_term}
use Rattle.qe_encodes.specs.Words.{item_words, term_words, terms_words}
use Rattle.qe_encodes.proofs.MemberLemmas.{IsIn, in_map, meet_from, meet_tells, of_map, same_test, zip_second}
use Rattle.qe_encodes.proofs.RangeLemmas.{items_meet}
use Rattle.qe_standing.specs.Laws.{AllKnown, FiltersHold}
use Rattle.qe_standing.specs.Standing.{StandsCell, StandsDocument}
use Rattle.qe_standing.proofs.IdLemmas.{ids_same}
use Rattle.qe_standing.proofs.TagLemmas.{IsFoundTag, IsTagIn, cells_have, cells_tell, found_from, found_tells}
use Rattle.qe_standing.proofs.WordLemmas.{IsSought, search_for, searches_are, word_from, word_tells}

-- the value in a field is that of the one cell of the field
value_tells : (field : ℕ) (cells : List PlainCell) (value : Plain) → value_in field cells ≡ Some value
    → (cell : PlainCell) × IsIn cell cells × (cell.field ≡ field) × (cell.value ≡ value)
value_tells field [] value is = cc
value_tells field (cell ∷ cells) value is = elim (cases_Bool (cell.field == field)) [
  | inl here ↦ let same : cell.value ≡ value = let found : Some cell.value ≡ Some value = rw here at is in cc in (cell, inl refl, eqb-true cell.field field here, same)
  | inr other ↦ let found = value_tells field cells value (rw other at is) in (found.0, inr found.1, found.2, found.3)
]

abbrev Before : PlainCell → PlainCell → Type 0
Before a b = a.field < b.field

-- a cell is behind the first one of a rising list
behind_first : (first cell : PlainCell) (cells : List PlainCell) → AllPairs Before (first ∷ cells) → IsIn cell cells → first.field < cell.field
behind_first first cell [] rise here = absurd here
behind_first first cell (c ∷ cells) rise (inl is) = subst (λ (x : PlainCell). first.field < x.field) is (rise 0 1 first (omega arith) (omega arith))
behind_first first cell (c ∷ cells) rise (inr other) =
    let step = rise 0 1 first (omega arith) (omega arith) in
    let rest : AllPairs Before (c ∷ cells) = λ i j d less within. rise (suc i) (suc j) d (omega (arith, less)) (omega (arith, within)) in
    omega (arith, step, behind_first c cell cells rest other)

value_from : (cells : List PlainCell) (cell : PlainCell) → AllPairs Before cells → IsIn cell cells → value_in cell.field cells ≡ Some cell.value
value_from [] cell rise here = absurd here
value_from (c ∷ cells) cell rise (inl is) =
    let own : (c.field == cell.field) ≡ true = eq-eqb c.field cell.field (ap (λ (x : PlainCell). x.field) is) in
    rw own (ap (λ (x : PlainCell). Some x.value) is)
value_from (c ∷ cells) cell rise (inr other) =
    let less = behind_first c cell cells rise other in
    let rest : AllPairs Before cells = λ i j d lt within. rise (suc i) (suc j) d (omega (arith, lt)) (omega (arith, within)) in
    elim (cases_Bool (c.field == cell.field)) [
      | inl same ↦ absurd (omega (arith, less, eqb-true c.field cell.field same))
      | inr differs ↦ rw differs (value_from cells cell rest other)
    ]

-- what a term of a field says of a document, by the value in the field
abbrev pub says_in : Term → Option Plain → Bool
says_in one None = false
says_in one (Some value) = says_of one value

-- what words are of
abbrev pub field_in : Word → ℕ
field_in (Item field item factor) = field
field_in (Stray token) = 0

abbrev pub item_in : Word → List ℕ
item_in (Item field item factor) = item
item_in (Stray token) = []

abbrev pub factor_in : Word → ℕ
factor_in (Item field item factor) = factor
factor_in (Stray token) = 0

-- what holds of all of a joined list
all_parts : {A : Type 0} (P : A → Type 0) (xs ys : List A) → AllByRecursion P (xs ++ ys) → AllByRecursion P xs × AllByRecursion P ys
all_parts P [] ys all = (tt, all)
all_parts P (x ∷ xs) ys all = let rest = all_parts P xs ys all.1 in ((all.0, rest.0), rest.1)

none_of_both : {A : Type 0} (one other : Option A) → or_else one other ≡ None → (one ≡ None) × (other ≡ None)
none_of_both None other is = (refl, is)
none_of_both (Some x) other is = cc

enough : (current : List ℕ) (field got : ℕ) → below_at current field got ≡ None → current_of current field ≤ got
enough current field got is = elim (cases_Bool (nat_lt got (current_of current field))) [
  | inl less ↦ absurd (some_none (rw less at is))
  | inr more ↦ ltb-false got (current_of current field) more
]
  where
    some_none : {A : Type 0} {x : A} → Some x ≡ None → ⊥
    some_none is = cc

module _ (u : Under) (is : IsUnder u) (laws : EdgeLaws) (numbers : Numbers) (free : IsFree (root_of u) numbers) (rows : Rows)
    (exact : (word : Word) (n : ℕ) → get numbers word ≡ Some n → (count : Count) → IsCounted rows (row_token (root_of u) word) count → counted rows count ≡ n)
    (current : List ℕ)
    (limited : (field factor n : ℕ) (item : List ℕ) → get numbers (Item field item factor) ≡ Some n → 1 ≤ n → factor ≤ current_of current field) where
  -- without a clash a tag is one word's
  one_word : (f g k l : ℕ) (x y tag : List ℕ) → IsTagOf (root_of u) numbers (Item f x k) tag → IsTagOf (root_of u) numbers (Item g y l) tag → Item f x k ≡ Item g y l
  one_word f g k l x y tag one other =
      let a : Label = record { kind = Tag; word = Item f x k; number = one.i } in
      let b : Label = record { kind = Tag; word = Item g y l; number = other.i } in
      let same : a ≡ b = free.one a b
      (record { count = one.n; known = one.known; has = tt; low = one.low; high = omega (arith, one.high) })
      (record { count = other.n; known = other.known; has = tt; low = other.low; high = omega (arith, other.high) })
      refl (sym one.is ∙ other.is) in
      ap (λ (z : Label). z.word) same

  module _ (f cm : ℕ) (wanted : List (List ℕ)) (reach : current_of current f ≤ cm) (counts : List Count)
      (known : AllKnown numbers (item_words f wanted cm)) (allowed : AllowedSearches rows (map (search_for u) (item_words f wanted cm)) counts)
      (stored : Stored) (document : PlainDocument) (stands : StandsDocument u numbers stored document) where
    -- the tags that the searches find
    abbrev found : List (List ℕ)
    found = found_tags rows (map (search_for u) (item_words f wanted cm)) counts

    -- a cell of the field has an item that is wanted
    record IsMet (cell : PlainCell) : Type 0 where
      among : IsIn cell document.cells
      field : cell.field ≡ f
      meets : meet (value_items (kind_at u.schema cell.field) cell.value) wanted ≡ true

    met_tells : meet stored.tags found ≡ true → (cell : PlainCell) × IsMet cell
    met_tells passes =
        let both = meet_tells stored.tags found passes in
        let tag = both.0 in
        let here : IsTagIn u numbers document.cells tag =
        cells_tell u numbers tag stored.cells document.cells stands.cells (subst (λ (tags : List (List ℕ)). IsIn tag tags) stands.tags both.1) in
        let there : IsFoundTag u numbers rows exact (item_words f wanted cm) tag =
        found_tells u numbers rows exact tag (item_words f wanted cm) counts known allowed both.2 in
        let sought : IsSought f wanted cm there.word = word_tells f cm there.word wanted there.among in
        let item = of_map (λ x. Item here.cell.field x here.factor) here.word (value_items (kind_at u.schema here.cell.field) here.cell.value) here.is_word in
        let one : IsTagOf (root_of u) numbers (Item f sought.item sought.factor) tag = subst (λ w. IsTagOf (root_of u) numbers w tag) sought.is there.tags in
        let other : IsTagOf (root_of u) numbers (Item here.cell.field item.0 here.factor) tag = subst (λ w. IsTagOf (root_of u) numbers w tag) (sym item.2) here.tags in
        let same = one_word f here.cell.field sought.factor here.factor sought.item item.0 tag one other in (
          here.cell,
          record {
            among = here.among;
            field = sym (ap field_in same);
            meets = meet_from item.0 (value_items (kind_at u.schema here.cell.field) here.cell.value) wanted item.1
                (subst (λ (x : List ℕ). IsIn x wanted) (ap item_in same) sought.among);
          },
        )

    met_from : (cell : PlainCell) → IsMet cell → meet stored.tags found ≡ true
    met_from cell met =
        let both = meet_tells (value_items (kind_at u.schema cell.field) cell.value) wanted met.meets in
        let has = cells_have u numbers stored.cells document.cells cell stands.cells met.among in
        let at = has.each (Item cell.field both.0 has.factor) (in_map (λ x. Item cell.field x has.factor) both.0 (value_items (kind_at u.schema cell.field) cell.value) both.1) in
        let tag = at.0 in
        let is_tag : IsTagOf (root_of u) numbers (Item f both.0 has.factor) tag =
        subst (λ field. IsTagOf (root_of u) numbers (Item field both.0 has.factor) tag) met.field at.2 in
        let within : has.factor ≤ current_of current f = limited f has.factor is_tag.n both.0 is_tag.known (omega (arith, is_tag.low, is_tag.high)) in
        let word_in = word_from f cm has.factor both.0 wanted both.2 (omega (arith, within, reach)) in
        meet_from tag stored.tags found (subst (λ (tags : List (List ℕ)). IsIn tag tags) (sym stands.tags) at.1)
        (found_from u numbers rows exact (Item f both.0 has.factor) tag (item_words f wanted cm) counts word_in is_tag allowed)

    -- where items meet exactly where the term holds of a value, the document has a tag exactly where it holds of the document
    module _ (one : Term) (meets : (value : Plain) → IsKeptBy value (kind_at u.schema f) → meet (value_items (kind_at u.schema f) value) wanted ≡ says_of one value) where
      kept_in : (cell : PlainCell) → IsIn cell document.cells → IsKeptBy cell.value (kind_at u.schema cell.field)
      kept_in cell among = (zip_second (StandsCell u numbers) stored.cells document.cells cell stands.cells among).2.kept

      meets_at : (cell : PlainCell) → IsIn cell document.cells → cell.field ≡ f
          → meet (value_items (kind_at u.schema cell.field) cell.value) wanted ≡ says_of one cell.value
      meets_at cell among field =
          subst (λ g. IsKeptBy cell.value (kind_at u.schema g) → meet (value_items (kind_at u.schema g) cell.value) wanted ≡ says_of one cell.value)
          (sym field) (meets cell.value) (kept_in cell among)

      says_from : (there : Option Plain) → value_in f document.cells ≡ there → says_in one there ≡ true → meet stored.tags found ≡ true
      says_from None at says = absurd (false≢true says)
      says_from (Some value) at says =
          let cell = value_tells f document.cells value at in
          let says_cell : says_of one cell.0.value ≡ true = subst (λ (v : Plain). says_of one v ≡ true) (sym cell.3) says in
          met_from cell.0 (record { among = cell.1; field = cell.2; meets = meets_at cell.0 cell.1 cell.2 ∙ says_cell })

      pub term_says : meet stored.tags found ≡ says_in one (value_in f document.cells)
      term_says = same_test _ _
          (λ passes. let met = met_tells passes in
          let at : value_in f document.cells ≡ Some met.0.value =
          subst (λ g. value_in g document.cells ≡ Some met.0.value) met.1.field (value_from document.cells met.0 stands.ordered met.1.among) in
          let says : says_of one met.0.value ≡ true = sym (meets_at met.0 met.1.among met.1.field) ∙ met.1.meets in
          ap (says_in one) at ∙ says)
          (says_from (value_in f document.cells) refl)

  equal_says : (field : ℕ) (value : Plain) (there : Option Plain) → says_in (term.Equal field value) there ≡ equals_in value there
  equal_says field value None = refl
  equal_says field value (Some other) = refl

  between_says : (field : ℕ) (lo hi : ℤ) (there : Option Plain) → says_in (term.Between field lo hi) there ≡ lies_in lo hi (number_there there)
  between_says field lo hi None = refl
  between_says field lo hi (Some other) = refl

  edges_are : (field : ℕ) (edges : List Edge) → map (λ edge. find_tokens u field (text_of edge)) edges ≡ map (find_tokens u field) (map text_of edges)
  edges_are field [] = refl
  edges_are field (edge ∷ edges) = λ i. find_tokens u field (text_of edge) ∷ edges_are field edges i

  module _ (contentions : Contentions) (stored : Stored) (document : PlainDocument) (stands : StandsDocument u numbers stored document) where
    -- searches for a field's items
    by_searches : (f : ℕ) (wanted : List (List ℕ)) (searches : List Search) → searches ≡ map (search_for u) (item_words f wanted (contention_of contentions f))
        → current_of current f ≤ contention_of contentions f → (counts : List Count) → AllKnown numbers (item_words f wanted (contention_of contentions f))
        → AllowedSearches rows searches counts → (one : Term)
        → ((value : Plain) → IsKeptBy value (kind_at u.schema f) → meet (value_items (kind_at u.schema f) value) wanted ≡ says_of one value)
        → meet stored.tags (found_tags rows searches counts) ≡ says_in one (value_in f document.cells)
    by_searches f wanted searches are reach counts known allowed one meets =
        ap (λ (s : List Search). meet stored.tags (found_tags rows s counts)) are
        ∙ term_says f (contention_of contentions f) wanted reach counts known (subst (λ (s : List Search). AllowedSearches rows s counts) are allowed)
        stored document stands one meets

    pub term_holds : (one : Term) (place : ℕ) (counts : List Count) → IsTerm u.schema one → IsSpelledTerm one
        → term_below current (sent_term u contentions place one) ≡ None → AllKnown numbers (term_words u.schema one (sent_term u contentions place one))
        → AllowedSearches rows (term_searches (sent_term u contentions place one)) counts
        → holds stored (set_of rows (sent_term u contentions place one) counts) ≡ plainly.holds document one
    term_holds (term.Id id) place counts is_term spelled not_below known allowed = ids_same stored.id document.id id stands.decodes.id stands.id stands.spelled is_term spelled
    term_holds (term.Equal field value) place counts is_term spelled not_below known allowed =
        by_searches field (bytes_of value ∷ []) _ (searches_are u field (contention_of contentions field) (bytes_of value ∷ []))
        (enough current field (contention_of contentions field) not_below) counts known allowed (term.Equal field value)
        (λ v kept. items_meet laws u is field v (term.Equal field value) kept refl is_term)
        ∙ equal_says field value (value_in field document.cells)
    term_holds (term.Between field lo hi) place counts is_term spelled not_below known allowed =
        let edges = cover_in (kind_at u.schema field) lo hi in
        by_searches field (map text_of edges) _
        (ap (λ (es : List FindEdge). edge_searches es (contention_of contentions field)) (edges_are field edges)
        ∙ searches_are u field (contention_of contentions field) (map text_of edges))
        (enough current field (contention_of contentions field) not_below) counts known allowed (term.Between field lo hi)
        (λ v kept. items_meet laws u is field v (term.Between field lo hi) kept refl is_term)
        ∙ between_says field lo hi (value_in field document.cells)

    -- a filter of terms, from a place on
    pub terms_hold : (terms : List Term) (place : ℕ) (counts : List Count) → AllByRecursion (IsTerm u.schema) terms → AllByRecursion IsSpelledTerm terms
        → filter_below current (sent_filter u contentions terms place) ≡ None
        → AllKnown numbers (terms_words u.schema terms (sent_filter u contentions terms place))
        → AllowedTerms rows (sent_filter u contentions terms place) counts
        → matches (filter_sets rows (sent_filter u contentions terms place) counts) stored ≡ plainly.matches terms document
    terms_hold [] place counts are spelled not_below known allowed = refl
    terms_hold (one ∷ terms) place counts are spelled not_below known allowed =
        let sent = sent_term u contentions place one in
        let sents = sent_filter u contentions terms (place + 1) in
        let below = none_of_both (term_below current sent) (filter_below current sents) not_below in
        let words = all_parts (λ word. (n : ℕ) × (get numbers word ≡ Some n)) (term_words u.schema one sent) (terms_words u.schema terms sents) known in
        let first = term_holds one place counts are.0 spelled.0 below.0 words.0 allowed.0 in
        let rest = terms_hold terms (place + 1) (behind sent counts) are.1 spelled.1 below.1 words.1 allowed.1 in
        λ i. first i && rest i

pub filters_hold : EdgeLaws → (u : Under) → IsUnder u → FiltersHold u
filters_hold laws u is numbers rows current contentions free stand limited terms are spelled not_below known counts allowed stored document stands =
    terms_hold u is laws numbers free rows
    (λ word n at count counted. number_is (root_of u) numbers free rows stand word n at count counted.searched counted.is_true)
    current limited.at contentions stored document stands terms 0 counts are spelled not_below known allowed
