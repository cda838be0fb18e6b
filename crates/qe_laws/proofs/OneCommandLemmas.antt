-- Without a clash the counts of a filter and of values are the only true ones.
use Rattle.std.proofs.Common.{◌≡◌, ◌≤◌, ◌+◌, ℕ, zero, suc, Bool, List, [], ◌∷◌, ◌++◌, length, map, refl, sym, ap, ◌∙◌, subst, arith}
use Rattle.std.proofs.lemmas.List.{length-drop}
use Rattle.std.specs.Prelude.{drop}
use Rattle.qe_base.specs.declared.maintenance.Count.{Count}
use Rattle.qe_tokens.specs.Labels.{tag_token}
use Rattle.qe_tokens.specs.Tokens.{edc_twice_of}
use Rattle.qe_tokens.specs.declared.words.Word.{Word}
use Rattle.qe_value.specs.declared.value.Plain.{Plain}
use Rattle.qe_edges.specs.declared.edge.Edge.{Edge}
use Rattle.qe_edges.specs.Texts.{text_of}
use Rattle.qe_field.specs.declared.field.FieldKind.{FieldKind}
use Rattle.qe_field.specs.declared.field.FieldKind.TheVariants as k
use Rattle.qe_esc.specs.Rows.{Rows}
use Rattle.qe_ecoc.specs.declared.rows.Entry.{Entry}
use Rattle.qe_parts.specs.declared.edges.FindEdge.{FindEdge}
use Rattle.qe_plain.specs.declared.command.PlainCell.{PlainCell}
use Rattle.qe_plain.specs.declared.command.Term.{Term}
use Rattle.qe_plain.specs.declared.command.Term.TheVariants as term
use Rattle.qe_store.specs.declared.stored.TermSet.TheVariants as set
use Rattle.qe_command.specs.declared.cells.SentCell.{SentCell}
use Rattle.qe_command.specs.declared.cells.SentCell.TheVariants as sent
use Rattle.qe_parts.specs.declared.edges.EdgeTokens.{EdgeTokens}
use Rattle.qe_command.specs.declared.filter.SentTerm.{SentTerm}
use Rattle.qe_command.specs.Items.{items_of}
use Rattle.qe_command.specs.Nonces.{cell_nonces, cells_nonces}
use Rattle.qe_protocol.specs.Filters.{AllowedSearches, AllowedTerms, Search, behind, edge_searches, filter_rest, filter_sets, found_tags, set_of, term_searches}
use Rattle.qe_protocol.specs.Indexing.{AllowedCell, AllowedCells, index_cell}
use Rattle.qe_protocol.specs.Laws.{AreLong}
use Rattle.qe_protocol.specs.State.{Index}
use Rattle.qe_labels.specs.Laws.{IsFree}
use Rattle.qe_labels.specs.Numbers.{Numbers, all_raised}
use Rattle.qe_labels.specs.Under.{Under, root_of}
use Rattle.qe_labels.proofs.NumberLemmas.{free_before, later_all_raised}
use Rattle.qe_relation.specs.Stands.{IndexStands, RowsStand}
use Rattle.qe_relation.proofs.OneLemmas.{items_one, searches_one}
use Rattle.qe_encodes.specs.Callers.{Contentions, contention_of}
use Rattle.qe_encodes.specs.Encodes.{AreDrawn, SendsCell}
use Rattle.qe_encodes.specs.Fields.{IsUnder, kind_at}
use Rattle.qe_encodes.specs.Items.{bytes_of, cover_in, value_items}
use Rattle.qe_encodes.specs.Payloads.{Drawn, find_tokens, sent_filter, sent_term, sent_value}
use Rattle.qe_encodes.specs.Words.{cell_words, cells_words, item_words, term_words, terms_words, value_words}
use Rattle.qe_standing.specs.Laws.{AllKnown, AreMeant}
use Rattle.qe_standing.proofs.CellLemmas.{are_items}
use Rattle.qe_standing.proofs.CellsLemmas.{one_kept, raised_both}
use Rattle.qe_standing.proofs.WordLemmas.{search_for, searches_are}

-- ---- filters
module _ (u : Under) (numbers : Numbers) (free : IsFree (root_of u) numbers) (rows : Rows) (stand : RowsStand (root_of u) numbers rows) (contentions : Contentions) where
  edges_are : (field : ℕ) (edges : List Edge) → map (λ edge. find_tokens u field (text_of edge)) edges ≡ map (find_tokens u field) (map text_of edges)
  edges_are field [] = refl
  edges_are field (edge ∷ edges) = ap (λ (rest : List FindEdge). find_tokens u field (text_of edge) ∷ rest) (edges_are field edges)

  -- searches for known words
  module _ (searches : List Search) (words : List Word) (are : searches ≡ map (search_for u) words) (known : AllKnown numbers words) (counts others : List Count)
      (allowed : AllowedSearches rows searches counts) (also : AllowedSearches rows searches others) where
    pub record SearchesAgree : Type 0 where
      pub found : found_tags rows searches others ≡ found_tags rows searches counts
      pub join : drop (length searches) others ≡ drop (length searches) counts → others ≡ counts

    searches_agree : SearchesAgree
    searches_agree =
        let one = searches_one (root_of u) numbers free rows stand (λ word. edc_twice_of (tag_token (root_of u) word)) words known counts others
        (subst (λ (s : List Search). AllowedSearches rows s counts) are allowed) (subst (λ (s : List Search). AllowedSearches rows s others) are also) in
        record {
          found = ap (λ (s : List Search). found_tags rows s others) are ∙ one.found ∙ ap (λ (s : List Search). found_tags rows s counts) (sym are);
          join = λ same. one.join (ap (λ (s : List Search). drop (length s) others) (sym are) ∙ same ∙ ap (λ (s : List Search). drop (length s) counts) are);
        }

  pub record TermOne (sent : SentTerm) (counts others : List Count) : Type 0 where
    pub set_is : set_of rows sent others ≡ set_of rows sent counts
    pub join : behind sent others ≡ behind sent counts → others ≡ counts

  term_one : (one : Term) (place : ℕ) (counts others : List Count) → AllKnown numbers (term_words u.schema one (sent_term u contentions place one))
      → AllowedSearches rows (term_searches (sent_term u contentions place one)) counts → AllowedSearches rows (term_searches (sent_term u contentions place one)) others
      → TermOne (sent_term u contentions place one) counts others
  term_one (term.Id id) place counts others known allowed also = record { set_is = refl; join = λ same. same }
  term_one (term.Equal field value) place counts others known allowed also =
      let greatest = contention_of contentions field in
      let one = searches_agree (edge_searches (find_tokens u field (bytes_of value) ∷ []) greatest) (item_words field (bytes_of value ∷ []) greatest)
      (searches_are u field greatest (bytes_of value ∷ [])) known counts others allowed also in
      record { set_is = ap set.Tags one.found; join = one.join }
  term_one (term.Between field lo hi) place counts others known allowed also =
      let greatest = contention_of contentions field in
      let edges = cover_in (kind_at u.schema field) lo hi in
      let one = searches_agree (edge_searches (map (λ edge. find_tokens u field (text_of edge)) edges) greatest) (item_words field (map text_of edges) greatest)
      (ap (λ (es : List FindEdge). edge_searches es greatest) (edges_are field edges) ∙ searches_are u field greatest (map text_of edges)) known counts others allowed also in
      record { set_is = ap set.Tags one.found; join = one.join }

  known_front : (front back : List Word) → AllKnown numbers (front ++ back) → AllKnown numbers front × AllKnown numbers back
  known_front [] back known = (tt, known)
  known_front (word ∷ front) back known = let rest = known_front front back known.1 in ((known.0, rest.0), rest.1)

  pub record TermsOne (sents : List SentTerm) (counts others : List Count) : Type 0 where
    pub sets_are : filter_sets rows sents others ≡ filter_sets rows sents counts
    pub join : filter_rest sents others ≡ filter_rest sents counts → others ≡ counts

  pub terms_one : (terms : List Term) (place : ℕ) (counts others : List Count) → AllKnown numbers (terms_words u.schema terms (sent_filter u contentions terms place))
      → AllowedTerms rows (sent_filter u contentions terms place) counts → AllowedTerms rows (sent_filter u contentions terms place) others
      → TermsOne (sent_filter u contentions terms place) counts others
  terms_one [] place counts others known allowed also = record { sets_are = refl; join = λ same. same }
  terms_one (one ∷ terms) place counts others known allowed also =
      let sent = sent_term u contentions place one in
      let words = known_front (term_words u.schema one sent) (terms_words u.schema terms (sent_filter u contentions terms (place + 1))) known in
      let first = term_one one place counts others words.0 allowed.0 also.0 in
      let rest = terms_one terms (place + 1) (behind sent counts) (behind sent others) words.1 allowed.1 also.1 in
      record { sets_are = λ i. first.set_is i ∷ rest.sets_are i; join = λ same. first.join (rest.join same) }

-- ---- values
abbrev sent_items : SentCell → List EdgeTokens
sent_items (sent.Plain value) = []
sent_items (sent.Payload payload) = items_of payload

module _ (u : Under) (is : IsUnder u) (leaves : Bool) (contentions : Contentions) (aside : List Entry) (captured doomed : List (List ℕ)) where
  pub record CellOne (field : ℕ) (index : Index) (one : SentCell) (nonces : List (List ℕ)) (counts others : List Count) : Type 0 where
    pub index_is : (index_cell field index one nonces others).index ≡ (index_cell field index one nonces counts).index
    pub join : (index_cell field index one nonces others).rest ≡ (index_cell field index one nonces counts).rest → others ≡ counts

  cell_one : (field most : ℕ) (drawn : Drawn) → AreDrawn most drawn → (kind : FieldKind) (value : Plain) (index : Index) (nonces : List (List ℕ)) (counts others : List Count) (numbers : Numbers)
      → AllowedCell field index (sent_value u leaves field drawn kind value) counts → AllowedCell field index (sent_value u leaves field drawn kind value) others
      → IndexStands (root_of u) numbers index.rows index.ecoc aside captured doomed
      → IsFree (root_of u) (all_raised numbers (value_words field kind value (sent_value u leaves field drawn kind value)))
      → CellOne field index (sent_value u leaves field drawn kind value) nonces counts others
  cell_one field most drawn are k.Plain value index nonces counts others numbers allowed also stand free = record { index_is = refl; join = λ same. same }
  cell_one field most drawn are (k.Equality key_id value_kind contention greatest) value index nonces counts others numbers allowed also stand free =
      let kind = k.Equality key_id value_kind contention greatest in
      let one = items_one (root_of u) aside captured doomed field drawn.factor (value_items kind value) (sent_items (sent_value u leaves field drawn kind value)) counts others (drop 1 nonces) numbers index
      (are_items u field leaves kind most drawn are value) allowed also free stand in
      record { index_is = one.index_is; join = one.join }
  cell_one field most drawn are (k.Range key_id value_kind contention greatest domain) value index nonces counts others numbers allowed also stand free =
      let kind = k.Range key_id value_kind contention greatest domain in
      let one = items_one (root_of u) aside captured doomed field drawn.factor (value_items kind value) (sent_items (sent_value u leaves field drawn kind value)) counts others (drop 1 nonces) numbers index
      (are_items u field leaves kind most drawn are value) allowed also free stand in
      record { index_is = one.index_is; join = one.join }

  sent_one : (cell : PlainCell) (one : ℕ × SentCell) → SendsCell u leaves contentions cell one → (index : Index) (nonces : List (List ℕ)) (counts others : List Count) (numbers : Numbers)
      → AllowedCell one.0 index one.1 counts → AllowedCell one.0 index one.1 others → IndexStands (root_of u) numbers index.rows index.ecoc aside captured doomed
      → IsFree (root_of u) (all_raised numbers (cell_words u.schema cell one.1)) → CellOne one.0 index one.1 nonces counts others
  sent_one cell one sends index nonces counts others numbers allowed also stand free =
      let due : ℕ × SentCell = (cell.field, sent_value u leaves cell.field sends.drawn (kind_at u.schema cell.field) cell.value) in
      let same : one ≡ due = λ i. (sends.field i, sends.value i) in
      subst (λ (x : ℕ × SentCell). CellOne x.0 index x.1 nonces counts others) (sym same)
      (cell_one cell.field (contention_of contentions cell.field) sends.drawn sends.are_drawn (kind_at u.schema cell.field) cell.value index nonces counts others numbers
      (subst (λ (x : ℕ × SentCell). AllowedCell x.0 index x.1 counts) same allowed) (subst (λ (x : ℕ × SentCell). AllowedCell x.0 index x.1 others) same also) stand
      (subst (λ (x : ℕ × SentCell). IsFree (root_of u) (all_raised numbers (cell_words u.schema cell x.1))) same free))

  long_drop : (n : ℕ) (nonces : List (List ℕ)) → AreLong nonces → AreLong (drop n nonces)
  long_drop n [] long = drop_nothing n
    where
      drop_nothing : (m : ℕ) → AreLong (drop m [])
      drop_nothing zero = tt
      drop_nothing (suc m) = tt
  long_drop zero (nonce ∷ nonces) long = long
  long_drop (suc n) (nonce ∷ nonces) long = long_drop n nonces long.1

  pub cells_one : (cells : List PlainCell) (sents : List (ℕ × SentCell)) → AreMeant u leaves contentions cells sents → (index : Index) (nonces : List (List ℕ)) (counts others : List Count)
      → AreLong nonces → cells_nonces sents ≤ length nonces → AllowedCells index sents nonces counts → AllowedCells index sents nonces others
      → (numbers : Numbers) → IndexStands (root_of u) numbers index.rows index.ecoc aside captured doomed
      → IsFree (root_of u) (all_raised numbers (cells_words u.schema cells sents)) → others ≡ counts
  cells_one [] [] are index nonces counts others long enough allowed also numbers stand free = also ∙ sym allowed
  cells_one [] (one ∷ sents) are index nonces counts others long enough allowed also numbers stand free = absurd are.sends
  cells_one (cell ∷ cells) [] are index nonces counts others long enough allowed also numbers stand free = absurd are.sends
  cells_one (cell ∷ cells) (one ∷ sents) are index nonces counts others long enough allowed also numbers stand free =
      let rest : AreMeant u leaves contentions cells sents = record { sends = are.sends.1; kept = are.kept.1; spelled = are.spelled.1; fits = are.fits.1 } in
      let done = index_cell one.0 index one.1 nonces counts in
      let other = index_cell one.0 index one.1 nonces others in
      let left = drop (cell_nonces one.1) nonces in
      let behind_nonces = length-drop (cell_nonces one.1) nonces in
      let words = cell_words u.schema cell one.1 in
      let more = cells_words u.schema cells sents in
      let next = all_raised numbers words in
      let last = all_raised next more in
      let free_last : IsFree (root_of u) last = subst (IsFree (root_of u)) (raised_both numbers words more) free in
      let free_next : IsFree (root_of u) next = free_before (root_of u) next last (later_all_raised more next) free_last in
      let first : CellOne one.0 index one.1 nonces counts others = sent_one cell one are.sends.0 index nonces counts others numbers allowed.0 also.0 stand free_next in
      let kept = one_kept u is leaves contentions cell one are.sends.0 are.fits.0 index nonces counts long (omega (arith, enough)) allowed.0 are.kept.0 aside captured doomed numbers stand free_next in
      let also_rest : AllowedCells done.index sents left other.rest = subst (λ (x : Index). AllowedCells x sents left other.rest) first.index_is also.1 in
      first.join (cells_one cells sents rest done.index left done.rest other.rest (long_drop (cell_nonces one.1) nonces long) (omega (arith, enough, behind_nonces)) allowed.1 also_rest next
      kept.stand free_last)
