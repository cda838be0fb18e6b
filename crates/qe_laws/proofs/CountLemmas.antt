-- A search in rows that stand counts how often its word was indexed: the searches of filters, and of values' items.
use Rattle.std.proofs.Common.{◌≡◌, ◌+◌, ℕ, List, [], ◌∷◌, ◌++◌, length, map, drop, is_some, false, unwrap_or, Option, None, Some, refl, sym, ap, ◌∙◌, subst, inl, inr, append_assoc}
use Rattle.std.proofs.lemmas.Bool.{cond_both}
use Rattle.std.proofs.lemmas.List.{map-append}
use Rattle.std.specs.List.{AllByRecursion}
use Rattle.std.specs.FinMap.{contains_key, get, insert}
use Rattle.qe_base.specs.declared.maintenance.Count.{Count}
use Rattle.qe_tokens.specs.Labels.{row_token}
use Rattle.qe_tokens.specs.declared.words.Word.{Word}
use Rattle.qe_tokens.specs.declared.words.Word.TheVariants.{Item, Stray}
use Rattle.qe_edges.specs.declared.edge.Edge.{Edge}
use Rattle.qe_edges.specs.Texts.{text_of}
use Rattle.qe_esc.specs.Rows.{Rows}
use Rattle.qe_ecoc.specs.declared.rows.Entry.{Entry}
use Rattle.qe_parts.specs.declared.edges.EdgeTokens.{EdgeTokens}
use Rattle.qe_parts.specs.declared.edges.FindEdge.{FindEdge}
use Rattle.qe_plain.specs.declared.command.Term.{Term}
use Rattle.qe_plain.specs.declared.command.Term.TheVariants as term
use Rattle.qe_command.specs.declared.filter.SentTerm.{SentTerm}
use Rattle.qe_protocol.specs.Counting.{IsCounted}
use Rattle.qe_protocol.specs.Filters.{AllowedSearches, AllowedTerms, Search, behind, edge_searches, filter_rest, term_searches}
use Rattle.qe_protocol.specs.Indexing.{AllowedItems, index_items, indexed}
use Rattle.qe_protocol.specs.State.{Index}
use Rattle.qe_protocol.specs.UnitLaws.{IsOnlyCount}
use Rattle.qe_labels.specs.Laws.{IsFree}
use Rattle.qe_labels.specs.Numbers.{Later, Numbers, all_learned, all_raised, learned, raised}
use Rattle.qe_labels.specs.Tags.{words_under}
use Rattle.qe_labels.specs.Under.{Under, root_of}
use Rattle.qe_labels.proofs.NumberLemmas.{free_before, known_learned, later_all_raised, later_on, later_raised, other_learned}
use Rattle.qe_labels.proofs.OrderLemmas.{cases_word, number_other, number_same}
use Rattle.qe_relation.specs.Items.{AreItemsOf, IsItemOf}
use Rattle.qe_relation.specs.Stands.{IndexStands, RowsStand}
use Rattle.qe_relation.proofs.FreeLemmas.{count_is, number_is, one_token, true_count}
use Rattle.qe_relation.proofs.IndexLemmas.{learned_stands, raised_is}
use Rattle.qe_relation.proofs.ItemLemmas.{item_kept}
use Rattle.qe_relation.proofs.PlaceLemmas.{each_append}
use Rattle.qe_encodes.specs.Callers.{Contentions, contention_of}
use Rattle.qe_encodes.specs.Fields.{kind_at}
use Rattle.qe_encodes.specs.Items.{bytes_of, cover_in}
use Rattle.qe_encodes.specs.Payloads.{find_tokens, sent_filter, sent_term}
use Rattle.qe_encodes.specs.Words.{item_words, term_words, terms_words}
use Rattle.qe_encodes.proofs.MemberLemmas.{IsIn}
use Rattle.qe_standing.specs.Laws.{AllKnown}
use Rattle.qe_standing.proofs.WordLemmas.{search_for, searches_are}
use Rattle.qe_laws.specs.Entries.{CountsItsWord, times}
use Rattle.qe_laws.specs.Searches.{Searched, by_items, by_terms, in_rows}

abbrev pub count_of : Searched → Count
count_of search = search.count

-- ---- how often words were indexed
pub times_known : (numbers : Numbers) (word : Word) (n : ℕ) → get numbers word ≡ Some n → times numbers word ≡ n
times_known numbers word n known = ap (λ (o : Option ℕ). unwrap_or o 0) known

times_learned : (numbers : Numbers) (word other : Word) → times (learned numbers word) other ≡ times numbers other
times_learned numbers word other = elim (cases_word other word) [
  | inl same ↦
      cond_both (contains_key numbers word) numbers (insert numbers word 0) (λ m. times m other ≡ times numbers other) (λ _. refl)
      (λ none.
      let put : times (insert numbers word 0) other ≡ 0 = ap (times (insert numbers word 0)) same ∙ times_known (insert numbers word 0) word 0 (number_same numbers word 0) in
      put ∙ sym (ap (times numbers) same ∙ none_times (get numbers word) none))
  | inr apart ↦ ap (λ (o : Option ℕ). unwrap_or o 0) (other_learned numbers word other apart)
]
  where
    none_times : (o : Option ℕ) → is_some o ≡ false → unwrap_or o 0 ≡ 0
    none_times None none = refl
    none_times (Some n) none = cc

pub times_all_learned : (words : List Word) (numbers : Numbers) (other : Word) → times (all_learned numbers words) other ≡ times numbers other
times_all_learned [] numbers other = refl
times_all_learned (word ∷ words) numbers other = times_all_learned words (learned numbers word) other ∙ times_learned numbers word other

pub times_raised : (numbers : Numbers) (word other : Word) → (other ≡ word → ⊥) → times (raised numbers word) other ≡ times numbers other
times_raised numbers word other apart = ap (λ (o : Option ℕ). unwrap_or o 0) (number_other numbers word (unwrap_or (get numbers word) 0 + 1) other apart)

pub other_field : (x y : List ℕ) (field place factor other : ℕ) → (field ≡ place → ⊥) → Item field x factor ≡ Item place y other → ⊥
other_field x y field place factor other apart same = apart (λ i. field_in (same i))
  where
    field_in : Word → ℕ
    field_in (Item f z u) = f
    field_in (Stray t) = 0

other_item : (x y : List ℕ) (field factor : ℕ) → (x ≡ y → ⊥) → Item field x factor ≡ Item field y factor → ⊥
other_item x y field factor apart same = apart (λ i. item_in (same i))
  where
    item_in : Word → List ℕ
    item_in (Item f z u) = z
    item_in (Stray t) = []

-- ---- one search
module _ (root : ℕ → List ℕ) (before run : Numbers) (free : IsFree root run) where
  module _ (now : Numbers) (later : Later now run) (rows : Rows) (stand : RowsStand root now rows) where
    free_now : IsFree root now
    free_now = free_before root now run later free

    pub counts_word : (word : Word) (n : ℕ) → get now word ≡ Some n → times now word ≡ times before word → (token : List ℕ) (count : Count) → token ≡ row_token root word
        → IsCounted rows token count → CountsItsWord root before run (record { rows = rows; token = token; count = count })
    counts_word word n known same token count is counts =
        let searched : count.token ≡ row_token root word = counts.searched ∙ is in
        let due = count_is root now free_now rows stand word n known count searched counts.is_true in
        let there = later.at word n known in
        record {
          word = word;
          known = (there.0, there.1);
          token = is;
          alone = λ other m known_other is_other. one_token root run free other word m there.0 known_other there.1 (sym is_other ∙ is);
          searched = counts.searched;
          only = subst (IsOnlyCount rows) (sym due) (true_count root now free_now rows stand word n known);
          number = number_is root now free_now rows stand word n known count searched counts.is_true ∙ sym (times_known now word n known) ∙ same;
        }

-- ---- filters
told_rows : (rows : Rows) (searches : List Search) (counts : List Count) → AllowedSearches rows searches counts
    → map count_of (in_rows rows searches counts) ++ drop (length searches) counts ≡ counts
told_rows rows [] counts allowed = refl
told_rows rows (search ∷ searches) [] allowed = absurd allowed
told_rows rows (search ∷ searches) (count ∷ counts) allowed = ap (λ (rest : List Count). count ∷ rest) (told_rows rows searches counts allowed.1)

pub told_both : (front back : List Searched) (middle rest counts : List Count) → map count_of front ++ middle ≡ counts → map count_of back ++ rest ≡ middle
    → map count_of (front ++ back) ++ rest ≡ counts
told_both front back middle rest counts first second =
    ap (λ (cs : List Count). cs ++ rest) (map-append count_of front back)
    ∙ append_assoc (map count_of front) (map count_of back) rest
    ∙ ap (λ (cs : List Count). map count_of front ++ cs) second ∙ first

pub told_terms : (rows : Rows) (terms : List SentTerm) (counts : List Count) → AllowedTerms rows terms counts
    → map count_of (by_terms rows terms counts) ++ filter_rest terms counts ≡ counts
told_terms rows [] counts allowed = refl
told_terms rows (one ∷ terms) counts allowed =
    told_both (in_rows rows (term_searches one) counts) (by_terms rows terms (behind one counts)) (behind one counts) (filter_rest terms (behind one counts)) counts
    (told_rows rows (term_searches one) counts allowed.0) (told_terms rows terms (behind one counts) allowed.1)

module _ (u : Under) (before run : Numbers) (free : IsFree (root_of u) run) (now : Numbers) (later : Later now run)
    (same : (word : Word) → times now word ≡ times before word) (rows : Rows) (stand : RowsStand (root_of u) now rows) (contentions : Contentions) where
  abbrev Each : List Searched → Type 0
  Each searches = AllByRecursion (CountsItsWord (root_of u) before run) searches

  edges_are : (field : ℕ) (edges : List Edge) → map (λ edge. find_tokens u field (text_of edge)) edges ≡ map (find_tokens u field) (map text_of edges)
  edges_are field [] = refl
  edges_are field (edge ∷ edges) = ap (λ (rest : List FindEdge). find_tokens u field (text_of edge) ∷ rest) (edges_are field edges)

  known_front : (front back : List Word) → AllKnown now (front ++ back) → AllKnown now front × AllKnown now back
  known_front [] back known = (tt, known)
  known_front (word ∷ front) back known = let rest = known_front front back known.1 in ((known.0, rest.0), rest.1)

  words_count : (words : List Word) → AllKnown now words → (counts : List Count) → AllowedSearches rows (map (search_for u) words) counts
      → Each (in_rows rows (map (search_for u) words) counts)
  words_count [] known counts allowed = tt
  words_count (word ∷ words) known [] allowed = absurd allowed
  words_count (word ∷ words) known (count ∷ counts) allowed = (
    counts_word (root_of u) before run free now later rows stand word known.0.0 known.0.1 (same word) (row_token (root_of u) word) count refl allowed.0,
    words_count words known.1 counts allowed.1,
  )

  searches_count : (searches : List Search) (words : List Word) → searches ≡ map (search_for u) words → AllKnown now words → (counts : List Count)
      → AllowedSearches rows searches counts → Each (in_rows rows searches counts)
  searches_count searches words are known counts allowed =
      subst (λ (s : List Search). Each (in_rows rows s counts)) (sym are)
      (words_count words known counts (subst (λ (s : List Search). AllowedSearches rows s counts) are allowed))

  term_count : (one : Term) (place : ℕ) (counts : List Count) → AllKnown now (term_words u.schema one (sent_term u contentions place one))
      → AllowedSearches rows (term_searches (sent_term u contentions place one)) counts → Each (in_rows rows (term_searches (sent_term u contentions place one)) counts)
  term_count (term.Id id) place counts known allowed = tt
  term_count (term.Equal field value) place counts known allowed =
      let greatest = contention_of contentions field in
      searches_count (edge_searches (find_tokens u field (bytes_of value) ∷ []) greatest) (item_words field (bytes_of value ∷ []) greatest)
      (searches_are u field greatest (bytes_of value ∷ [])) known counts allowed
  term_count (term.Between field lo hi) place counts known allowed =
      let greatest = contention_of contentions field in
      let edges = cover_in (kind_at u.schema field) lo hi in
      searches_count (edge_searches (map (λ edge. find_tokens u field (text_of edge)) edges) greatest) (item_words field (map text_of edges) greatest)
      (ap (λ (es : List FindEdge). edge_searches es greatest) (edges_are field edges) ∙ searches_are u field greatest (map text_of edges)) known counts allowed

  pub terms_count : (terms : List Term) (place : ℕ) (counts : List Count) → AllKnown now (terms_words u.schema terms (sent_filter u contentions terms place))
      → AllowedTerms rows (sent_filter u contentions terms place) counts → Each (by_terms rows (sent_filter u contentions terms place) counts)
  terms_count [] place counts known allowed = tt
  terms_count (one ∷ terms) place counts known allowed =
      let sent = sent_term u contentions place one in
      let words = known_front (term_words u.schema one sent) (terms_words u.schema terms (sent_filter u contentions terms (place + 1))) known in
      each_append (CountsItsWord (root_of u) before run) (in_rows rows (term_searches sent) counts) (by_terms rows (sent_filter u contentions terms (place + 1)) (behind sent counts))
      (term_count one place counts words.0 allowed.0) (terms_count terms (place + 1) (behind sent counts) words.1 allowed.1)

-- ---- items
-- no item stands twice
abbrev pub AreApart : List (List ℕ) → Type 0
AreApart [] = Unit {0}
AreApart (x ∷ xs) = (IsIn x xs → ⊥) × AreApart xs

module _ (root : ℕ → List ℕ) (before run : Numbers) (free : IsFree root run) (aside : List Entry) (captured doomed : List (List ℕ)) (field factor : ℕ) where
  abbrev Stands : Numbers → Index → Type 0
  Stands numbers index = IndexStands root numbers index.rows index.ecoc aside captured doomed

  item_counts : (x : List ℕ) (item : EdgeTokens) → IsItemOf root (Item field x factor) field item → (now : Numbers) (index : Index) (count : Count) → IsCounted index.rows item.s count
      → Later (raised now (Item field x factor)) run → Stands now index → times now (Item field x factor) ≡ times before (Item field x factor)
      → CountsItsWord root before run (record { rows = index.rows; token = item.s; count = count })
  item_counts x item is now index count counts later stand same =
      let word = Item field x factor in
      let known = known_learned now word in
      let first = learned now word in
      let grown : Later first (raised now word) = subst (Later first)
      (ap (λ (o : Option ℕ). insert first word (unwrap_or o 0 + 1)) known.1 ∙ sym (raised_is now word known.0 known.1)) (later_raised first word) in
      let later_first : Later first run = later_on first (raised now word) run grown later in
      let stands : Stands first index = learned_stands root index.rows index.ecoc aside captured doomed now word (free_before root first run later_first free) stand in
      counts_word root before run free first later_first index.rows stands.rows_stand word known.0 known.1 (times_learned now word word ∙ same) item.s count is.rows counts

  pub items_count : (xs : List (List ℕ)) (items : List EdgeTokens) (counts : List Count) (now : Numbers) (index : Index) → AreItemsOf root field factor xs items
      → AllowedItems field index items counts → Later (all_raised now (words_under field factor xs)) run → Stands now index → AreApart xs
      → ((x : List ℕ) → IsIn x xs → times now (Item field x factor) ≡ times before (Item field x factor))
      → AllByRecursion (CountsItsWord root before run) (by_items field index items counts)
  items_count [] [] counts now index are allowed later stand apart same = tt
  items_count [] (item ∷ items) counts now index are allowed later stand apart same = absurd are
  items_count (x ∷ xs) [] counts now index are allowed later stand apart same = absurd are
  items_count (x ∷ xs) (item ∷ items) [] now index are allowed later stand apart same = absurd allowed
  items_count (x ∷ xs) (item ∷ items) (count ∷ counts) now index are allowed later stand apart same =
      let word = Item field x factor in
      let next = raised now word in
      let words = words_under field factor xs in
      let later_next : Later next run = later_on next (all_raised next words) run (later_all_raised words next) later in
      let kept = item_kept root aside captured doomed field factor x item are.0 now index count allowed.0 (free_before root next run later_next free) stand in (
        item_counts x item are.0 now index count allowed.0 later_next stand (same x (inl refl)),
        items_count xs items counts next (indexed field index count item) are.1 allowed.1 later kept apart.1
            (λ (y : List ℕ) (among : IsIn y xs).
            times_raised now word (Item field y factor) (other_item y x field factor (λ (one : y ≡ x). apart.0 (subst (λ (z : List ℕ). IsIn z xs) one among)))
            ∙ same y (inr among)),
      )

pub told_items : (field factor : ℕ) (index : Index) (items : List EdgeTokens) (nonces : List (List ℕ)) (counts : List Count) → AllowedItems field index items counts
    → map count_of (by_items field index items counts) ++ (index_items field factor index items nonces counts).rest ≡ counts
told_items field factor index [] nonces counts allowed = refl
told_items field factor index (item ∷ items) nonces [] allowed = absurd allowed
told_items field factor index (item ∷ items) nonces (count ∷ counts) allowed =
    ap (λ (rest : List Count). count ∷ rest) (told_items field factor (indexed field index count item) items (drop 2 nonces) counts allowed.1)
