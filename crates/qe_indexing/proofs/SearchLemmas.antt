-- Searches, one after another.
use Rattle.std.proofs.Common.{◌≡◌, ℕ, zero, suc, ◌+◌, ◌<◌, List, [], ◌∷◌, ◌++◌, length, take, drop, get_or, refl, sym, ap, ap₂, subst, ◌∙◌, append_assoc, append-nil, arith, length-append}
use Rattle.std.proofs.lemmas.List.{take_more}
use Rattle.qe_base.specs.declared.maintenance.Count.{Count}
use Rattle.qe_value.specs.declared.value.Value.{Value}
use Rattle.qe_esc.specs.Rows.{Rows}
use Rattle.qe_parts.specs.declared.edges.FindEdge.{FindEdge}
use Rattle.qe_store.specs.declared.stored.TermSet.{TermSet}
use Rattle.qe_store.specs.declared.stored.TermSet.TheVariants as set
use Rattle.qe_command.specs.declared.filter.SentTerm.{SentTerm}
use Rattle.qe_command.specs.declared.filter.SentTerm.TheVariants as t
use Rattle.qe_find.specs.declared.equal.FindEqual.{FindEqual}
use Rattle.qe_find.specs.declared.range.FindRange.{FindRange}
use Rattle.qe_protocol.specs.Counting.{IsCounted, counted}
use Rattle.qe_protocol.specs.Filters.{Search, search_of, factor_searches, edge_searches, term_searches, tags_upto, found_tags, set_of, behind, filter_sets, filter_rest, AllowedSearches, AllowedTerms}
use Rattle.qe_indexing.specs.Searches.{IsSearched, SearchesMade, TermMade, TermsMade}

-- SEARCHES

tags-append : (rows : Rows) (xs ys : List Search) (cs ds : List Count) → length cs ≡ length xs
    → found_tags rows (xs ++ ys) (cs ++ ds) ≡ found_tags rows xs cs ++ found_tags rows ys ds
tags-append rows [] ys [] ds many = refl
tags-append rows [] ys (c ∷ cs) ds many = absurd (omega (arith, many))
tags-append rows (x ∷ xs) ys [] ds many = absurd (omega (arith, many))
tags-append rows (x ∷ xs) ys (c ∷ cs) ds many =
    ap (λ tags. tags_upto x.key (counted rows c) ++ tags) (tags-append rows xs ys cs ds (omega (arith, many)))
    ∙ sym (append_assoc (tags_upto x.key (counted rows c)) (found_tags rows xs cs) (found_tags rows ys ds))

allowed-append : (rows : Rows) (xs ys : List Search) (cs ds : List Count) → length cs ≡ length xs
    → AllowedSearches rows xs cs → AllowedSearches rows ys ds → AllowedSearches rows (xs ++ ys) (cs ++ ds)
allowed-append rows [] ys [] ds many first second = second
allowed-append rows [] ys (c ∷ cs) ds many first second = absurd (omega (arith, many))
allowed-append rows (x ∷ xs) ys [] ds many first second = absurd (omega (arith, many))
allowed-append rows (x ∷ xs) ys (c ∷ cs) ds many first second = (first.0, allowed-append rows xs ys cs ds (omega (arith, many)) first.1 second)

searched-join : (rows : Rows) (xs ys : List Search) (cs ds : List Count) (ts us : List (List ℕ)) → IsSearched rows xs cs ts → IsSearched rows ys ds us
    → IsSearched rows (xs ++ ys) (cs ++ ds) (ts ++ us)
searched-join rows xs ys cs ds ts us a b = record {
  many = omega (arith, length-append cs ds, length-append xs ys, a.many, b.many);
  tags_are = tags-append rows xs ys cs ds a.many ∙ ap₂ (λ front back. front ++ back) a.tags_are b.tags_are;
  allowed = allowed-append rows xs ys cs ds a.many a.allowed b.allowed;
}

module _ (rows : Rows) (counts : List Count) (tags : List (List ℕ)) where
  pub searches_begin : SearchesMade rows [] counts tags counts tags
  searches_begin = record {
    found = [];
    made = [];
    counts_are = sym (append-nil counts);
    tags_are = sym (append-nil tags);
    is = record { many = refl; tags_are = refl; allowed = tt };
  }

  -- some searches, and others
  pub searches_join : (xs ys : List Search) (mid new : List Count) (mid_tags new_tags : List (List ℕ)) → SearchesMade rows xs counts tags mid mid_tags
      → SearchesMade rows ys mid mid_tags new new_tags → SearchesMade rows (xs ++ ys) counts tags new new_tags
  searches_join xs ys mid new mid_tags new_tags a b = record {
    found = a.found ++ b.found;
    made = a.made ++ b.made;
    counts_are = b.counts_are ∙ ap (λ front. front ++ b.found) a.counts_are ∙ append_assoc counts a.found b.found;
    tags_are = b.tags_are ∙ ap (λ front. front ++ b.made) a.tags_are ∙ append_assoc tags a.made b.made;
    is = searched-join rows xs ys a.found b.found a.made b.made a.is b.is;
  }

  -- one search
  pub one_search : (search : Search) (count : Count) (new : List Count) (new_tags : List (List ℕ)) → IsCounted rows search.token count
      → new ≡ counts ++ count ∷ [] → new_tags ≡ tags ++ tags_upto search.key (counted rows count) → SearchesMade rows (search ∷ []) counts tags new new_tags
  one_search search count new new_tags is_count counts_are tags_are = record {
    found = count ∷ [];
    made = tags_upto search.key (counted rows count);
    counts_are = counts_are;
    tags_are = tags_are;
    is = record { many = refl; tags_are = append-nil (tags_upto search.key (counted rows count)); allowed = (is_count, tt) };
  }

-- one factor more
pub factor_searches-more : (edge : FindEdge) (from more : ℕ) → factor_searches edge from (more + 1) ≡ factor_searches edge from more ++ search_of edge (from + more) ∷ []
factor_searches-more edge from zero =
    let same : from ≡ from + 0 = omega arith in ap (λ factor. search_of edge factor ∷ []) same
factor_searches-more edge from (suc more) =
    let count : suc more + 1 ≡ suc (more + 1) = omega arith in
    let last : from + 1 + more ≡ from + suc more = omega arith in
    ap (factor_searches edge from) count
    ∙ ap (λ others. search_of edge from ∷ others) (factor_searches-more edge (from + 1) more)
    ∙ ap (λ factor. search_of edge from ∷ (factor_searches edge (from + 1) more ++ search_of edge factor ∷ [])) last

-- one edge more
edge_searches-append : (xs ys : List FindEdge) (greatest : ℕ) → edge_searches (xs ++ ys) greatest ≡ edge_searches xs greatest ++ edge_searches ys greatest
edge_searches-append [] ys greatest = refl
edge_searches-append (x ∷ xs) ys greatest =
    ap (λ others. factor_searches x 0 (greatest + 1) ++ others) (edge_searches-append xs ys greatest)
    ∙ sym (append_assoc (factor_searches x 0 (greatest + 1)) (edge_searches xs greatest) (edge_searches ys greatest))

pub edge_searches-more : (all : List FindEdge) (place : ℕ) (blank : FindEdge) (greatest : ℕ) → place < length all
    → edge_searches (take (place + 1) all) greatest ≡ edge_searches (take place all) greatest ++ factor_searches (get_or all place blank) 0 (greatest + 1)
edge_searches-more all place blank greatest less =
    ap (λ edges. edge_searches edges greatest) (take_more all place blank less)
    ∙ edge_searches-append (take place all) (get_or all place blank ∷ []) greatest
    ∙ ap (λ others. edge_searches (take place all) greatest ++ others) (append-nil (factor_searches (get_or all place blank) 0 (greatest + 1)))

-- TERMS

drop-behind : (cs ds : List Count) (n : ℕ) → length cs ≡ n → drop n (cs ++ ds) ≡ ds
drop-behind [] ds n many = ap (λ k. drop k ds) (sym many)
drop-behind (c ∷ cs) ds n many = ap (λ k. drop k ((c ∷ cs) ++ ds)) (sym many) ∙ drop-behind cs ds (length cs) refl

tags-more : (rows : Rows) (xs : List Search) (cs more : List Count) → length cs ≡ length xs → found_tags rows xs (cs ++ more) ≡ found_tags rows xs cs
tags-more rows [] cs more many = refl
tags-more rows (x ∷ xs) [] more many = absurd (omega (arith, many))
tags-more rows (x ∷ xs) (c ∷ cs) more many = ap (λ tags. tags_upto x.key (counted rows c) ++ tags) (tags-more rows xs cs more (omega (arith, many)))

allowed-more : (rows : Rows) (xs : List Search) (cs more : List Count) → AllowedSearches rows xs cs → AllowedSearches rows xs (cs ++ more)
allowed-more rows [] cs more is = tt
allowed-more rows (x ∷ xs) [] more is = absurd is
allowed-more rows (x ∷ xs) (c ∷ cs) more is = (is.0, allowed-more rows xs cs more is.1)

module _ (rows : Rows) (counts new : List Count) where
  pub id_term : (id other : Value) → other ≡ id → TermMade rows (t.Id id) counts counts (set.Id other)
  id_term id other same = record {
    found = [];
    counts_are = sym (append-nil counts);
    set_is = λ more. ap (λ one. set.Id one) (sym same);
    behind_is = λ more. refl;
    allowed = λ more. tt;
  }

  pub equal_term : (field : ℕ) (payload : FindEqual) (tags : List (List ℕ)) → SearchesMade rows (term_searches (t.Equal field payload)) counts [] new tags
      → TermMade rows (t.Equal field payload) counts new (set.Tags tags)
  equal_term field payload tags made =
      let searches = term_searches (t.Equal field payload) in
      record {
        found = made.found;
        counts_are = made.counts_are;
        set_is = λ more. ap (λ all. set.Tags all) (tags-more rows searches made.found more made.is.many ∙ made.is.tags_are ∙ sym made.tags_are);
        behind_is = λ more. drop-behind made.found more (length searches) made.is.many;
        allowed = λ more. allowed-more rows searches made.found more made.is.allowed;
      }

  pub range_term : (field : ℕ) (payload : FindRange) (tags : List (List ℕ)) → SearchesMade rows (term_searches (t.Range field payload)) counts [] new tags
      → TermMade rows (t.Range field payload) counts new (set.Tags tags)
  range_term field payload tags made =
      let searches = term_searches (t.Range field payload) in
      record {
        found = made.found;
        counts_are = made.counts_are;
        set_is = λ more. ap (λ all. set.Tags all) (tags-more rows searches made.found more made.is.many ∙ made.is.tags_are ∙ sym made.tags_are);
        behind_is = λ more. drop-behind made.found more (length searches) made.is.many;
        allowed = λ more. allowed-more rows searches made.found more made.is.allowed;
      }

sets-append : (rows : Rows) (xs ys : List SentTerm) (counts : List Count)
    → filter_sets rows (xs ++ ys) counts ≡ filter_sets rows xs counts ++ filter_sets rows ys (filter_rest xs counts)
sets-append rows [] ys counts = refl
sets-append rows (x ∷ xs) ys counts = ap (λ sets. set_of rows x counts ∷ sets) (sets-append rows xs ys (behind x counts))

rest-append : (xs ys : List SentTerm) (counts : List Count) → filter_rest (xs ++ ys) counts ≡ filter_rest ys (filter_rest xs counts)
rest-append [] ys counts = refl
rest-append (x ∷ xs) ys counts = rest-append xs ys (behind x counts)

terms-append : (rows : Rows) (xs ys : List SentTerm) (counts : List Count) → AllowedTerms rows xs counts → AllowedTerms rows ys (filter_rest xs counts)
    → AllowedTerms rows (xs ++ ys) counts
terms-append rows [] ys counts first second = second
terms-append rows (x ∷ xs) ys counts first second = (first.0, terms-append rows xs ys (behind x counts) first.1 second)

module _ (rows : Rows) (counts : List Count) where
  pub terms_begin : (sets : List TermSet) → sets ≡ [] → TermsMade rows [] counts counts sets
  terms_begin sets none = record {
    found = [];
    counts_are = sym (append-nil counts);
    sets_are = λ more. sym none;
    rest_is = λ more. refl;
    allowed = λ more. tt;
  }

  pub terms_more : (terms : List SentTerm) (term : SentTerm) (mid new : List Count) (sets more_sets : List TermSet) (one : TermSet)
      → TermsMade rows terms counts mid sets → TermMade rows term mid new one → more_sets ≡ sets ++ one ∷ []
      → TermsMade rows (terms ++ term ∷ []) counts new more_sets
  terms_more terms term mid new sets more_sets one a b is =
      let assoc : (more : List Count) → (a.found ++ b.found) ++ more ≡ a.found ++ (b.found ++ more) = append_assoc a.found b.found in
      let rest : (more : List Count) → filter_rest terms ((a.found ++ b.found) ++ more) ≡ b.found ++ more =
      λ more. ap (filter_rest terms) (assoc more) ∙ a.rest_is (b.found ++ more) in
      record {
        found = a.found ++ b.found;
        counts_are = b.counts_are ∙ ap (λ front. front ++ b.found) a.counts_are ∙ append_assoc counts a.found b.found;
        sets_are = λ more.
            sets-append rows terms (term ∷ []) ((a.found ++ b.found) ++ more)
            ∙ ap₂ (λ front counts. front ++ set_of rows term counts ∷ []) (ap (filter_sets rows terms) (assoc more) ∙ a.sets_are (b.found ++ more)) (rest more)
            ∙ ap (λ last. sets ++ last ∷ []) (b.set_is more) ∙ sym is;
        rest_is = λ more. rest-append terms (term ∷ []) ((a.found ++ b.found) ++ more) ∙ ap (behind term) (rest more) ∙ b.behind_is more;
        allowed = λ more.
            terms-append rows terms (term ∷ []) ((a.found ++ b.found) ++ more)
            (subst (AllowedTerms rows terms) (sym (assoc more)) (a.allowed (b.found ++ more)))
            (subst (AllowedTerms rows (term ∷ [])) (sym (rest more)) (b.allowed more, tt));
      }
