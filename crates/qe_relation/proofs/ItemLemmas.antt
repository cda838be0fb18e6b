-- The relation is kept where the items of a value are indexed, and their tags are their words'.
use Rattle.std.proofs.Common.{◌≡◌, ℕ, ◌+◌, List, [], ◌∷◌, ◌++◌, Option, None, Some, refl, sym, ap, ◌∙◌, subst, arith}
use Rattle.std.specs.Prelude.{unwrap_or, drop}
use Rattle.std.specs.FinMap.{get, insert}
use Rattle.qe_base.specs.declared.maintenance.Count.{Count}
use Rattle.qe_tokens.specs.Labels.{row_token}
use Rattle.qe_tokens.specs.Tokens.{document_tag_of, edc_twice_of}
use Rattle.qe_tokens.specs.declared.words.Word.{Word}
use Rattle.qe_tokens.specs.declared.words.Word.TheVariants.{Item}
use Rattle.qe_esc.specs.Rows.{Rows}
use Rattle.qe_esc.specs.Changes.{with_row}
use Rattle.qe_esc.specs.Identifiers.{id_of}
use Rattle.qe_esc.specs.declared.key.RowKind.TheVariants.{Position}
use Rattle.qe_esc.proofs.ChangesLemmas.{with_row-new}
use Rattle.qe_ecoc.specs.declared.rows.Entry.{Entry}
use Rattle.qe_parts.specs.declared.edges.EdgeTokens.{EdgeTokens}
use Rattle.qe_protocol.specs.State.{Index}
use Rattle.qe_protocol.specs.Counting.{IsCounted, next_number}
use Rattle.qe_protocol.specs.Indexing.{indexed, index_items, AllowedItems}
use Rattle.qe_protocol.specs.Laws.{item_tags}
use Rattle.qe_labels.specs.Numbers.{Numbers, learned, raised, all_raised, Later}
use Rattle.qe_labels.specs.Tags.{IsTagOf, AreTagsOf, words_under}
use Rattle.qe_labels.specs.Laws.{IsFree}
use Rattle.qe_labels.proofs.OrderLemmas.{number_same}
use Rattle.qe_labels.proofs.NumberLemmas.{known_learned, later_raised, later_all_raised, free_before}
use Rattle.qe_relation.specs.Stands.{IsRowOf, IndexStands}
use Rattle.qe_relation.specs.Items.{IsItemOf, AreItemsOf}
use Rattle.qe_relation.proofs.FreeLemmas.{count_is, next_is}
use Rattle.qe_relation.proofs.IndexLemmas.{learned_stands, index_one, is_new, raised_is}

pub tag_later : (root : ℕ → List ℕ) (before after : Numbers) → Later before after → (word : Word) (tag : List ℕ) → IsTagOf root before word tag → IsTagOf root after word tag
tag_later root before after later word tag t =
    let there = later.at word t.n t.known in
    record { n = there.0; known = there.1; i = t.i; low = t.low; high = omega (arith, t.high, there.2); is = t.is }

module _ (root : ℕ → List ℕ) (aside : List Entry) (captured doomed : List (List ℕ)) where
  abbrev Stands : Numbers → Index → Type 0
  Stands numbers index = IndexStands root numbers index.rows index.ecoc aside captured doomed

  -- one item
  module _ (field factor : ℕ) (x : List ℕ) (item : EdgeTokens) (is : IsItemOf root (Item field x factor) field item) (numbers : Numbers) (index : Index)
      (count : Count) (counts : IsCounted index.rows item.s count) (free : IsFree root (raised numbers (Item field x factor))) (stand : Stands numbers index) where
    abbrev word : Word
    word = Item field x factor

    abbrev n : ℕ
    n = (known_learned numbers word).0

    known : get (learned numbers word) word ≡ Some n
    known = (known_learned numbers word).1

    raised_so : raised numbers word ≡ insert (learned numbers word) word (n + 1)
    raised_so = raised_is numbers word n known

    later : Later (learned numbers word) (raised numbers word)
    later = subst (Later (learned numbers word))
        (ap (λ (o : Option ℕ). insert (learned numbers word) word (unwrap_or o 0 + 1)) known ∙ sym raised_so) (later_raised (learned numbers word) word)

    free_first : IsFree root (learned numbers word)
    free_first = free_before root (learned numbers word) (raised numbers word) later free

    stand_first : Stands (learned numbers word) index
    stand_first = learned_stands root index.rows index.ecoc aside captured doomed numbers word free_first stand

    searched : count.token ≡ row_token root word
    searched = counts.searched ∙ is.rows

    next : next_number index.rows count ≡ n + 1
    next = next_is root (learned numbers word) free_first index.rows stand_first.rows_stand word n known count searched counts.is_true

    -- no other count is true
    pub item_one : (other : Count) → IsCounted index.rows item.s other → other ≡ count
    item_one other others =
        count_is root (learned numbers word) free_first index.rows stand_first.rows_stand word n known other (others.searched ∙ is.rows) others.is_true
        ∙ sym (count_is root (learned numbers word) free_first index.rows stand_first.rows_stand word n known count searched counts.is_true)

    place : id_of Position count.token (next_number index.rows count) ≡ id_of Position (row_token root word) (n + 1)
    place = λ i. id_of Position (searched i) (next i)

    rows_so : with_row index.rows (id_of Position count.token (next_number index.rows count)) None ≡ insert index.rows (id_of Position (row_token root word) (n + 1)) None
    rows_so =
        ap (λ id. with_row index.rows id None) place
        ∙ sym (with_row-new index.rows (id_of Position (row_token root word) (n + 1)) None (is_new root (learned numbers word) word n known free_first index.rows stand_first.rows_stand))

    row_so : IsRowOf root word (record { field = field; value = item.p })
    row_so = record { field = refl; opens = is.opens }

    pub item_kept : Stands (raised numbers word) (indexed field index count item)
    item_kept =
        subst (λ (p : Numbers × Rows). IndexStands root p.0 p.1 (index.ecoc ++ record { field = field; value = item.p } ∷ []) aside captured doomed)
        (λ i. (sym raised_so i, sym rows_so i))
        (index_one root (learned numbers word) word n known free_first index.rows stand_first.rows_stand index.ecoc aside captured doomed (record { field = field; value = item.p }) row_so stand_first)

    pub item_tagged : IsTagOf root (raised numbers word) word (document_tag_of (edc_twice_of item.d) (next_number index.rows count))
    item_tagged = record {
      n = n + 1;
      known = ap (λ m. get m word) raised_so ∙ number_same (learned numbers word) word (n + 1);
      i = n + 1;
      low = omega arith;
      high = omega arith;
      is = λ i. document_tag_of (edc_twice_of (is.tags i)) (next i);
    }

  -- one after another
  module _ (field factor : ℕ) where
    pub items_kept : (xs : List (List ℕ)) (items : List EdgeTokens) (counts : List Count) (nonces : List (List ℕ)) (numbers : Numbers) (index : Index)
        → AreItemsOf root field factor xs items → AllowedItems field index items counts → IsFree root (all_raised numbers (words_under field factor xs)) → Stands numbers index
        → Stands (all_raised numbers (words_under field factor xs)) (index_items field factor index items nonces counts).index
    items_kept [] [] counts nonces numbers index are allowed free stand = stand
    items_kept [] (item ∷ items) counts nonces numbers index are allowed free stand = absurd are
    items_kept (x ∷ xs) [] counts nonces numbers index are allowed free stand = absurd are
    items_kept (x ∷ xs) (item ∷ items) [] nonces numbers index are allowed free stand = absurd allowed
    items_kept (x ∷ xs) (item ∷ items) (count ∷ counts) nonces numbers index are allowed free stand =
        let first = raised numbers (Item field x factor) in
        let free_first = free_before root first (all_raised first (words_under field factor xs)) (later_all_raised (words_under field factor xs) first) free in
        items_kept xs items counts (drop 2 nonces) first (indexed field index count item) are.1 allowed.1 free
        (item_kept field factor x item are.0 numbers index count allowed.0 free_first stand)

    pub items_tagged : (xs : List (List ℕ)) (items : List EdgeTokens) (counts : List Count) (numbers : Numbers) (index : Index)
        → AreItemsOf root field factor xs items → AllowedItems field index items counts → IsFree root (all_raised numbers (words_under field factor xs)) → Stands numbers index
        → AreTagsOf root (all_raised numbers (words_under field factor xs)) (words_under field factor xs) (item_tags field index items counts)
    items_tagged [] [] counts numbers index are allowed free stand = tt
    items_tagged [] (item ∷ items) counts numbers index are allowed free stand = absurd are
    items_tagged (x ∷ xs) [] counts numbers index are allowed free stand = absurd are
    items_tagged (x ∷ xs) (item ∷ items) [] numbers index are allowed free stand = absurd allowed
    items_tagged (x ∷ xs) (item ∷ items) (count ∷ counts) numbers index are allowed free stand =
        let first = raised numbers (Item field x factor) in
        let words = words_under field factor xs in
        let free_first = free_before root first (all_raised first words) (later_all_raised words first) free in (
          tag_later root first (all_raised first words) (later_all_raised words first) (Item field x factor) (document_tag_of (edc_twice_of item.d) (next_number index.rows count))
              (item_tagged field factor x item are.0 numbers index count allowed.0 free_first stand),
          items_tagged xs items counts first (indexed field index count item) are.1 allowed.1 free
              (item_kept field factor x item are.0 numbers index count allowed.0 free_first stand),
        )
