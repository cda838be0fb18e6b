-- What a filter's search, an update and a delete come to, by the first document that matches.
use Rattle.std.proofs.Common.{◌≡◌, ℕ, List, [], Bool, true, false, Option, None, Some, is_some, Result, Ok, Err, IfOk, map, sym, ◌∙◌, ap, subst}
use Rattle.std.specs.Prelude.{slice_get}
use Rattle.std.specs.List.{AllByRecursion}
use Rattle.qe_base.specs.declared.maintenance.Count.{Count}
use Rattle.qe_store.specs.declared.stored.Stored.{Stored}
use Rattle.qe_store.specs.declared.stored.TermSet.{TermSet}
use Rattle.qe_value.specs.declared.value.Plain.{Plain}
use Rattle.qe_value.specs.Views.{plain}
use Rattle.qe_store.specs.Kept.{document_at, without, with_new}
use Rattle.qe_command.specs.declared.cells.SentCell.{SentCell}
use Rattle.qe_command.specs.declared.command.Command.TheVariants as c
use Rattle.qe_command.specs.declared.filter.SentTerm.{SentTerm}
use Rattle.qe_command_fits.specs.Sizes.{IsSizedTerm}
use Rattle.qe_protocol.specs.declared.reply.Reply.TheVariants as r
use Rattle.qe_protocol.specs.Filters.{matches}
use Rattle.qe_protocol.specs.Documents.{with_cells}
use Rattle.qe_protocol.specs.declared.row.Row.{Row}
use Rattle.qe_protocol.specs.Next.{with_docs, row_of}
use Rattle.qe_indexing.specs.Plans.{planned}
use Rattle.qe_indexing.specs.Searches.{TermsMade}
use Rattle.qe_serving.specs.declared.collections.Collections.{Collections}
use Rattle.qe_serving.specs.declared.made.Made.{Made}
use Rattle.qe_serving.specs.Serving.{docs_in, state_in, IsServed}
use Rattle.qe_serving.specs.Documents.{picked, AreMatches, FirstOf, FirstMatch, HasIdValue, IsSearched, Replaces}
use Rattle.qe_serving.proofs.SizeLemmas.{sets_have_ids}
use Rattle.qe_serving.proofs.MatchLemmas.{both_ok}
use Rattle.qe_serving.proofs.ServedLemmas.{found_served, ids_served, one_updated, none_updated, one_deleted, none_deleted}

module _ (kept : Collections) (terms : List SentTerm) (start counts : List Count) (sets : List TermSet)
    (made : TermsMade kept.esc.rows terms start counts sets) where
  pub searched_ids : AllByRecursion IsSizedTerm terms → AllByRecursion HasIdValue sets
  searched_ids sized = subst (AllByRecursion HasIdValue) (made.sets_are []) (sets_have_ids kept.esc.rows terms _ sized)

  pub searched_ok : {E : Type 0} (answer : Result (List ℕ) E) → IfOk answer (AreMatches kept.store.documents sets)
      → IfOk answer (λ numbers. FirstMatch kept.store.documents sets (slice_get numbers 0)) → IfOk answer (IsSearched kept terms start counts)
  searched_ok answer all first =
      both_ok (AreMatches kept.store.documents sets) (λ numbers. FirstMatch kept.store.documents sets (slice_get numbers 0)) (IsSearched kept terms start counts)
      (λ numbers are one. record { sets = sets; made = made; matching = are; first = one }) answer all first

same_some : {A : Type 0} (x y : A) → Some x ≡ Some y → x ≡ y
same_some x y e = cc

module _ (kept after : Collections) (terms : List SentTerm) (start counts : List Count) (numbers : List ℕ) (no_counts : start ≡ [])
    (searched : IsSearched kept terms start counts numbers) where
  abbrev test : Stored → Bool
  test = matches searched.sets

  first_is : (first : Option ℕ) → slice_get numbers 0 ≡ first → FirstOf test kept.store.documents first
  first_is first is = subst (FirstOf test kept.store.documents) is searched.first

  pub update_served : (number : ℕ) (cells : List (ℕ × SentCell)) (nonces : List (List ℕ)) (out : Made) → slice_get numbers 0 ≡ Some number
      → Replaces kept after number cells nonces counts out → IsServed (state_in kept) (state_in after) (c.Update terms cells) nonces out
  update_served number cells nonces out is does =
      let first = first_is (Some number) is in
      let document : does.document ≡ first.document = same_some does.document first.document (sym does.there ∙ first.there) in
      let documents = kept.store.documents in
      subst (IsServed (state_in kept) (state_in after) (c.Update terms cells) nonces) (sym does.made_is)
      (one_updated (state_in kept) terms start counts searched.sets no_counts searched.made (state_in after) cells nonces does.start does.plan does.put
      does.starts does.behind does.plans first.some
      (does.state
      ∙ ap (with_docs (state_in kept) (planned (state_in kept).index does.plan))
      (ap (λ one. docs_in (with_new number (with_cells does.put one) documents)) document ∙ first.changed (with_cells does.put))))

  pub update_none : (cells : List (ℕ × SentCell)) (nonces : List (List ℕ)) → slice_get numbers 0 ≡ None
      → IsServed (state_in kept) (state_in kept) (c.Update terms cells) nonces (record { reply = r.Updated 0; counts = counts; opened = [] })
  update_none cells nonces is =
      none_updated (state_in kept) terms start counts searched.sets no_counts searched.made cells nonces (first_is None is)

  pub delete_served : (number : ℕ) (nonces : List (List ℕ)) → slice_get numbers 0 ≡ Some number
      → after.store.documents ≡ without number kept.store.documents → state_in after ≡ with_docs (state_in kept) (state_in kept).index (docs_in after.store.documents)
      → IsServed (state_in kept) (state_in after) (c.Delete terms) nonces (record { reply = r.Deleted 1; counts = counts; opened = [] })
  delete_served number nonces is documents state =
      let first = first_is (Some number) is in
      one_deleted (state_in kept) terms start counts searched.sets no_counts searched.made (state_in after) nonces first.some
      (state ∙ ap (with_docs (state_in kept) (state_in kept).index) (ap docs_in documents ∙ first.dropped))

  pub delete_none : (nonces : List (List ℕ)) → slice_get numbers 0 ≡ None
      → IsServed (state_in kept) (state_in kept) (c.Delete terms) nonces (record { reply = r.Deleted 0; counts = counts; opened = [] })
  delete_none nonces is = none_deleted (state_in kept) terms start counts searched.sets no_counts searched.made nonces (first_is None is)

  -- there is a document of the number
  pub first_there : (number : ℕ) → slice_get numbers 0 ≡ Some number → is_some (document_at number kept.store.documents) ≡ true
  first_there number is = ap (λ found. is_some found) (first_is (Some number) is).there

  pub update_ok : {E : Type 0} (number : ℕ) (cells : List (ℕ × SentCell)) (nonces : List (List ℕ)) → slice_get numbers 0 ≡ Some number
      → (answer : Result Made E) → IfOk answer (Replaces kept after number cells nonces counts)
      → IfOk answer (IsServed (state_in kept) (state_in after) (c.Update terms cells) nonces)
  update_ok number cells nonces is (Ok out) does = update_served number cells nonces out is does
  update_ok number cells nonces is (Err fault) does = tt

-- FIND

module _ (kept : Collections) (terms : List SentTerm) (start counts : List Count) (numbers : List ℕ) (no_counts : start ≡ [])
    (searched : IsSearched kept terms start counts numbers) (ids : Bool) where
  pub find_ids : ids ≡ true → (nonces : List (List ℕ)) (answer : List Plain) (shown : List ℕ) → shown ≡ numbers
      → answer ≡ map (λ stored. plain stored.id) (picked kept.store.documents shown) → (out : Made) → out ≡ record { reply = r.Ids answer; counts = counts; opened = [] }
      → IsServed (state_in kept) (state_in kept) (c.Find terms ids) nonces out
  find_ids wanted nonces answer shown same are out is =
      let documents = kept.store.documents in
      let all : answer ≡ map (λ stored. plain stored.id) (picked documents numbers) =
      are ∙ ap (λ shown. map (λ stored. plain stored.id) (picked documents shown)) same in
      let made : out ≡ record { reply = r.Ids (map (λ stored. plain stored.id) (picked documents numbers)); counts = counts; opened = [] } =
      is ∙ (λ i. record { reply = r.Ids (all i); counts = counts; opened = [] }) in
      subst (λ ids. IsServed (state_in kept) (state_in kept) (c.Find terms ids) nonces out) (sym wanted)
      (subst (IsServed (state_in kept) (state_in kept) (c.Find terms true) nonces) (sym made)
      (ids_served (state_in kept) terms start counts searched.sets no_counts searched.made nonces (picked documents numbers) searched.matching))

  pub find_rows : ids ≡ false → (nonces : List (List ℕ)) (answer : List Row) (shown : List ℕ) → shown ≡ numbers
      → answer ≡ map row_of (picked kept.store.documents shown) → (out : Made) → out ≡ record { reply = r.Found answer; counts = counts; opened = [] }
      → IsServed (state_in kept) (state_in kept) (c.Find terms ids) nonces out
  find_rows whole nonces answer shown same are out is =
      let documents = kept.store.documents in
      let all : answer ≡ map row_of (picked documents numbers) = are ∙ ap (λ shown. map row_of (picked documents shown)) same in
      let made : out ≡ record { reply = r.Found (map row_of (picked documents numbers)); counts = counts; opened = [] } =
      is ∙ (λ i. record { reply = r.Found (all i); counts = counts; opened = [] }) in
      subst (λ ids. IsServed (state_in kept) (state_in kept) (c.Find terms ids) nonces out) (sym whole)
      (subst (IsServed (state_in kept) (state_in kept) (c.Find terms false) nonces) (sym made)
      (found_served (state_in kept) terms start counts searched.sets no_counts searched.made nonces (picked documents numbers) searched.matching))
