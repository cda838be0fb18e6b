-- What the parts of a call come to, by the definitions.
use Rattle.std.proofs.Common.{◌≡◌, ℕ, true, false, cond, List, [], ◌∷◌, ◌++◌, map, filter, refl, sym, ◌∙◌, ap, ap₂, subst, append-nil}
use Rattle.std.specs.Bool.{MatchBool}
use Rattle.std.specs.List.{list_any}
use Rattle.qe_base.specs.declared.maintenance.Count.{Count}
use Rattle.qe_value.specs.declared.value.Value.{Value}
use Rattle.qe_value.specs.Views.{plain}
use Rattle.qe_store.specs.declared.stored.Cell.{Cell}
use Rattle.qe_store.specs.declared.stored.Stored.{Stored}
use Rattle.qe_store.specs.declared.stored.TermSet.{TermSet}
use Rattle.qe_command.specs.declared.cells.SentCell.{SentCell}
use Rattle.qe_command.specs.declared.command.Command.TheVariants as c
use Rattle.qe_command.specs.declared.filter.SentTerm.{SentTerm}
use Rattle.qe_protocol.specs.declared.reply.Reply.TheVariants as r
use Rattle.qe_protocol.specs.State.{State, Done, answered}
use Rattle.qe_protocol.specs.Indexing.{index_cells, AllowedCells}
use Rattle.qe_protocol.specs.Filters.{filter_sets, filter_rest, matches, AllowedTerms}
use Rattle.qe_protocol.specs.Documents.{document_of, has_document, with_cells, change_first, drop_first}
use Rattle.qe_protocol.specs.Next.{with_docs, inserted, insert_step, row_of, updated, deleted, sets_for}
use Rattle.qe_indexing.specs.declared.plan.Plan.{Plan}
use Rattle.qe_indexing.specs.Plans.{planned}
use Rattle.qe_indexing.specs.Cells.{CellsPlanned}
use Rattle.qe_indexing.specs.Searches.{TermsMade}
use Rattle.qe_serving.specs.Serving.{IsServed}

-- INSERT

-- no search was made
abbrev IsQuiet : List Count → Type 0
IsQuiet counts = counts ≡ []

pub duplicate_served : (state : State) (id : Value) (cells : List (ℕ × SentCell)) (nonces : List (List ℕ)) → has_document id state.docs ≡ true
    → IsServed state state (c.Insert id cells) nonces (record { reply = r.DuplicateId; counts = []; opened = [] })
duplicate_served state id cells nonces there = record {
  allowed = subst (λ b. MatchBool b (IsQuiet []) (AllowedCells state.index cells nonces [])) (sym there) refl;
  does = ap (λ b. cond b (answered state r.DuplicateId) (inserted state id (index_cells state.index cells nonces []))) there;
}

module _ (old new : State) (id : Value) (cells : List (ℕ × SentCell)) (nonces : List (List ℕ)) (start plan : Plan) (stored : Stored)
    (starts : planned old.index start ≡ old.index) (no_counts : start.counts ≡ []) (none : has_document id old.docs ≡ false)
    (plans : CellsPlanned old.index cells nonces start plan stored.cells) (is : stored ≡ document_of id stored.cells)
    (new_is : new ≡ with_docs old (planned old.index plan) (old.docs ++ stored ∷ [])) where
  counts_are : plan.counts ≡ plans.searched
  counts_are = plans.counts ∙ ap (λ counts. counts ++ plans.searched) no_counts

  indexed : index_cells old.index cells nonces plans.searched ≡ record { index = planned old.index plan; cells = stored.cells; rest = [] }
  indexed = ap (λ index. index_cells index cells nonces plans.searched) (sym starts) ∙ plans.does

  pub inserted_served : IsServed old new (c.Insert id cells) nonces (record { reply = r.Inserted; counts = plan.counts; opened = [] })
  inserted_served = record {
    allowed = subst (λ counts. MatchBool (has_document id old.docs) (counts ≡ []) (AllowedCells old.index cells nonces counts)) (sym counts_are)
        (subst (λ b. MatchBool b (plans.searched ≡ []) (AllowedCells old.index cells nonces plans.searched)) (sym none)
        (subst (λ index. AllowedCells index cells nonces plans.searched) starts plans.allowed));
    does =
        ap (insert_step old id cells nonces) counts_are
        ∙ ap (λ b. cond b (answered old r.DuplicateId) (inserted old id (index_cells old.index cells nonces plans.searched))) none
        ∙ ap (inserted old id) indexed
        ∙ ap (λ one. answered (with_docs old (planned old.index plan) (old.docs ++ one ∷ [])) r.Inserted) (sym is)
        ∙ ap (λ state. answered state r.Inserted) (sym new_is);
  }

-- FILTERS

module _ (old : State) (terms : List SentTerm) (start counts : List Count) (sets : List TermSet) (no_counts : start ≡ [])
    (made : TermsMade old.index.rows terms start counts sets) where
  found_are : counts ≡ made.found ++ []
  found_are = made.counts_are ∙ ap (λ front. front ++ made.found) no_counts ∙ sym (append-nil made.found)

  sets_are : sets_for old terms counts ≡ sets
  sets_are = ap (filter_sets old.index.rows terms) found_are ∙ made.sets_are []

  rest_is : filter_rest terms counts ≡ []
  rest_is = ap (filter_rest terms) found_are ∙ made.rest_is []

  allowed_are : AllowedTerms old.index.rows terms counts
  allowed_are = subst (AllowedTerms old.index.rows terms) (sym found_are) (made.allowed [])

  pub found_served : (nonces : List (List ℕ)) (rows : List Stored) → rows ≡ filter (matches sets) old.docs
      → IsServed old old (c.Find terms false) nonces (record { reply = r.Found (map row_of rows); counts = counts; opened = [] })
  found_served nonces rows are = record {
    allowed = (allowed_are, rest_is);
    does = ap (λ all. answered old (r.Found (map row_of (filter (matches all) old.docs)))) sets_are ∙ ap (λ all. answered old (r.Found (map row_of all))) (sym are);
  }

  pub ids_served : (nonces : List (List ℕ)) (rows : List Stored) → rows ≡ filter (matches sets) old.docs
      → IsServed old old (c.Find terms true) nonces (record { reply = r.Ids (map (λ stored. plain stored.id) rows); counts = counts; opened = [] })
  ids_served nonces rows are = record {
    allowed = (allowed_are, rest_is);
    does =
        ap (λ all. answered old (r.Ids (map (λ stored. plain stored.id) (filter (matches all) old.docs)))) sets_are
        ∙ ap (λ all. answered old (r.Ids (map (λ stored. plain stored.id) all))) (sym are);
  }

  pub none_deleted : (nonces : List (List ℕ)) → list_any (matches sets) old.docs ≡ false
      → IsServed old old (c.Delete terms) nonces (record { reply = r.Deleted 0; counts = counts; opened = [] })
  none_deleted nonces none = record {
    allowed = (allowed_are, rest_is);
    does =
        ap (λ all. cond (list_any (matches all) old.docs) (deleted old all) (answered old (r.Deleted 0))) sets_are
        ∙ ap (λ b. cond b (deleted old sets) (answered old (r.Deleted 0))) none;
  }

  pub one_deleted : (new : State) (nonces : List (List ℕ)) → list_any (matches sets) old.docs ≡ true
      → new ≡ with_docs old old.index (drop_first (matches sets) old.docs)
      → IsServed old new (c.Delete terms) nonces (record { reply = r.Deleted 1; counts = counts; opened = [] })
  one_deleted new nonces some new_is = record {
    allowed = (allowed_are, rest_is);
    does =
        ap (λ all. cond (list_any (matches all) old.docs) (deleted old all) (answered old (r.Deleted 0))) sets_are
        ∙ ap (λ b. cond b (deleted old sets) (answered old (r.Deleted 0))) some
        ∙ ap (λ state. answered state (r.Deleted 1)) (sym new_is);
  }

  abbrev step_of : List (ℕ × SentCell) → List (List ℕ) → List TermSet → List Count → Done
  step_of cells nonces all rest =
      cond (list_any (matches all) old.docs) (updated old all (index_cells old.index cells nonces rest)) (answered old (r.Updated 0))

  pub none_updated : (cells : List (ℕ × SentCell)) (nonces : List (List ℕ)) → list_any (matches sets) old.docs ≡ false
      → IsServed old old (c.Update terms cells) nonces (record { reply = r.Updated 0; counts = counts; opened = [] })
  none_updated cells nonces none = record {
    allowed = (
      allowed_are,
      subst (λ all. MatchBool (list_any (matches all) old.docs) (AllowedCells old.index cells nonces (filter_rest terms counts)) (filter_rest terms counts ≡ [])) (sym sets_are)
          (subst (λ b. MatchBool b (AllowedCells old.index cells nonces (filter_rest terms counts)) (filter_rest terms counts ≡ [])) (sym none) rest_is),
    );
    does =
        ap (λ all. step_of cells nonces all (filter_rest terms counts)) sets_are
        ∙ ap (λ b. cond b (updated old sets (index_cells old.index cells nonces (filter_rest terms counts))) (answered old (r.Updated 0))) none;
  }

  -- the values are indexed behind the filter's searches
  module _ (new : State) (cells : List (ℕ × SentCell)) (nonces : List (List ℕ)) (first plan : Plan) (put : List (ℕ × Cell)) (starts : planned old.index first ≡ old.index)
      (behind : first.counts ≡ counts) (plans : CellsPlanned old.index cells nonces first plan put) (some : list_any (matches sets) old.docs ≡ true)
      (new_is : new ≡ with_docs old (planned old.index plan) (change_first (matches sets) (with_cells put) old.docs)) where
    all_are : plan.counts ≡ made.found ++ plans.searched
    all_are = plans.counts ∙ ap (λ front. front ++ plans.searched) (behind ∙ made.counts_are ∙ ap (λ front. front ++ made.found) no_counts)

    all_sets : sets_for old terms plan.counts ≡ sets
    all_sets = ap (filter_sets old.index.rows terms) all_are ∙ made.sets_are plans.searched

    all_rest : filter_rest terms plan.counts ≡ plans.searched
    all_rest = ap (filter_rest terms) all_are ∙ made.rest_is plans.searched

    indexed_put : index_cells old.index cells nonces plans.searched ≡ record { index = planned old.index plan; cells = put; rest = [] }
    indexed_put = ap (λ index. index_cells index cells nonces plans.searched) (sym starts) ∙ plans.does

    pub one_updated : IsServed old new (c.Update terms cells) nonces (record { reply = r.Updated 1; counts = plan.counts; opened = [] })
    one_updated = record {
      allowed = (
        subst (AllowedTerms old.index.rows terms) (sym all_are) (made.allowed plans.searched),
        subst (λ all. MatchBool (list_any (matches all) old.docs) (AllowedCells old.index cells nonces (filter_rest terms plan.counts)) (filter_rest terms plan.counts ≡ [])) (sym all_sets)
            (subst (λ b. MatchBool b (AllowedCells old.index cells nonces (filter_rest terms plan.counts)) (filter_rest terms plan.counts ≡ [])) (sym some)
            (subst (AllowedCells old.index cells nonces) (sym all_rest) (subst (λ index. AllowedCells index cells nonces plans.searched) starts plans.allowed))),
      );
      does =
          ap₂ (step_of cells nonces) all_sets all_rest
          ∙ ap (λ b. cond b (updated old sets (index_cells old.index cells nonces plans.searched)) (answered old (r.Updated 0))) some
          ∙ ap (updated old sets) indexed_put
          ∙ ap (λ state. answered state (r.Updated 1)) (sym new_is);
    }
