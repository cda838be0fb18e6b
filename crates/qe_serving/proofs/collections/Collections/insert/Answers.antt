use Rattle.std.proofs.Common.{◌≡◌, [], ◌∷◌, ◌++◌, false, sym, subst, ap, ◌∙◌}
use Rattle.std.proofs.lemmas.List.{map-append}
use Rattle.qe_command.specs.declared.command.Command.TheVariants.{Insert}
use Rattle.qe_protocol.specs.State.{State, Index}
use Rattle.qe_protocol.specs.Documents.{has_document}
use Rattle.qe_protocol.specs.Next.{with_docs}
use Rattle.qe_indexing.specs.Plans.{index_of, planned}
use Rattle.qe_indexing.proofs.PlanLemmas.{planned-none}
use Rattle.qe_serving.specs.Serving.{state_in, docs_in, IsServed}
use Rattle.qe_serving.proofs.IdLemmas.{has_document-is}
use Rattle.qe_serving.proofs.ServedLemmas.{duplicate_served, inserted_served}
use Rattle.qe_serving.proofs.collections.Collections.insert.Goals as goal

pub returns-then-is_some-clause-ok : goal.returns-then-is_some-clause-ok
returns-then-is_some-clause-ok c =
    let state = state_in c.args.self.now in
    let id = c.args.id.now in
    let cells = c.args.cells.now in
    let nonces = c.args.nonces.now in
    let there = has_document-is id c.requires.id c.args.self.now.store.documents c.number_of.result c.number_of.ensures.exact ∙ sym c.is_some.ensures ∙ c.if-is_some.true in
    subst (IsServed state state (Insert id cells) nonces) (sym c.replied.ensures) (duplicate_served state id cells nonces there)

pub returns-clause-ok : goal.returns-clause-ok
returns-clause-ok c =
    let old = c.args.self.now in
    let state = state_in old in
    let id = c.args.id.now in
    let cells = c.args.cells.now in
    let nonces = c.args.nonces.now in
    let start = c.new-plan.result in
    let plan = c.plan_document.new.plan in
    let stored = c.in_ok-stored.stored in
    let made = c.in_ok-stored.ensures in
    let none : has_document id state.docs ≡ false =
    has_document-is id c.requires.id old.store.documents c.number_of.result c.number_of.ensures.exact ∙ sym c.is_some.ensures ∙ c.if-is_some.false in
    let new : State = record { docs = docs_in c.insert.new.self.documents; index = index_of c.carry_out.new.esc c.carry_out.new.ecoc; jobs = old.upkeep; current = old.current.items } in
    let number = c.reserve.new.self.made in
    let docs : new.docs ≡ state.docs ++ stored ∷ [] =
    ap docs_in (c.insert.ensures.documents ∙ ap (λ all. all ++ (number, stored) ∷ []) c.reserve.ensures.documents)
    ∙ map-append (λ d. d.1) old.store.documents ((number, stored) ∷ []) in
    let index : new.index ≡ planned state.index plan = c.carry_out.ensures ∙ ap (λ (index : Index). planned index plan) c.make_room.ensures.index in
    let new_is : new ≡ with_docs state (planned state.index plan) (state.docs ++ stored ∷ []) =
    λ i. record { docs = docs i; index = index i; jobs = old.upkeep; current = old.current.items } in
    subst (IsServed state new (Insert id cells) nonces) (sym c.searched.ensures)
    (inserted_served state new id cells nonces start plan stored (planned-none state.index start c.new-plan.ensures.changes c.new-plan.ensures.entries)
    (c.new-plan.ensures.counts ∙ c.new.ensures) none made.0 made.1 new_is)
