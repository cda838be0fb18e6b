use Rattle.std.proofs.Common.{◌≡◌, ap, ap₂, ◌∙◌}
use Rattle.qe_store.specs.Kept.{with_new}
use Rattle.qe_protocol.specs.State.{Index}
use Rattle.qe_protocol.specs.Documents.{with_cells}
use Rattle.qe_indexing.specs.Plans.{index_of, planned}
use Rattle.qe_indexing.proofs.PlanLemmas.{planned-none}
use Rattle.qe_serving.specs.Serving.{state_in, docs_in}
use Rattle.qe_serving.proofs.collections.Collections.replace.Goals as goal

pub returns-clause-ok : goal.returns-clause-ok
returns-clause-ok c =
    let old = c.args.self.now in
    let start = c.new-plan.result in
    let plan = c.plan_update.new.plan in
    let made = c.in_ok-stored.ensures in
    let docs : docs_in c.replace.new.self.documents ≡ docs_in (with_new c.args.number (with_cells made.put made.document) old.store.documents) =
    ap docs_in (c.replace.ensures.documents ∙ ap₂ (with_new c.args.number) made.is c.reserve.ensures.documents) in
    let index : index_of c.carry_out.new.esc c.carry_out.new.ecoc ≡ planned (state_in old).index plan =
    c.carry_out.ensures ∙ ap (λ (index : Index). planned index plan) c.make_room.ensures.index in
    record {
      start = start;
      plan = plan;
      starts = planned-none (state_in old).index start c.new-plan.ensures.changes c.new-plan.ensures.entries;
      behind = c.new-plan.ensures.counts;
      put = made.put;
      plans = made.plans;
      document = made.document;
      there = made.there;
      state = λ i. record { docs = docs i; index = index i; jobs = old.upkeep; current = old.current.items };
      made_is = c.searched.ensures;
    }
