use Rattle.std.proofs.Common.{false, subst, sym, ap, ◌∙◌, ◌≡◌}
use Rattle.std.specs.Prelude.{slice_get}
use Rattle.qe_protocol.specs.Contention.{current_of}
use Rattle.qe_engine.specs.Engines.{Engined, has_contention}
use Rattle.qe_engine.proofs.ContentionLemmas.{journal_none}
use Rattle.qe_engine.proofs.engine.Engine.current.Goals as goal

pub returns-clause-plain : goal.returns-clause-plain
returns-clause-plain c bare =
    let schema = c.self.inside.schema in
    let none : has_contention (slice_get schema c.args.field) ≡ false =
    subst (λ (engine : Engined). has_contention (slice_get engine.schema c.args.field) ≡ false) (sym c.self.view_is) bare in
    c.current_of.ensures ∙ ap (λ all. current_of all c.args.field) c.as_slice.ensures.value
    ∙ ap (λ state. current_of state.current c.args.field) c.self.invariant.state
    ∙ journal_none schema c.args.field none c.fields-fields.ensures.schema c.self.inside.journal.items c.self.invariant.legal
