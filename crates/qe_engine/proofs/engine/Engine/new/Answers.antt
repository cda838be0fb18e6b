use Rattle.std.proofs.Common.{◌≡◌, map, sym, subst, ap, ◌∙◌}
use Rattle.qe_protocol.specs.State.{opening_with}
use Rattle.qe_protocol.specs.Journal.{first_contention, opening}
use Rattle.qe_field.specs.declared.field.Field.{Field}
use Rattle.qe_serving.specs.Serving.{state_in}
use Rattle.qe_engine.specs.Engines.{StandsByJournal}
use Rattle.qe_engine.proofs.EngineLemmas.{opening_stands}
use Rattle.qe_engine.proofs.engine.Engine.new.Goals as goal

pub invariant_of-result : goal.invariant_of-result
invariant_of-result c =
    let schema = c.args.schema in
    let kept = c.new.result in
    let state : state_in kept ≡ opening schema =
    c.new.ensures.state ∙ ap opening_with (c.in_ok-current.ensures ∙ ap (map (λ (field : Field). first_contention field.kind)) c.fields.ensures.all) in
    subst (StandsByJournal schema kept) (sym c.new-2.ensures.items) (opening_stands schema kept state c.new.ensures.made)
