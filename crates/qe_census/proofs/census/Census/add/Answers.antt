use Rattle.std.proofs.Common.{ap, ◌∙◌}
use Rattle.qe_labels.specs.Numbers.{Numbers}
use Rattle.qe_census.specs.Events.{numbers_after}
use Rattle.qe_census.specs.Noted.{with_words}
use Rattle.qe_census.proofs.EventLemmas.{numbers_command}
use Rattle.qe_census.proofs.census.Census.add.Goals as goal

pub returns-in-Ok-clause-ok : goal.returns-in-Ok-clause-ok
returns-in-Ok-clause-ok c =
    ap numbers_after c.in-Ok.ensures.ok
    ∙ numbers_command c.self.inside.events.items c.args.asked.now c.args.indexed.now c.args.accepted
    ∙ ap (λ (m : Numbers). with_words m c.args.asked.now c.args.indexed.now c.args.accepted) c.self.view_is
