use Rattle.std.proofs.Common.{ap, ◌∙◌}
use Rattle.qe_census.specs.Events.{numbers_after}
use Rattle.qe_census.proofs.EventLemmas.{numbers_none}
use Rattle.qe_census.proofs.census.Census.new.Goals as goal

pub returns : goal.returns
returns c = ap numbers_after c.new.ensures.items ∙ numbers_none
