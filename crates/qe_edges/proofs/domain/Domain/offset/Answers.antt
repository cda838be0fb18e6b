use Rattle.std.proofs.Common.{◌≡◌, subst, rules}
use Rattle.qe_edges.specs.Rules.{offset_of, IsDomain}
use Rattle.qe_edges.proofs.OffsetLemmas.{offset-lt}
use Rattle.qe_edges.proofs.domain.Domain.offset.Goals as goal

pub returns-clause-within : goal.returns-clause-within
returns-clause-within c =
    let is : c.from.result ≡ offset_of c.args.self.now c.args.v = search rules in
    rw is (offset-lt c.args.self.now c.args.v (subst IsDomain c.self.view_is c.self.invariant) c.requires)
