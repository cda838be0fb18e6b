use Rattle.std.proofs.Common.{arith}
use Rattle.qe_edges.proofs.LevelLemmas.{shortest_from}
use Rattle.qe_edges.proofs.domain.Domain.level_from.Goals as goal

pub returns : goal.returns
returns c =
    let rules = c.args.self.now in
    rw (c.stored_from.ensures, c.bits.ensures.value, c.sparsity.ensures, c.trim.ensures)
    (shortest_from rules c.args.level (omega arith) c.bits.ensures.domain.trim c.requires)
