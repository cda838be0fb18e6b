use Rattle.std.proofs.Common.{◌-◌, arith}
use Rattle.qe_edges.specs.Rules.{bits_of}
use Rattle.qe_edges.proofs.WidestLemmas.{log-le, widest}
use Rattle.qe_edges.proofs.domain.Domain.widest_at.Goals as goal

pub overflow_sub-bits : goal.overflow_sub-bits
overflow_sub-bits c =
    let within = log-le c.ilog2.result _ (bits_of c.args.self.now) c.ilog2.ensures.power_le (omega arith) in
    omega arith

pub returns : goal.returns
returns c =
    let log = c.ilog2.result in
    let len = c.level_from-len.result in
    let rules = c.args.self.now in
    let within = log-le log (c.args.end - c.args.at) (bits_of rules) c.ilog2.ensures.power_le (omega arith) in
    let found = rw c.bits-bits.ensures.value at c.level_from-len.ensures in
    rw c.bits-bits.ensures.value
    (widest rules c.args.at c.args.end c.min-height.result log len c.requires.begins c.ranges.at.fits
    c.ilog2.ensures.power_le c.ilog2.ensures.next_power_gt
    c.ilog2.ensures.bound within c.min-height.ensures found)
