use Rattle.std.proofs.Common.{◌+◌, ◌-◌, sym, ap, rules}
use Rattle.std.proofs.lemmas.Nat.Bits.{shr_and_one}
use Rattle.qe_edges.proofs.TextLemmas.{digits_more, length-spelling_of}
use Rattle.qe_edges.proofs.edge.Edge.text.Goals as goal

pub loop-place-preserved : goal.loop-place-preserved
loop-place-preserved c =
    let len = c.args.self.now.len in
    let prefix = c.args.self.now.prefix in
    let place = c.loop-place.place in
    digits_more c.loop-place.into len place prefix _ (search rules) c.loop-place-test.true
    (ap (λ d. 48 + d) (shr_and_one prefix (len - 1 - place))) c.loop-place.invariant

pub returns-clause-length : goal.returns-clause-length
returns-clause-length c = sym (length-spelling_of c.args.self.now.len c.args.self.now.prefix c.if-self-eq0.false)
