use Rattle.std.proofs.Common.{arith, drop-cons, refl, sym, ◌∙◌}
use Rattle.qe_value.proofs.ZeroLemmas.{split_some, split_none}
use Rattle.qe_document.proofs.element.first_zero.Goals as goal

pub returns-then-i-bytes : goal.returns-then-i-bytes
returns-then-i-bytes c =
    let cut = split_some c.args.bytes.now c.loop-i.i c.loop-i.invariant c.if-b-eq0.true c.if-i-bytes.true in
    sym (cut ∙ rw (c.split_at.ensures.front, c.split_at-then-i-bytes.ensures.back, c.split_at.ensures.back, drop-cons c.args.bytes.now c.loop-i.i 0 c.loop-i-test.true) refl)

pub returns : goal.returns
returns c = sym (split_none c.args.bytes.now (λ k lt e more. c.loop-i.invariant k (omega arith) e more))
