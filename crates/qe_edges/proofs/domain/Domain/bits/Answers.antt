use Rattle.std.proofs.Common.{◌≡◌, ap, ◌∙◌, subst, rules}
use Rattle.qe_edges.specs.Rules.{bits_of, offset_of, binary_digits, IsDomain}
use Rattle.qe_edges.proofs.OffsetLemmas.{span_digits}
use Rattle.qe_edges.proofs.domain.Domain.bits.Goals as goal

value : (c : goal.After-binary_digits) → c.binary_digits.result ≡ bits_of c.args.self.now
unfolding bits_of
value c =
    let span : c.abs_diff.result ≡ offset_of c.args.self.now c.args.self.now.max = search rules in
    c.binary_digits.ensures ∙ ap binary_digits span

pub returns-clause-value : goal.returns-clause-value
returns-clause-value c = value c

pub returns-clause-digits : goal.returns-clause-digits
returns-clause-digits c = rw (value c) (span_digits c.args.self.now (subst IsDomain c.self.view_is c.self.invariant))
