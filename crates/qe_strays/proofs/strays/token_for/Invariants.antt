use Rattle.std.proofs.Common.{◌≡◌, drop}
use Rattle.qe_protocol.specs.Units.{token_for}
use Rattle.qe_strays.proofs.strays.token_for.Given as goal

abbrev pub invariant-loop-sent : goal.invariant-loop-sent
invariant-loop-sent l = token_for (drop l.sent-index l.tokens) l.field ≡ token_for l.tokens l.field
