use Rattle.std.proofs.Common.{sym, ◌∙◌}
use Rattle.qe_compact.proofs.ListLemmas.{missing_here, missing_later}
use Rattle.qe_compact.proofs.begin.missing_ahead.Goals as goal

pub returns-then-not-has_token : goal.returns-then-not-has_token
returns-then-not-has_token c =
    sym (missing_here c.args.tokens.now c.args.ecoc.now.rows c.loop-place.place c.entry-row.result.now c.entry-row.ensures (sym c.has_token.ensures ∙ c.if-not-has_token.true)) ∙ c.loop-place.invariant

pub loop-place-preserved : goal.loop-place-preserved
loop-place-preserved c =
    sym (missing_later c.args.tokens.now c.args.ecoc.now.rows c.loop-place.place c.entry-row.result.now c.entry-row.ensures (sym c.has_token.ensures ∙ c.if-not-has_token.false)) ∙ c.loop-place.invariant
