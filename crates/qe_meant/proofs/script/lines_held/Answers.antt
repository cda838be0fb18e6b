use Rattle.std.proofs.Common.{subst, take_all}
use Rattle.std.proofs.lemmas.List.Elements.{All-more}
use Rattle.qe_script.specs.declared.script.Line.{Line}
use Rattle.qe_meant.specs.Held.{AreHeldLines, IsHeldCommand}
use Rattle.qe_meant.proofs.script.lines_held.Goals as goal

pub loop-line-preserved : goal.loop-line-preserved
loop-line-preserved c =
    All-more (λ (line : Line). IsHeldCommand line.command) c.args.lines.now c.loop-line.line-index c.line-item.result c.loop-line-test.true c.loop-line.invariant
    (subst (λ (line : Line). IsHeldCommand line.command) c.line-item.is c.command_held.ensures)

pub returns : goal.returns
returns c = subst AreHeldLines (take_all c.loop-line.line-index c.args.lines.now c.loop-line-test.false) c.loop-line.invariant
