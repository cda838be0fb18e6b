use Rattle.std.proofs.Common.{◌+◌, ◌++◌, ap, ◌∙◌, take, arith}
use Rattle.std.proofs.lemmas.Grind.{common_steps}
use Rattle.std.proofs.lemmas.Slice.{take-put_mid}
use Rattle.qe_base.proofs.memory.fill.Goals as goal

pub returns-clause-front : goal.returns-clause-front
returns-clause-front c =
    take-put_mid c.args.at _ c.args.into.now c.copy_from_slice.new.self (c.args.at + c.min-count.result) (grind (arith, common_steps)) c.requires
    ∙ ap (λ piece. take c.args.at c.args.into.now ++ piece) (grind (arith, common_steps))
