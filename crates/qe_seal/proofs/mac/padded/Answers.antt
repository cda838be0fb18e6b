use Rattle.std.proofs.Common.{bit_xor, arith, rules}
use Rattle.std.proofs.lemmas.List.Edits.{map_over_more}
use Rattle.qe_seal.proofs.mac.padded.Goals as goal

pub loop-i-preserved : goal.loop-i-preserved
loop-i-preserved c =
    map_over_more (λ byte. bit_xor byte c.args.pad) c.args.block.now c.loop-i.out c.loop-i.i _ (omega arith) c.loop-i.invariant (search rules)
