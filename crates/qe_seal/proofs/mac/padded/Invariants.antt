use Rattle.std.proofs.Common.{◌≡◌, ◌++◌, take, drop}
use Rattle.qe_seal.specs.Hmac.{padded_block}
use Rattle.qe_seal.proofs.mac.padded.Given as goal

abbrev pub invariant-loop-i : goal.invariant-loop-i
invariant-loop-i l = l.out ≡ padded_block l.pad (take l.i l.block) ++ drop l.i l.block
