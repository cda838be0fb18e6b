use Rattle.std.proofs.Common.{◌≡◌, ◌*◌, length, take}
use Rattle.std.specs.Prelude.{All}
use Rattle.qe_indexed.specs.Spelling.{joined}
use Rattle.qe_indexed.proofs.reading.blocks_of.Given as goal

abbrev pub invariant-loop-i : goal.invariant-loop-i
invariant-loop-i l = All (λ block. length block.0 ≡ 96) l.blocks × (joined l.blocks ≡ take (96 * l.i) l.bytes)
