use Rattle.std.proofs.Common.{◌≡◌, ◌++◌, take}
use Rattle.qe_indexed.specs.Spelling.{joined}
use Rattle.qe_indexed.proofs.JoinLemmas.{AreLong}
use Rattle.qe_indexed.proofs.writing.push_blocks.Given as goal

abbrev pub invariant-loop-block : goal.invariant-loop-block
invariant-loop-block l = (l.bytes ≡ l.fn.bytes ++ joined (take l.block-index l.blocks)) × AreLong (take l.block-index l.blocks)
