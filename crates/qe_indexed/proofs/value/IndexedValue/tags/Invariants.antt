use Rattle.std.proofs.Common.{◌≡◌, take}
use Rattle.std.specs.Prelude.{map}
use Rattle.qe_indexed.specs.Block.{tag_in}
use Rattle.qe_indexed.proofs.value.IndexedValue.tags.Given as goal

abbrev pub invariant-loop-block : goal.invariant-loop-block
invariant-loop-block l = l.tags ≡ map (λ block. tag_in block.0) (take l.block-index l.block-items)
