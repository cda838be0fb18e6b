use Rattle.std.proofs.Common.{◌≡◌, take}
use Rattle.qe_protocol.specs.Indexing.{tags_of}
use Rattle.qe_indexing.proofs.tags.tags_in.Given as goal

abbrev pub invariant-loop-cell : goal.invariant-loop-cell
invariant-loop-cell l = l.tags ≡ tags_of (take l.cell-index l.cells)
