use Rattle.std.proofs.Common.{◌≡◌, map, take}
use Rattle.qe_protocol.specs.Next.{row_of}
use Rattle.qe_serving.specs.Documents.{picked}
use Rattle.qe_serving.proofs.collections.Collections.rows_of.Given as goal

abbrev pub invariant-loop-number : goal.invariant-loop-number
invariant-loop-number l = l.rows ≡ map row_of (picked l.self.store.documents (take l.number-index l.numbers))
