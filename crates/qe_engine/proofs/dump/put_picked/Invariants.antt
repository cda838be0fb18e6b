use Rattle.std.proofs.Common.{◌≡◌, ◌++◌, take, flat_map}
use Rattle.qe_dump.specs.Dump.{document_lines}
use Rattle.qe_serving.specs.Documents.{picked}
use Rattle.qe_engine.proofs.dump.put_picked.Given as goal

abbrev pub invariant-loop-number : goal.invariant-loop-number
invariant-loop-number l = l.text ≡ l.fn.text ++ flat_map (document_lines l.fields) (picked l.kept.store.documents (take l.number-index l.numbers))
