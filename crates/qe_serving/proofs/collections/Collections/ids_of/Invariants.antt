use Rattle.std.proofs.Common.{◌≡◌, map, take}
use Rattle.qe_value.specs.Views.{plain}
use Rattle.qe_serving.specs.Documents.{picked}
use Rattle.qe_serving.proofs.collections.Collections.ids_of.Given as goal

abbrev pub invariant-loop-number : goal.invariant-loop-number
invariant-loop-number l = l.ids ≡ map (λ stored. plain stored.id) (picked l.self.store.documents (take l.number-index l.numbers))
