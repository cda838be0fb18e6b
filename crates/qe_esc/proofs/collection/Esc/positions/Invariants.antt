use Rattle.std.proofs.Common.{◌≡◌, take}
use Rattle.std.specs.FinMap.{get}
use Rattle.std.specs.List.{filter}
use Rattle.qe_esc.specs.Rows.{is_position}
use Rattle.qe_esc.proofs.collection.Esc.positions.Given as goal

abbrev pub invariant-loop-id : goal.invariant-loop-id
invariant-loop-id l = l.positions ≡ filter (λ id. is_position (get l.self.rows id)) (take l.id-index l.id-items)
