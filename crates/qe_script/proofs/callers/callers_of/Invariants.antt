-- The items to come, behind the callers so far, give all callers.
use Rattle.std.proofs.Common.{◌≡◌, [], drop}
use Rattle.serde_json.specs.View.{items_view}
use Rattle.qe_script.specs.Callers.{callers_after}
use Rattle.qe_script.proofs.callers.callers_of.Given as goal

abbrev pub invariant-loop-item : goal.invariant-loop-item
invariant-loop-item l = callers_after l.names (items_view (drop l.item-index l.items)) ≡ callers_after [] (items_view l.items)
