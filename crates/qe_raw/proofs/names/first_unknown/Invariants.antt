-- The first unknown name is that of the members to come.
use Rattle.std.proofs.Common.{◌≡◌, map}
use Rattle.serde_json.specs.View.{members_view}
use Rattle.qe_raw.specs.Names.{rule_view, first_unknown}
use Rattle.qe_raw.proofs.names.first_unknown.Given as goal

abbrev pub invariant-loop-name : goal.invariant-loop-name
invariant-loop-name l =
    first_unknown (map rule_view l.rules) (members_view l.name-iterator) ≡ first_unknown (map rule_view l.rules) (members_view l.members.entries)
