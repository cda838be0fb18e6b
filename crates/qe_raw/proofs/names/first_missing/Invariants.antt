-- The first missing name is that of the rules to come.
use Rattle.std.proofs.Common.{◌≡◌, drop, map}
use Rattle.serde_json.specs.View.{members_view}
use Rattle.qe_raw.specs.Names.{rule_view, first_missing}
use Rattle.qe_raw.proofs.names.first_missing.Given as goal

abbrev pub invariant-loop-rule : goal.invariant-loop-rule
invariant-loop-rule l =
    first_missing (map rule_view (drop l.rule-index l.rules)) (members_view l.members.entries)
    ≡ first_missing (map rule_view l.rules) (members_view l.members.entries)
