-- The rules to come know the name exactly where all rules do.
use Rattle.std.proofs.Common.{◌≡◌, drop, map}
use Rattle.qe_raw.specs.Names.{rule_view, is_known}
use Rattle.qe_raw.proofs.names.is_known.Given as goal

abbrev pub invariant-loop-rule : goal.invariant-loop-rule
invariant-loop-rule l = is_known (map rule_view (drop l.rule-index l.rules)) l.name ≡ is_known (map rule_view l.rules) l.name
