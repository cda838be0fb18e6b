use Rattle.std.proofs.Common.{◌≡◌, ◌++◌, drop}
use Rattle.qe_show.specs.Parts.{carried_parts}
use Rattle.qe_show.proofs.parts.put_carried.Given as goal

-- with what is left it is the whole
abbrev pub invariant-loop-i : goal.invariant-loop-i
invariant-loop-i l = l.line ++ carried_parts (drop l.i l.extra) ≡ l.initial.line ++ carried_parts l.extra
