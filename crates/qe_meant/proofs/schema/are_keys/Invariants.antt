-- The keys so far are keys.
use Rattle.std.proofs.Common.{All, take}
use Rattle.qe_encodes.specs.Fields.{IsKey}
use Rattle.qe_meant.proofs.schema.are_keys.Given as goal

abbrev pub invariant-loop-i : goal.invariant-loop-i
invariant-loop-i l = All IsKey (take l.i l.keys)
