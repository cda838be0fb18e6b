-- The numbers listed, and those of the fields to come, are all numbers.
use Rattle.std.proofs.Common.{◌≡◌, ◌++◌, drop}
use Rattle.qe_field.specs.Lookup.{encrypted_from}
use Rattle.qe_field.proofs.lookup.encrypted_numbers.Given as goal

abbrev pub invariant-loop-i : goal.invariant-loop-i
invariant-loop-i l = l.numbers ++ encrypted_from l.i (drop l.i l.fields) ≡ encrypted_from 0 l.fields
