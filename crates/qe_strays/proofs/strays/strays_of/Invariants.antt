use Rattle.std.proofs.Common.{◌≡◌, ◌++◌, drop}
use Rattle.qe_strays.specs.Strays.{strays_from, strays_in}
use Rattle.qe_strays.proofs.strays.strays_of.Given as goal

abbrev pub invariant-loop-entry : goal.invariant-loop-entry
invariant-loop-entry l =
    l.words ++ strays_from (record { schema = l.schema; keys = l.keys }) l.tokens (drop l.entry-index l.journal)
    ≡ strays_in (record { schema = l.schema; keys = l.keys }) l.journal
