use Rattle.std.proofs.Common.{◌≡◌, ◌++◌, drop}
use Rattle.qe_strays.specs.Strays.{opened_strays}
use Rattle.qe_strays.proofs.strays.push_opened.Given as goal

abbrev pub invariant-loop-i : goal.invariant-loop-i
invariant-loop-i l =
    l.words ++ opened_strays (record { schema = l.schema; keys = l.keys }) l.tokens (drop l.i l.opened) (drop l.i l.counts)
    ≡ l.initial.words ++ opened_strays (record { schema = l.schema; keys = l.keys }) l.tokens l.opened l.counts
