use Rattle.std.proofs.Common.{◌≡◌, ◌++◌, drop}
use Rattle.qe_show.specs.Parts.{parts_from}
use Rattle.qe_show.proofs.parts.put_items.Given as goal

-- with what is left it is the whole
abbrev pub invariant-loop-i : goal.invariant-loop-i
invariant-loop-i g l = l.line ++ parts_from g.T.Item.part l.i (drop l.i l.items) ≡ l.initial.line ++ parts_from g.T.Item.part 0 l.items
