use Rattle.std.proofs.Common.{◌≡◌, take, map}
use Rattle.std.specs.List.{AllByRecursion}
use Rattle.qe_value.specs.declared.value.Plain.TheVariants as p
use Rattle.qe_parts.proofs.entries.trees_of.Given as goal

abbrev pub invariant-loop-i : goal.invariant-loop-i
invariant-loop-i g l =
    record { trees : l.items ≡ map (λ one. p.Doc (g.E.Entry.elements one)) (take l.i l.of); again : AllByRecursion g.E.Entry.again (take l.i l.of) }
