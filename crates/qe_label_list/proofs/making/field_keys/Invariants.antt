use Rattle.std.proofs.Common.{take}
use Rattle.qe_label_list.specs.Tokens.{AreOfFields}
use Rattle.qe_label_list.proofs.making.field_keys.Given as goal

abbrev pub invariant-loop-root : goal.invariant-loop-root
invariant-loop-root l = AreOfFields l.fields.items (take l.root-index l.roots)
