use Rattle.std.proofs.Common.{arith}
use Rattle.qe_vectors_commands.proofs.commands.print_answer.Goals as goal

pub print_accepted-requires : goal.print_accepted-requires
print_accepted-requires c =
    record { bytes = c.args.bytes.now; are_bytes = λ i. omega (arith, c.type_inv.bytes i); laid = c.in-Ok.ensures.found }
