use Rattle.qe_command_parts.proofs.SlotLemmas.{Gathering}
use Rattle.qe_command_parts.proofs.token_documents.tokens_in.Given as goal

abbrev pub invariant-loop-i : goal.invariant-loop-i
invariant-loop-i l = Gathering l.i l.fn.slots l.slots l.tokens
