use Rattle.std.proofs.Common.{arith}
use Rattle.qe_command_parts.proofs.SlotLemmas.{gathering_goes_on}
use Rattle.qe_command_parts.proofs.token_documents.tokens_in.Goals as goal

pub loop-i-preserved : goal.loop-i-preserved
loop-i-preserved c =
    gathering_goes_on c.loop-i.i c.args.slots c.loop-i.slots c.take-slot.new.self c.loop-i.tokens c.put_token.new.tokens c.take-slot.result
    c.loop-i.invariant (omega (arith, c.requires.slots)) c.take-slot.ensures.taken c.take-slot.ensures.left c.in_ok-put_token.ensures
