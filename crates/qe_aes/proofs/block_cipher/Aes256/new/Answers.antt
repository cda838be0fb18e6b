use Rattle.std.proofs.Common.{ap, sym, ◌∙◌}
use Rattle.qe_aes.specs.KeySchedule.{key_schedule}
use Rattle.qe_aes.proofs.ScheduleLemmas.{key_of-key_schedule}
use Rattle.qe_aes.proofs.block_cipher.Aes256.new.Goals as goal

pub invariant_of-result : goal.invariant_of-result
invariant_of-result c = c.expand.ensures ∙ ap key_schedule (sym (key_of-key_schedule c.expand.result c.args.key.now c.told-key c.expand.ensures))

pub returns : goal.returns
returns c = key_of-key_schedule c.expand.result c.args.key.now c.told-key c.expand.ensures
