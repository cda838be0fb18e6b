use Rattle.std.proofs.Common.{ap, ◌∙◌}
use Rattle.qe_aes.specs.KeySchedule.{key_schedule}
use Rattle.qe_aes.specs.Cipher.{inv_cipher, inv_aes_256}
use Rattle.qe_aes.proofs.block_cipher.Aes256.decrypt.Goals as goal

pub returns : goal.returns
unfolding inv_aes_256
returns c =
    c.inv_cipher.ensures ∙ ap (λ w. inv_cipher w c.args.block) (c.self.invariant ∙ ap key_schedule c.self.view_is)
