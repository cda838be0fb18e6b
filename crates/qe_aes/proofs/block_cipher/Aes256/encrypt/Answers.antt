use Rattle.std.proofs.Common.{ap, ◌∙◌}
use Rattle.qe_aes.specs.KeySchedule.{key_schedule}
use Rattle.qe_aes.specs.Cipher.{cipher, aes_256}
use Rattle.qe_aes.proofs.block_cipher.Aes256.encrypt.Goals as goal

pub returns : goal.returns
unfolding aes_256
returns c =
    c.cipher.ensures ∙ ap (λ w. cipher w c.args.block) (c.self.invariant ∙ ap key_schedule c.self.view_is)
