use Rattle.qe_aes.proofs.RoundLemmas.{IsBlock-aes_256, IsBlock-inv_aes_256, inv_aes_256-aes_256, aes_256-inv_aes_256}
use Rattle.qe_aes.proofs.laws.undo_each_other.Goals as goal

pub returns : goal.returns
returns c = record { block = IsBlock-aes_256; inv_block = IsBlock-inv_aes_256; back = inv_aes_256-aes_256; forth = aes_256-inv_aes_256 }
