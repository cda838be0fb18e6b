use Rattle.qe_aes.specs.Words.{word_bytes, state_bytes}
use Rattle.qe_aes.proofs.WordLemmas.{state_bytes-columns}
use Rattle.qe_aes.proofs.state.State.inv_mix.Goals as goal

pub returns : goal.returns
unfolding word_bytes state_bytes
returns c = state_bytes-columns _ _ _ _ _ _ _ _ c.inv_mix.ensures c.inv_mix-2.ensures c.inv_mix-3.ensures c.inv_mix-4.ensures
