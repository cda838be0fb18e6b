use Rattle.std.proofs.Common.{refl}
use Rattle.qe_aes.specs.Words.{word_bytes}
use Rattle.qe_aes.proofs.state.diagonal.Goals as goal

pub returns : goal.returns
unfolding word_bytes
returns c = rw (c.to_be_bytes.ensures, c.to_be_bytes-2.ensures, c.to_be_bytes-3.ensures, c.to_be_bytes-4.ensures) refl
