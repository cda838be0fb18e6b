use Rattle.qe_seal.proofs.EncipheredLemmas.{deciphered_pair-enciphered_pair}
use Rattle.qe_tokens.specs.Tokens.{esc_value_of}
use Rattle.qe_esc.proofs.laws.anchors_open.Goals as goal

pub returns : goal.returns
returns c = λ token. deciphered_pair-enciphered_pair (esc_value_of token)
