use Rattle.qe_seal.proofs.EncipheredLemmas.{deciphered-enciphered, deciphered_pair-enciphered_pair}
use Rattle.qe_seal.proofs.laws.cipher_laws.Goals as goal

pub returns : goal.returns
returns c = record { bytes = deciphered-enciphered; pair = deciphered_pair-enciphered_pair }
