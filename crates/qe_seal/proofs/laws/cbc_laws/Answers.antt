use Rattle.qe_seal.proofs.CbcLawLemmas.{cbc_encryption-IsCbc, only_cbc_encryption, cbc_plain-IsCbc, cbc_decryption-cbc_encryption, cbc_encryption-cbc_decryption}
use Rattle.qe_seal.proofs.laws.cbc_laws.Goals as goal

pub returns : goal.returns
returns c = record {
  enciphers = cbc_encryption-IsCbc;
  only = only_cbc_encryption;
  deciphers = cbc_plain-IsCbc;
  back = cbc_decryption-cbc_encryption;
  forth = cbc_encryption-cbc_decryption;
}
