use Rattle.std.proofs.Common.{refl}
use Rattle.sha2.specs.Sha256.{first_words, schedule, rounds, compress, hash_after, digest_bytes, sha256}
use Rattle.qe_aes.specs.Field.{product_below, product_of_squares, inverse, from_bits, sub_byte, xor_bytes}
use Rattle.qe_aes.specs.KeySchedule.{power_of_x, temp_word, expansion, key_schedule}
use Rattle.qe_aes.specs.Cipher as aes
use Rattle.qe_seal.specs.Hmac.{key_block, hmac_sha256}
use Rattle.qe_seal.specs.Cbc.{cbc_cipher, padded_bytes, cbc_encryption}
use Rattle.qe_seal.proofs.laws.examples.Goals as goal

pub returns-clause-cbc : goal.returns-clause-cbc
unfolding product_below product_of_squares inverse from_bits sub_byte xor_bytes power_of_x temp_word expansion key_schedule aes.round aes.rounds aes.cipher aes.aes_256 cbc_cipher padded_bytes cbc_encryption
returns-clause-cbc c = refl

pub returns-clause-hmac : goal.returns-clause-hmac
unfolding first_words schedule rounds compress hash_after digest_bytes sha256 key_block hmac_sha256
returns-clause-hmac c = refl
