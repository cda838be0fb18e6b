-- How a block is put together, and what opening it gives.
use Rattle.std.proofs.Common.{◌≡◌, ℕ, List, ◌++◌, length, take, drop, refl, ap, sym, ◌∙◌, arith}
use Rattle.std.proofs.lemmas.List.{take_all, take_at, drop_at, drop-drop}
use Rattle.sha2.proofs.Facts256.{length-sha256}
use Rattle.qe_seal.specs.Enciphered.{enciphered, deciphered, enciphered_pair, deciphered_pair}
use Rattle.qe_seal.specs.Hmac.{hmac_sha256, prf1_of}
use Rattle.qe_seal.proofs.EncipheredLemmas.{length-enciphered, length-enciphered_pair, deciphered-enciphered, deciphered_pair-enciphered_pair}
use Rattle.qe_tokens.specs.Tokens.{server_count_of, server_zeros_of, document_tag_of}
use Rattle.qe_indexed.specs.Block.{zeros, block_of, numbers_in, tag_in, zeros_in, IsMade}

length-document_tag_of : (edc : List ℕ) (count : ℕ) → length (document_tag_of edc count) ≡ 32
unfolding prf1_of hmac_sha256
length-document_tag_of edc count = length-sha256 _

-- the parts of a block, by the keys and places that the code uses
pub numbers_in-is : (block server key piece : List ℕ) (pair : ℕ × ℕ) → pair ≡ deciphered_pair key piece → key ≡ server_count_of server
    → piece ≡ take 32 block → pair ≡ numbers_in block server
unfolding numbers_in
numbers_in-is block server key piece pair pair_is key_is piece_is =
    pair_is ∙ ap (λ k. deciphered_pair k piece) key_is ∙ ap (deciphered_pair (server_count_of server)) piece_is

pub zeros_in-is : (block server key piece plain : List ℕ) → plain ≡ deciphered key piece → key ≡ server_zeros_of server → piece ≡ take 32 (drop 64 block)
    → plain ≡ zeros_in block server
unfolding zeros_in
zeros_in-is block server key piece plain plain_is key_is piece_is = plain_is ∙ ap (λ k. deciphered k piece) key_is ∙ ap (deciphered (server_zeros_of server)) piece_is

-- what was made is found again
pub numbers_in-made : (count contention : ℕ) (edc server iv_count iv_zeros block : List ℕ) → IsMade count contention edc server iv_count iv_zeros block
    → numbers_in block server ≡ (count, contention)
unfolding numbers_in block_of
numbers_in-made count contention edc server iv_count iv_zeros block is =
    let key = server_count_of server in
    let first = enciphered_pair key iv_count count contention in
    let rest = document_tag_of edc count ++ enciphered (server_zeros_of server) iv_zeros zeros in
    ap (λ b. deciphered_pair key (take 32 b)) is.made
    ∙ ap (deciphered_pair key) (take_at first rest 32 (length-enciphered_pair key iv_count count contention is.iv_count_long))
    ∙ deciphered_pair-enciphered_pair key iv_count count contention is.iv_count_long is.count_fits is.contention_fits

behind_numbers : (count contention : ℕ) (edc server iv_count iv_zeros block : List ℕ) → IsMade count contention edc server iv_count iv_zeros block
    → drop 32 block ≡ document_tag_of edc count ++ enciphered (server_zeros_of server) iv_zeros zeros
unfolding block_of
behind_numbers count contention edc server iv_count iv_zeros block is =
    let first = enciphered_pair (server_count_of server) iv_count count contention in
    let rest = document_tag_of edc count ++ enciphered (server_zeros_of server) iv_zeros zeros in
    ap (drop 32) is.made ∙ drop_at first rest 32 (length-enciphered_pair (server_count_of server) iv_count count contention is.iv_count_long)

pub tag_in-made : (count contention : ℕ) (edc server iv_count iv_zeros block : List ℕ) → IsMade count contention edc server iv_count iv_zeros block
    → tag_in block ≡ document_tag_of edc count
tag_in-made count contention edc server iv_count iv_zeros block is =
    ap (take 32) (behind_numbers count contention edc server iv_count iv_zeros block is)
    ∙ take_at (document_tag_of edc count) (enciphered (server_zeros_of server) iv_zeros zeros) 32 (length-document_tag_of edc count)

pub zeros_in-made : (count contention : ℕ) (edc server iv_count iv_zeros block : List ℕ) → IsMade count contention edc server iv_count iv_zeros block
    → zeros_in block server ≡ zeros
unfolding zeros_in zeros
zeros_in-made count contention edc server iv_count iv_zeros block is =
    let third = enciphered (server_zeros_of server) iv_zeros zeros in
    ap (λ b. deciphered (server_zeros_of server) (take 32 b))
    (sym (drop-drop 32 32 block) ∙ ap (drop 32) (behind_numbers count contention edc server iv_count iv_zeros block is)
    ∙ drop_at (document_tag_of edc count) third 32 (length-document_tag_of edc count))
    ∙ ap (deciphered (server_zeros_of server)) (take_all 32 third (omega (arith, length-enciphered (server_zeros_of server) iv_zeros zeros is.iv_zeros_long refl)))
    ∙ deciphered-enciphered (server_zeros_of server) iv_zeros zeros is.iv_zeros_long
