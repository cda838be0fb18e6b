-- The blocks of an indexed value (after FLE2TagAndEncryptedMetadataBlock of libmongocrypt). Blocks, keys and IVs are lists of bytes.
use Rattle.std.specs.Prelude.{◌≡◌, ℕ, ◌^◌, ◌<◌, List, ◌++◌, length, take, drop, replicate}
use Rattle.qe_seal.specs.Enciphered.{enciphered, deciphered, enciphered_pair, deciphered_pair}
use Rattle.qe_tokens.specs.Tokens.{server_count_of, server_zeros_of, document_tag_of}

-- what the third part of a block enciphers
unfoldable pub zeros : List ℕ
zeros = replicate 16 0

-- the count and the contention factor, the tag, and 16 zero bytes; `server` is the item's token of blocks, `edc` the key of tags
unfoldable pub block_of : ℕ → ℕ → List ℕ → List ℕ → List ℕ → List ℕ → List ℕ
block_of count contention edc server iv_count iv_zeros =
    enciphered_pair (server_count_of server) iv_count count contention
    ++ (document_tag_of edc count ++ enciphered (server_zeros_of server) iv_zeros zeros)

-- what a block holds in its first, second and third 32 bytes
unfoldable pub numbers_in : List ℕ → List ℕ → ℕ × ℕ
numbers_in block server = deciphered_pair (server_count_of server) (take 32 block)

abbrev pub tag_in : List ℕ → List ℕ
tag_in block = take 32 (drop 32 block)

unfoldable pub zeros_in : List ℕ → List ℕ → List ℕ
zeros_in block server = deciphered (server_zeros_of server) (take 32 (drop 64 block))

-- the block was made of these numbers, under IVs of 16 bytes
pub record IsMade (count contention : ℕ) (edc server iv_count iv_zeros block : List ℕ) : Type 0 where
  pub count_fits : count < 2 ^ 64
  pub contention_fits : contention < 2 ^ 64
  pub iv_count_long : length iv_count ≡ 16
  pub iv_zeros_long : length iv_zeros ≡ 16
  pub made : block ≡ block_of count contention edc server iv_count iv_zeros
