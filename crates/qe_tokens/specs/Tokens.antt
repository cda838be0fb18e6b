-- The token tree of Queryable Encryption, version 2, after libmongocrypt's. Tokens, items and identifiers are lists of bytes;
-- a number under a key is HMAC-SHA-256 of its 8 little-endian bytes (`prf1_of`).
use Rattle.std.specs.Prelude.{ℕ, List, take, drop}
use Rattle.qe_seal.specs.Hmac.{hmac_sha256, prf1_of, prf2_of}

-- bytes 64 to 95 of a data key
abbrev pub root_key_of : List ℕ → List ℕ
root_key_of key = take 32 (drop 64 key)

-- under the root key
abbrev pub collections_of : List ℕ → List ℕ
collections_of root = prf1_of root 1

abbrev pub server_token_of : List ℕ → List ℕ
server_token_of root = prf1_of root 2

abbrev pub server_cipher_of : List ℕ → List ℕ
server_cipher_of root = prf1_of root 3

-- under the collections' root; version 1 used number 3
abbrev pub edc_of : List ℕ → List ℕ
edc_of level = prf1_of level 1

abbrev pub esc_of : List ℕ → List ℕ
esc_of level = prf1_of level 2

abbrev pub ecoc_of : List ℕ → List ℕ
ecoc_of level = prf1_of level 4

-- of an item under a token
abbrev pub edc_derived_of : List ℕ → List ℕ → List ℕ
edc_derived_of token item = hmac_sha256 token item

abbrev pub esc_derived_of : List ℕ → List ℕ → List ℕ
esc_derived_of token item = hmac_sha256 token item

abbrev pub server_derived_of : List ℕ → List ℕ → List ℕ
server_derived_of token item = hmac_sha256 token item

-- of a contention factor under an item's token
abbrev pub edc_contention_of : List ℕ → ℕ → List ℕ
edc_contention_of derived factor = prf1_of derived factor

abbrev pub esc_contention_of : List ℕ → ℕ → List ℕ
esc_contention_of derived factor = prf1_of derived factor

-- the keys of document tags, of the identifiers of rows, and of the values of anchors
abbrev pub edc_twice_of : List ℕ → List ℕ
edc_twice_of token = prf1_of token 1

abbrev pub esc_tag_of : List ℕ → List ℕ
esc_tag_of token = prf1_of token 1

abbrev pub esc_value_of : List ℕ → List ℕ
esc_value_of token = prf1_of token 2

-- the keys of a block's count and contention factor, and of its zeros
abbrev pub server_count_of : List ℕ → List ℕ
server_count_of token = prf1_of token 1

abbrev pub server_zeros_of : List ℕ → List ℕ
server_zeros_of token = prf1_of token 2

-- Identifiers. A position and an anchor are rows of one collection; anchor 0 is the null anchor.
abbrev pub position_of : List ℕ → ℕ → List ℕ
position_of tag position = prf1_of tag position

abbrev pub anchor_of : List ℕ → ℕ → List ℕ
anchor_of tag anchor = prf2_of tag 0 anchor

abbrev pub document_tag_of : List ℕ → ℕ → List ℕ
document_tag_of twice count = prf1_of twice count
