-- Keys of fields, with what grows from them.
use Rattle.std.specs.Prelude.{◌≡◌, ℕ, List}
use Rattle.qe_seal.specs.HmacKey.{IsKeyedBy}
use Rattle.qe_seal.specs.declared.mac.HmacKey.{HmacKey}
use Rattle.qe_tokens.specs.Tokens.{root_key_of, collections_of, edc_of, esc_of, ecoc_of, server_token_of, server_cipher_of}
use Rattle.qe_labels.specs.Under.{Under}

-- the field of a number, of a schema with its keys
pub record FieldOf : Type 0 where
  pub under : Under
  pub number : ℕ

-- kept keys and tokens are those of a data key
pub record IsGrown (key : List ℕ) (edc esc server : HmacKey) (cipher ecoc : List ℕ) : Type 0 where
  pub documents : IsKeyedBy edc (edc_of (collections_of (root_key_of key)))
  pub rows : IsKeyedBy esc (esc_of (collections_of (root_key_of key)))
  pub block_tokens : IsKeyedBy server (server_token_of (root_key_of key))
  pub values : cipher ≡ server_cipher_of (root_key_of key)
  pub compaction : ecoc ≡ ecoc_of (collections_of (root_key_of key))
