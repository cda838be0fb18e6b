-- What a kept key of HMAC holds.
use Rattle.std.specs.Prelude.{ℕ, List}
use Rattle.sha2.specs.Hashers.{Holds256}
use Rattle.qe_seal.specs.Hmac.{key_block, padded_block}
use Rattle.qe_seal.specs.declared.mac.HmacKey.{HmacKey}

-- the inner and the outer pad of this key are hashed (RFC 2104, section 4)
pub record IsKeyedBy (state : HmacKey) (key : List ℕ) : Type 0 where
  pub inner : Holds256 state.inner (padded_block 0x36 (key_block key))
  pub outer : Holds256 state.outer (padded_block 0x5c (key_block key))
