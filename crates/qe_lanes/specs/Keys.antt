-- Kept keys of HMAC-SHA-256 (RFC 2104), one alone and sixteen in lanes.
use Rattle.std.specs.Prelude.{◌≡◌, ℕ, List}
use Rattle.sha2.specs.Sha256.{compress, initial_hash_256}
use Rattle.qe_seal.specs.Hmac.{key_block, padded_block}
use Rattle.qe_lanes.specs.Lanes.{state_in}
use Rattle.qe_lanes.specs.declared.keys.LaneKey.{LaneKey}
use Rattle.qe_lanes.specs.declared.keys.LaneKeys.{LaneKeys}

-- the hash value once the key's block, combined with a pad, is taken in (section 4)
abbrev pub pad_state : ℕ → List ℕ → List ℕ
pad_state pad key = compress initial_hash_256 (padded_block pad (key_block key))

-- both pads of the key are taken in
pub record IsKeyedBy (state : LaneKey) (key : List ℕ) : Type 0 where
  pub inner : state.inner ≡ pad_state 0x36 key
  pub outer : state.outer ≡ pad_state 0x5c key

-- both pads of the key are taken in, in a lane
pub record IsKeyedIn (keys : LaneKeys) (lane : ℕ) (key : List ℕ) : Type 0 where
  pub inner : state_in keys.inner lane ≡ pad_state 0x36 key
  pub outer : state_in keys.outer lane ≡ pad_state 0x5c key
