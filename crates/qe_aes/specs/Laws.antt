-- What holds of the cipher and of the counter mode, besides their definitions.
use Rattle.std.specs.Prelude.{◌≡◌, ℕ, ◌<◌, List, length}
use Rattle.qe_base.specs.Bytes.{AreBytes}
use Rattle.qe_aes.specs.Field.{product, inverse}
use Rattle.qe_aes.specs.Cipher.{aes_256, inv_aes_256}
use Rattle.qe_aes.specs.CounterMode.{IsCounterMode, counter_mode}

-- 16 bytes
pub record IsBlock (block : List ℕ) : Type 0 where
  pub long : length block ≡ 16
  pub bytes : AreBytes block

-- under each key the cipher and its inverse make blocks of blocks, and undo each other
pub record UndoEachOther : Type 0 where
  pub block : (key block : List ℕ) → AreBytes key → IsBlock block → IsBlock (aes_256 key block)
  pub inv_block : (key block : List ℕ) → AreBytes key → IsBlock block → IsBlock (inv_aes_256 key block)
  pub back : (key block : List ℕ) → AreBytes key → IsBlock block → inv_aes_256 key (aes_256 key block) ≡ block
  pub forth : (key block : List ℕ) → AreBytes key → IsBlock block → aes_256 key (inv_aes_256 key block) ≡ block

-- `counter_mode` makes the only list that the standard's relation allows, and is its own inverse
pub record CounterModeLaws : Type 0 where
  pub meets : (key iv bytes : List ℕ) → IsCounterMode key iv bytes (counter_mode key iv bytes)
  pub only : (key iv bytes other : List ℕ) → IsCounterMode key iv bytes other → other ≡ counter_mode key iv bytes
  pub undoes : (key iv bytes : List ℕ) → counter_mode key iv (counter_mode key iv bytes) ≡ bytes

-- `inverse` finds the multiplicative inverse of each byte but 0
abbrev pub FindsInverses : Type 0
FindsInverses = (b : ℕ) → 0 < b → b < 256 → product b (inverse b) ≡ 1
