-- What holds of sealed values, besides their definitions.
use Rattle.std.specs.Prelude.{◌≡◌, ℕ, List, Ok}
use Rattle.qe_base.specs.Bytes.{AreBytes}
use Rattle.qe_aes.specs.Laws.{IsBlock}
use Rattle.qe_seal.specs.Sealed.{Seals, opened_value}

-- a value opens to the plain bytes exactly where it seals them under some IV
pub record SealLaws : Type 0 where
  pub back : (key id iv plain bytes : List ℕ) → AreBytes key → IsBlock iv → AreBytes plain
      → Seals key id iv plain bytes → opened_value key id bytes ≡ Ok plain
  pub forth : (key id plain bytes : List ℕ) → AreBytes key → AreBytes bytes
      → opened_value key id bytes ≡ Ok plain → (iv : List ℕ) × IsBlock iv × Seals key id iv plain bytes
