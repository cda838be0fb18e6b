-- The laws of a kind of payload.
use Rattle.std.specs.Prelude.{◌≡◌, ℕ, ◌<◌, List, length, take, Result, Ok}
use Rattle.qe_base.specs.Bytes.{AreBytes}
use Rattle.qe_layout.specs.Refusal.{Refusal}
use Rattle.qe_layout.specs.Blobs.{cut_refusal}

-- a blob is read as a payload exactly where it is laid out as it, and as one payload at most; cut short it is refused
pub record PayloadLaws {P : Type 0} (at : List ℕ → Result P Refusal) (IsBlobOf : P → List ℕ → Type 0) : Type 0 where
  pub laid_is_read : (payload : P) (blob : List ℕ) → IsBlobOf payload blob → at blob ≡ Ok payload
  pub read_is_laid : (payload : P) (blob : List ℕ) → AreBytes blob → at blob ≡ Ok payload → IsBlobOf payload blob
  pub one : (payload other : P) (blob : List ℕ) → IsBlobOf payload blob → IsBlobOf other blob → payload ≡ other
  pub cut : (payload : P) (blob : List ℕ) (count : ℕ) → IsBlobOf payload blob → count < length blob → at (take count blob) ≡ cut_refusal count
