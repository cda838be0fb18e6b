-- The laws of a kind, from both ways of its reader.
use Rattle.std.proofs.Common.{◌≡◌, ℕ, ◌<◌, List, length, take, sym, ◌∙◌, Result, Ok, Err}
use Rattle.std.specs.Prelude.{IfOk}
use Rattle.qe_base.specs.Bytes.{AreBytes}
use Rattle.qe_layout.specs.declared.malformed.Malformed.{Malformed}
use Rattle.qe_layout.specs.Refusal.{Refusal, Reads}
use Rattle.qe_layout.specs.Blobs.{cut_refusal}
use Rattle.qe_parts.specs.Laws.{PayloadLaws}

-- two readings of one blob are one
one_read : {P : Type 0} (x y : P) (read : Result P Refusal) → read ≡ Ok x → read ≡ Ok y → x ≡ y
one_read x y read is also = let same : Ok x ≡ Ok y = sym is ∙ also in cc

pub laws_from : {P : Type 0} (at : List ℕ → Result P Refusal) (IsBlobOf : P → List ℕ → Type 0) → ((payload : P) (blob : List ℕ) → IsBlobOf payload blob → at blob ≡ Ok payload)
    → ((payload : P) (blob : List ℕ) → AreBytes blob → at blob ≡ Ok payload → IsBlobOf payload blob)
    → ((payload : P) (blob : List ℕ) (count : ℕ) → IsBlobOf payload blob → count < length blob → at (take count blob) ≡ cut_refusal count) → PayloadLaws at IsBlobOf
laws_from at IsBlobOf forth back cut =
    record {
      laid_is_read = forth;
      read_is_laid = back;
      one = λ payload other blob is also. one_read payload other (at blob) (forth payload blob is) (forth other blob also);
      cut = cut;
    }

-- what a reader answers is laid out as it
pub found_by : {P : Type 0} (at : List ℕ → Result P Refusal) (IsBlobOf : P → List ℕ → Type 0) → PayloadLaws at IsBlobOf → (result : Result P Malformed) (blob : List ℕ)
    → AreBytes blob → Reads result (at blob) → IfOk result (λ payload. IsBlobOf payload blob)
found_by at IsBlobOf laws (Ok payload) blob bytes reads = laws.read_is_laid payload blob bytes reads
found_by at IsBlobOf laws (Err fault) blob bytes reads = tt
