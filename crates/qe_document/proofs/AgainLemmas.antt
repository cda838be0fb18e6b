-- What is read is written as the bytes that it was read of.
use Rattle.std.proofs.Common.{◌≡◌, ℕ, ◌+◌, ◌≤◌, List, [], ◌∷◌, length, take, Result, Ok, Err, sym, ap, ◌∙◌, arith}
use Rattle.std.specs.Prelude.{IfOk}
use Rattle.qe_value.specs.declared.fault.BsonFault.{BsonFault}
use Rattle.qe_value.specs.declared.value.Plain.{Plain}
use Rattle.qe_value.specs.declared.value.Value.{Value}
use Rattle.qe_value.specs.Spelling.{IsDocument, Begins, IsAlone}
use Rattle.qe_value.specs.Views.{plain}
use Rattle.qe_value.proofs.AloneLemmas.{alone_length, alone_fits}
use Rattle.qe_encode.specs.Writing.{encoded, value_encoded}
use Rattle.qe_encode.proofs.FlatLemmas.{writing_laws}

pub decoded_again : (bytes : List ℕ) (r : Result (List (List ℕ × Plain) × ℕ) BsonFault) → IfOk r (λ x. Begins bytes x.0 x.1) → IfOk r (λ x. encoded x.0 ≡ Ok (take x.1 bytes))
decoded_again bytes (Ok x) begins = writing_laws.written x.0 begins.document ∙ ap (λ out. Ok out) (sym begins.front)
decoded_again bytes (Err fault) begins = tt

-- a value that is read alone fits a document of the empty name, where its bytes aren't too many
alone_document : (kind : ℕ) (bytes : List ℕ) (v : Plain) → IsAlone kind bytes v → length bytes + 7 ≤ 16777216 → IsDocument (([], v) ∷ [])
alone_document kind bytes v is short = record {
  fits = alone_fits v is.fits;
  short = omega (arith, alone_length v, ap (λ (b : List ℕ). length b) is.bytes_are, short);
}

pub read_again : (kind : ℕ) (bytes : List ℕ) (r : Result Value BsonFault) → IfOk r (λ v. IsAlone kind bytes (plain v))
    → IfOk r (λ v. length bytes + 7 ≤ 16777216 → value_encoded (plain v) ≡ Ok bytes)
read_again kind bytes (Ok v) is = λ short. writing_laws.value (plain v) (alone_document kind bytes (plain v) is short) ∙ ap (λ out. Ok out) (sym is.bytes_are)
read_again kind bytes (Err fault) is = tt
