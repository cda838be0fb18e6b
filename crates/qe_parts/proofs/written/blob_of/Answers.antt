use Rattle.std.proofs.Common.{◌≡◌, ◌∷◌, ℕ, List, length, Result, Ok, Err, arith}
use Rattle.std.proofs.lemmas.List.{take_all}
use Rattle.std.specs.Prelude.{IfOk}
use Rattle.qe_value.specs.declared.fault.EncodeFault.{EncodeFault}
use Rattle.qe_value.specs.declared.value.Plain.{Plain}
use Rattle.qe_document.specs.Spelling.{document_bytes, IsDocument}
use Rattle.qe_layout.specs.Blobs.{IsBlob}
use Rattle.qe_encode.proofs.RefusalLemmas.{bytes_written}
use Rattle.qe_parts.proofs.written.blob_of.Goals as goal

-- the kind, and the document's bytes
is_blob : (kind : ℕ) (fs : List (List ℕ × Plain)) (r : Result (List ℕ) EncodeFault) → IfOk r (λ out. out ≡ kind ∷ document_bytes fs) → IfOk r (λ _. IsDocument fs) → IfOk r (λ blob. IsBlob kind fs blob)
is_blob kind fs (Ok out) is fits =
    let bytes = document_bytes fs in
    record { rest = bytes; first = is; document = record { document = fits; front = take_all (length bytes) bytes (omega arith); within = omega arith } }
is_blob kind fs (Err fault) is fits = tt

pub returns-clause-is : goal.returns-clause-is
returns-clause-is c =
    let fs = c.args.document.now in
    let r = c.encode_behind.result in
    is_blob c.args.kind fs r (bytes_written fs (c.args.kind ∷ document_bytes fs) r c.encode_behind.ensures.exact) c.encode_behind.ensures.fits
