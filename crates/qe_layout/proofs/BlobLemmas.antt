-- Blobs, both ways: a document is read of a blob exactly where the blob is one of it.
use Rattle.std.proofs.Common.{◌≡◌, ℕ, suc, ◌-◌, ◌==◌, Bool, true, false, List, [], ◌∷◌, length, refl, ap, subst, ◌∙◌, if◌then◌else◌, Result, Ok, Err, eq-eqb}
use Rattle.std.proofs.lemmas.Bool.{cond-true, eqb-true}
use Rattle.qe_value.specs.declared.fault.BsonFault.{BsonFault}
use Rattle.qe_document.specs.Names.{Distinct}
use Rattle.qe_document.specs.Reading.{document_at}
use Rattle.qe_document.specs.Spelling.{Begins, FieldsFit}
use Rattle.qe_base.specs.Bytes.{AreBytes}
use Rattle.qe_value.proofs.DocumentLemmas.{document_takes, begins_again}
use Rattle.qe_layout.specs.declared.malformed.Kind.TheVariants.{BlobSubtype, Trailing}
use Rattle.qe_layout.specs.Refusal.{Refusal, wrong, bind}
use Rattle.qe_layout.specs.Layouts.{Element}
use Rattle.qe_layout.specs.Blobs.{whole, decoded, alone, opened, IsBlob}

same_number : (n : ℕ) → (n == n) ≡ true
same_number n = eq-eqb n n refl

-- a blob of a document is opened as it
pub blob_opened : (kind : ℕ) (elements : List Element) (blob : List ℕ) → IsBlob kind elements blob → opened kind blob ≡ Ok elements
blob_opened kind elements blob is =
    let size = length is.rest in
    ap (opened kind) is.first
    ∙ cond-true (kind == kind) (alone is.rest) (wrong whole (BlobSubtype kind)) (same_number kind)
    ∙ ap (decoded size) (begins_again is.rest elements size is.document)
    ∙ cond-true (size == size) (Ok elements) (wrong whole (Trailing (size - size))) (same_number size)

decoded_begins : (elements : List Element) (bytes : List ℕ) (x : List Element × ℕ) → Begins bytes x.0 x.1 → (b : Bool) → (x.1 == length bytes) ≡ b
    → (if b then Ok x.0 else wrong whole (Trailing (length bytes - x.1))) ≡ Ok elements → Begins bytes elements (length bytes)
decoded_begins elements bytes x begins false same read = absurd (cc)
decoded_begins elements bytes x begins true same read =
    let count : x.1 ≡ length bytes = eqb-true x.1 (length bytes) same in
    let fields : x.0 ≡ elements = cc in
    subst (λ (n : ℕ). Begins bytes elements n) count (subst (λ (fs : List Element). Begins bytes fs x.1) fields begins)

alone_begins : (elements : List Element) (bytes : List ℕ) → AreBytes bytes → alone bytes ≡ Ok elements → Begins bytes elements (length bytes)
alone_begins elements bytes fits read = by_read (document_at bytes) refl read
  where
    by_read : (all : Result (List Element × ℕ) BsonFault) → document_at bytes ≡ all → decoded (length bytes) all ≡ Ok elements → Begins bytes elements (length bytes)
    by_read (Err fault) is read = absurd (cc)
    by_read (Ok x) is read = decoded_begins elements bytes x (document_takes bytes x fits is) (x.1 == length bytes) refl read

-- what opens is a blob of it
pub opened_blob : (kind : ℕ) (elements : List Element) (blob : List ℕ) → AreBytes blob → opened kind blob ≡ Ok elements → IsBlob kind elements blob
opened_blob kind elements [] fits read = absurd (cc)
opened_blob kind elements (first ∷ rest) fits read = by_test (first == kind) refl read
  where
    by_test : (b : Bool) → (first == kind) ≡ b → (if b then alone rest else wrong whole (BlobSubtype first)) ≡ Ok elements → IsBlob kind elements (first ∷ rest)
    by_test false same read = absurd (cc)
    by_test true same read =
        let is : first ≡ kind = eqb-true first kind same in
        record { rest = rest; first = ap (λ byte. byte ∷ rest) is; document = alone_begins elements rest (λ k. fits (suc k)) read }

-- a blob's document has no name twice
pub IsBlob-distinct : (kind : ℕ) (elements : List Element) (blob : List ℕ) → IsBlob kind elements blob → Distinct elements
unfolding FieldsFit
IsBlob-distinct kind elements blob is = is.document.document.fits.0

-- what is read of a blob is read of its document
pub opened_then : {A : Type 0} (kind : ℕ) (of : List Element → Result A Refusal) (out : A) (blob : List ℕ) → AreBytes blob → bind (opened kind blob) of ≡ Ok out
    → (elements : List Element) × (IsBlob kind elements blob × (of elements ≡ Ok out))
opened_then {A} kind of out blob fits read = by_opened (opened kind blob) refl read
  where
    by_opened : (all : Result (List Element) Refusal) → opened kind blob ≡ all → bind all of ≡ Ok out → (elements : List Element) × (IsBlob kind elements blob × (of elements ≡ Ok out))
    by_opened (Err refusal) is read = absurd (cc)
    by_opened (Ok elements) is read = (elements, (opened_blob kind elements blob fits is, read))
