-- Blobs: one byte for the kind, and one document.
use Rattle.std.specs.Prelude.{◌≡◌, ℕ, zero, suc, ◌-◌, ◌==◌, List, [], ◌∷◌, length, bytes_eq, codes, if◌then◌else◌, Result, Ok, Err}
use Rattle.qe_value.specs.declared.fault.BsonFault.{BsonFault}
use Rattle.qe_value.specs.declared.fault.BsonFault.TheVariants.{At}
use Rattle.qe_value.specs.declared.fault.BsonKind.TheVariants.{Short}
use Rattle.qe_document.specs.Reading.{document_at}
use Rattle.qe_document.specs.Spelling.{Begins}
use Rattle.qe_layout.specs.declared.malformed.Kind.TheVariants.{Empty, BlobSubtype, Bson, Trailing}
use Rattle.qe_layout.specs.Refusal.{Refusal, wrong, inside_path}
use Rattle.qe_layout.specs.Layouts.{Element}

-- the path of the whole
abbrev pub whole : List ℕ
whole = codes "."

-- of what was read of so many bytes
abbrev pub decoded : ℕ → Result (List Element × ℕ) BsonFault → Result (List Element) Refusal
decoded count (Err fault) = wrong whole (Bson fault)
decoded count (Ok read) = if read.1 == count then Ok read.0 else wrong whole (Trailing (count - read.1))

-- a document with nothing after it
abbrev pub alone : List ℕ → Result (List Element) Refusal
alone bytes = decoded (length bytes) (document_at bytes)

-- no byte, another first byte, no document, and bytes behind it
abbrev pub opened : ℕ → List ℕ → Result (List Element) Refusal
opened kind [] = wrong whole Empty
opened kind (first ∷ rest) = if first == kind then alone rest else wrong whole (BlobSubtype first)

-- the blob is this first byte and the elements' document, and nothing else
pub record IsBlob (kind : ℕ) (elements : List Element) (blob : List ℕ) : Type 0 where
  pub rest : List ℕ
  pub first : blob ≡ kind ∷ rest
  pub document : Begins rest elements (length rest)

-- the refusal of what is left of a blob that is cut after so many bytes: it has no byte, or its document is short
abbrev pub cut_refusal : {A : Type 0} → ℕ → Result A Refusal
cut_refusal zero = wrong whole Empty
cut_refusal (suc count) = wrong whole (Bson (At count Short))

-- the path of the whole is the name alone
abbrev pub under_path : List ℕ → List ℕ → List ℕ
under_path name path = if bytes_eq path whole then name else inside_path name path

-- of a blob that stands under a name
abbrev pub read_under : {A : Type 0} → List ℕ → Result A Refusal → Result A Refusal
read_under name (Ok x) = Ok x
read_under name (Err refusal) = wrong (under_path name refusal.path) refusal.kind
