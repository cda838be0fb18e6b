-- FindEqualityPayloadV2 of libmongocrypt: tokens of an item, and the greatest contention factor.
use Rattle.std.specs.Prelude.{ℕ, ◌≡◌, List, [], ◌∷◌, length, codes, Option, Some, Result}
use Rattle.qe_document.specs.Names.{value_named}
use Rattle.qe_document.specs.Spelling.{document_bytes}
use Rattle.qe_value.specs.declared.value.Plain.TheVariants.{Binary, Int64}
use Rattle.qe_layout.specs.Blobs.{opened, IsBlob}
use Rattle.qe_layout.specs.Layouts.{Element, Reader, Row, Rows, needed, rows_of, reads_of, in_slot, built, IsBuilt}
use Rattle.qe_layout.specs.Refusal.{Refusal, bind}
use Rattle.qe_find.specs.declared.equal.FindEqual.{FindEqual}
use Rattle.qe_parts.specs.declared.parts.Part.{Part}
use Rattle.qe_parts.specs.Parts.{token, number, token_in, number_in}

abbrev pub equal_table : List (Row Part)
equal_table = needed (codes "d") token ∷ needed (codes "s") token ∷ needed (codes "l") token ∷ needed (codes "cm") number ∷ []

abbrev pub equal_rows : Rows
equal_rows = rows_of equal_table

unfoldable pub equal_reads : Reader Part
equal_reads name value = reads_of equal_table name value

abbrev pub equal_build : List (Option Part) → FindEqual
equal_build slots =
    record { d = token_in (in_slot slots 0); s = token_in (in_slot slots 1); l = token_in (in_slot slots 2); cm = number_in (in_slot slots 3) }

-- the payload of a document's elements, or the first refusal
unfoldable pub equal_of : List Element → Result FindEqual Refusal
equal_of elements = built equal_reads equal_rows equal_build elements

-- the payload of a blob, whose first byte is 12
unfoldable pub equal_at : List ℕ → Result FindEqual Refusal
equal_at blob = bind (opened 12 blob) equal_of

-- each element once, in any order, and no other
abbrev pub IsEqual : FindEqual → List Element → Type 0
IsEqual payload elements = IsBuilt equal_reads equal_rows equal_build payload elements

-- the first byte is 12
pub record IsEqualBlob (payload : FindEqual) (blob : List ℕ) : Type 0 where
  pub elements : List Element
  pub blob_is : IsBlob 12 elements blob
  pub payload_is : IsEqual payload elements

-- what the elements have under each name
pub record HasEqual (payload : FindEqual) (elements : List Element) : Type 0 where
  pub d : value_named (codes "d") elements ≡ Some (Binary 0 payload.d)
  pub s : value_named (codes "s") elements ≡ Some (Binary 0 payload.s)
  pub l : value_named (codes "l") elements ≡ Some (Binary 0 payload.l)
  pub cm : value_named (codes "cm") elements ≡ Some (Int64 payload.cm)

-- the elements in written order
abbrev pub equal_elements : FindEqual → List Element
equal_elements payload =
    (codes "d", Binary 0 payload.d) ∷ (codes "s", Binary 0 payload.s) ∷ (codes "l", Binary 0 payload.l) ∷ (codes "cm", Int64 payload.cm) ∷ []

unfoldable pub written_equal : FindEqual → List ℕ
written_equal payload = 12 ∷ document_bytes (equal_elements payload)

-- the tokens have 32 bytes
pub record HasLongTokens (payload : FindEqual) : Type 0 where
  pub d : length payload.d ≡ 32
  pub s : length payload.s ≡ 32
  pub l : length payload.l ≡ 32
