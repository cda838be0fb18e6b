-- The laws of insert payloads.
use Rattle.std.specs.Prelude.{◌≡◌, ℕ, ◌+◌, List, length}
use Rattle.qe_document.specs.Measures.{document_length}
use Rattle.qe_layout.specs.Layouts.{Element}
use Rattle.qe_parts.specs.Laws.{PayloadLaws}
use Rattle.qe_insert.specs.declared.insert.InsertPayload.{InsertPayload}
use Rattle.qe_insert.specs.Insert.{insert_at, insert_elements, written_insert, FitsInsert, HasInsert, IsInsert, IsInsertBlob}

-- a blob is one insert payload at most, each of whose values stands in the document; it can be written, and has then as
-- many bytes as its document and one
pub record InsertLaws : Type 0 where
  pub blobs : PayloadLaws insert_at IsInsertBlob
  pub has : (payload : InsertPayload) (elements : List Element) → IsInsert payload elements → HasInsert payload elements
  pub fits : (payload : InsertPayload) (blob : List ℕ) → IsInsertBlob payload blob → FitsInsert payload
  pub long : (payload : InsertPayload) → length (written_insert payload) ≡ document_length (insert_elements payload) + 1
