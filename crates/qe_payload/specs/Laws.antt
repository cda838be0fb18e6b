-- The laws of all payloads.
use Rattle.std.specs.Prelude.{◌≡◌, ℕ, ◌+◌, ◌≤ℤ◌, pos, List, length}
use Rattle.qe_document.specs.Measures.{document_length}
use Rattle.qe_layout.specs.Layouts.{Element}
use Rattle.qe_find.specs.declared.equal.FindEqual.{FindEqual}
use Rattle.qe_insert.specs.declared.insert.InsertPayload.{InsertPayload}
use Rattle.qe_find.specs.declared.range.FindRange.{FindRange}
use Rattle.qe_find.specs.Equal.{written_equal, HasEqual, HasLongTokens, IsEqual, IsEqualBlob}
use Rattle.qe_insert.specs.Insert.{insert_elements, written_insert, FitsInsert, HasInsert, IsInsert, IsInsertBlob}
use Rattle.qe_find.specs.Range.{range_elements, written_range, FitsRange, HasRange, IsRange, IsRangeBlob}

-- how many bytes the written payloads have
pub record WrittenLengths : Type 0 where
  pub insert : (payload : InsertPayload) → length (written_insert payload) ≡ document_length (insert_elements payload) + 1
  pub equal : (payload : FindEqual) → HasLongTokens payload → length (written_equal payload) ≡ 138
  pub range : (payload : FindRange) → length (written_range payload) ≡ document_length (range_elements payload) + 1

-- each value of a payload stands in its document, under its name
pub record WhatIsRead : Type 0 where
  pub insert : (payload : InsertPayload) (elements : List Element) → IsInsert payload elements → HasInsert payload elements
  pub equal : (payload : FindEqual) (elements : List Element) → IsEqual payload elements → HasEqual payload elements
  pub range : (payload : FindRange) (elements : List Element) → IsRange payload elements → HasRange payload elements

-- what a blob is laid out as can be written
pub record WhatIsReadFits : Type 0 where
  pub insert : (payload : InsertPayload) (blob : List ℕ) → IsInsertBlob payload blob → FitsInsert payload
  pub equal : (payload : FindEqual) (blob : List ℕ) → IsEqualBlob payload blob → pos 0 ≤ℤ payload.cm
  pub range : (payload : FindRange) (blob : List ℕ) → IsRangeBlob payload blob → FitsRange payload
