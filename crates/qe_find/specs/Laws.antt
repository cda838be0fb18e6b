-- The laws of find payloads.
use Rattle.std.specs.Prelude.{◌≡◌, ℕ, ◌+◌, ◌≤ℤ◌, pos, List, length}
use Rattle.qe_document.specs.Measures.{document_length}
use Rattle.qe_layout.specs.Layouts.{Element}
use Rattle.qe_parts.specs.Laws.{PayloadLaws}
use Rattle.qe_find.specs.declared.equal.FindEqual.{FindEqual}
use Rattle.qe_find.specs.declared.range.FindRange.{FindRange}
use Rattle.qe_find.specs.Equal.{equal_at, written_equal, HasEqual, HasLongTokens, IsEqual, IsEqualBlob}
use Rattle.qe_find.specs.Range.{range_at, range_elements, written_range, FitsRange, HasRange, IsRange, IsRangeBlob}

-- a blob is one find of equality at most, each of whose values stands in the document; it can be written, and has then
-- 138 bytes
pub record EqualLaws : Type 0 where
  pub blobs : PayloadLaws equal_at IsEqualBlob
  pub has : (payload : FindEqual) (elements : List Element) → IsEqual payload elements → HasEqual payload elements
  pub fits : (payload : FindEqual) (blob : List ℕ) → IsEqualBlob payload blob → pos 0 ≤ℤ payload.cm
  pub long : (payload : FindEqual) → HasLongTokens payload → length (written_equal payload) ≡ 138

-- the same of a find of a range, which has as many bytes as its document and one
pub record RangeLaws : Type 0 where
  pub blobs : PayloadLaws range_at IsRangeBlob
  pub has : (payload : FindRange) (elements : List Element) → IsRange payload elements → HasRange payload elements
  pub fits : (payload : FindRange) (blob : List ℕ) → IsRangeBlob payload blob → FitsRange payload
  pub long : (payload : FindRange) → length (written_range payload) ≡ document_length (range_elements payload) + 1
