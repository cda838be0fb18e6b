-- FindRangePayloadV2 of libmongocrypt: tokens of the edges of a range, the greatest contention factor, and the range's two operators.
use Rattle.std.specs.Prelude.{◌≡◌, ◌≤◌, ◌≤ℤ◌, ℕ, pos, length, List, [], ◌∷◌, ◌++◌, map, false, codes, Option, Some, Result}
use Rattle.qe_document.specs.Names.{value_named}
use Rattle.qe_document.specs.Spelling.{document_bytes}
use Rattle.qe_value.specs.declared.value.Plain.{Plain}
use Rattle.qe_value.specs.declared.value.Plain.TheVariants.{Array, Doc, Int32, Int64}
use Rattle.qe_layout.specs.declared.malformed.Kind.TheVariants.{ProfileOperator}
use Rattle.qe_layout.specs.Blobs.{opened, IsBlob}
use Rattle.qe_layout.specs.Documents.{document_reads, bounded_reads}
use Rattle.qe_layout.specs.Layouts.{Element, Reader, Row, Rows, needed, rows_of, reads_of, in_slot, built, IsBuilt}
use Rattle.qe_layout.specs.Refusal.{Refusal, bind, map_read}
use Rattle.qe_parts.specs.declared.edges.FindEdge.{FindEdge}
use Rattle.qe_find.specs.declared.range.FindRange.{FindRange}
use Rattle.qe_parts.specs.declared.edges.Inner.{Inner}
use Rattle.qe_parts.specs.declared.parts.Part.{Part}
use Rattle.qe_parts.specs.declared.parts.Part.TheVariants as part
use Rattle.qe_parts.specs.Edges.{find_edge_elements, HasEach, HasFindEdge}
use Rattle.qe_parts.specs.Carried.{extra_names, extra_table, extra_in, picked}
use Rattle.qe_parts.specs.Parts.{token, whole, number, operator, token_in, whole_in, number_in}

-- an edge: its three tokens
abbrev pub find_edge_table : List (Row Part)
find_edge_table = needed (codes "d") token ∷ needed (codes "s") token ∷ needed (codes "l") token ∷ []

abbrev pub find_edge_rows : Rows
find_edge_rows = rows_of find_edge_table

unfoldable pub find_edge_reads : Reader Part
find_edge_reads name value = reads_of find_edge_table name value

abbrev pub find_edge_build : List (Option Part) → FindEdge
find_edge_build slots = record { d = token_in (in_slot slots 0); s = token_in (in_slot slots 1); l = token_in (in_slot slots 2) }

unfoldable pub find_edge_of : List Element → Result FindEdge Refusal
find_edge_of elements = built find_edge_reads find_edge_rows find_edge_build elements

unfoldable pub find_edge_item : Reader FindEdge
find_edge_item name value = document_reads find_edge_of name value

-- the greatest number of edges
abbrev pub most_find_edges : ℕ
most_find_edges = 4096

-- an array of at most 4,096 edges
abbrev pub find_edges : Reader Part
find_edges name value = map_read (λ g. part.FindEdges g) (bounded_reads false most_find_edges find_edge_item name value)

abbrev pub find_edges_in : Option Part → List FindEdge
find_edges_in (Some (part.FindEdges g)) = g
find_edges_in _ = []

-- the document of the edges and of the greatest contention factor
abbrev pub inner_table : List (Row Part)
inner_table = needed (codes "g") find_edges ∷ needed (codes "cm") number ∷ []

abbrev pub inner_rows : Rows
inner_rows = rows_of inner_table

unfoldable pub inner_reads : Reader Part
inner_reads name value = reads_of inner_table name value

abbrev pub inner_build : List (Option Part) → Inner
inner_build slots = record { g = find_edges_in (in_slot slots 0); cm = number_in (in_slot slots 1) }

unfoldable pub inner_of : List Element → Result Inner Refusal
inner_of elements = built inner_reads inner_rows inner_build elements

abbrev pub inner : Reader Part
inner name value = map_read (λ i. part.Inner i) (document_reads inner_of name value)

abbrev pub inner_in : Option Part → Inner
inner_in (Some (part.Inner i)) = i
inner_in _ = record { g = []; cm = pos 0 }

-- a range has both operators: the lack of the second is a wrong operator
abbrev pub range_table : List (Row Part)
range_table =
    needed (codes "payload") inner ∷ needed (codes "payloadId") whole ∷ needed (codes "firstOperator") (operator (pos 2))
    ∷ record { name = codes "secondOperator"; need = Some ProfileOperator; reads = operator (pos 4) } ∷ extra_table

abbrev pub range_rows : Rows
range_rows = rows_of range_table

unfoldable pub range_reads : Reader Part
range_reads name value = reads_of range_table name value

abbrev pub range_build : List (Option Part) → FindRange
range_build slots = record {
  g = (inner_in (in_slot slots 0)).g;
  cm = (inner_in (in_slot slots 0)).cm;
  payload_id = whole_in (in_slot slots 1);
  extra = extra_in (in_slot slots 4) (in_slot slots 5) (in_slot slots 6) (in_slot slots 7) (in_slot slots 8);
}

-- the payload of a document's elements, or the first refusal
unfoldable pub range_of : List Element → Result FindRange Refusal
range_of elements = built range_reads range_rows range_build elements

-- the payload of a blob, whose first byte is 13
unfoldable pub range_at : List ℕ → Result FindRange Refusal
range_at blob = bind (opened 13 blob) range_of

-- each element once, the optional ones at most once, in any order, and no other
abbrev pub IsRange : FindRange → List Element → Type 0
IsRange payload elements = IsBuilt range_reads range_rows range_build payload elements

-- the first byte is 13
pub record IsRangeBlob (payload : FindRange) (blob : List ℕ) : Type 0 where
  pub elements : List Element
  pub blob_is : IsBlob 13 elements blob
  pub payload_is : IsRange payload elements

-- what the elements have under each name
pub record HasRange (payload : FindRange) (elements : List Element) : Type 0 where
  pub inner : List Element
  pub items : List Plain
  pub payload_doc : value_named (codes "payload") elements ≡ Some (Doc inner)
  pub g : value_named (codes "g") inner ≡ Some (Array items)
  pub edges : HasEach HasFindEdge payload.g items
  pub cm : value_named (codes "cm") inner ≡ Some (Int64 payload.cm)
  pub payload_id : value_named (codes "payloadId") elements ≡ Some (Int32 payload.payload_id)
  pub first : value_named (codes "firstOperator") elements ≡ Some (Int32 (pos 2))
  pub second : value_named (codes "secondOperator") elements ≡ Some (Int32 (pos 4))
  pub extra : payload.extra ≡ picked extra_names elements

abbrev pub inner_elements : FindRange → List Element
inner_elements payload = (codes "g", Array (map (λ edge. Doc (find_edge_elements edge)) payload.g)) ∷ (codes "cm", Int64 payload.cm) ∷ []

-- the needed elements, round an inner document
abbrev pub head_elements : FindRange → List Element → List Element
head_elements payload inner =
    (codes "payload", Doc inner) ∷ (codes "payloadId", Int32 payload.payload_id) ∷ (codes "firstOperator", Int32 (pos 2))
    ∷ (codes "secondOperator", Int32 (pos 4)) ∷ []

abbrev pub range_elements : FindRange → List Element
range_elements payload = head_elements payload (inner_elements payload) ++ payload.extra

unfoldable pub written_range : FindRange → List ℕ
written_range payload = 13 ∷ document_bytes (range_elements payload)

-- an edge's tokens have their lengths
pub record HasLongFindTokens (edge : FindEdge) : Type 0 where
  pub d : length edge.d ≡ 32
  pub s : length edge.s ≡ 32
  pub l : length edge.l ≡ 32

-- what is asked of a payload that is written
pub record FitsRange (payload : FindRange) : Type 0 where
  pub factor : pos 0 ≤ℤ payload.cm
  pub edges : length payload.g ≤ 4096
  pub extra : payload.extra ≡ picked extra_names payload.extra
