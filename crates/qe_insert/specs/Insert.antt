-- InsertUpdatePayloadV2 of libmongocrypt: tokens of a value, the sealed value, and for a range the tokens of its edges.
use Rattle.std.specs.Prelude.{◌≡◌, ◌≤◌, ◌≤ℤ◌, pos, ℕ, List, [], ◌∷◌, ◌++◌, length, map, true, codes, Option, None, Some, Result, Ok}
use Rattle.std.specs.List.{AllByRecursion}
use Rattle.qe_document.specs.Names.{value_named}
use Rattle.qe_document.specs.Spelling.{document_bytes}
use Rattle.qe_value.specs.declared.value.Plain.{Plain}
use Rattle.qe_value.specs.declared.value.Plain.TheVariants.{Array, Binary, Doc, Int32, Int64}
use Rattle.qe_ecoc.specs.Forms.{cipher_bytes, cipher_from}
use Rattle.qe_layout.specs.Blobs.{opened, IsBlob}
use Rattle.qe_layout.specs.Documents.{document_reads, bounded_reads}
use Rattle.qe_layout.specs.Layouts.{Element, Reader, Row, Rows, needed, optional, rows_of, reads_of, in_slot, built, IsBuilt}
use Rattle.qe_layout.specs.Refusal.{Refusal, bind, map_read}
use Rattle.qe_parts.specs.declared.edges.EdgeTokens.{EdgeTokens}
use Rattle.qe_insert.specs.declared.insert.InsertPayload.{InsertPayload}
use Rattle.qe_parts.specs.declared.parts.Part.{Part}
use Rattle.qe_parts.specs.declared.parts.Part.TheVariants.{Edges}
use Rattle.qe_parts.specs.Edges.{edge_elements, HasEach, HasEdge}
use Rattle.qe_parts.specs.Carried.{extra_names, extra_table, extra_in, picked_one, picked}
use Rattle.qe_parts.specs.Parts.{token, cipher, key_id, sealed, whole, number, token_in, cipher_in, key_id_in, sealed_in, whole_in, number_in}

-- an edge: its three tokens, and the ciphered token of rows
abbrev pub edge_table : List (Row Part)
edge_table = needed (codes "d") token ∷ needed (codes "s") token ∷ needed (codes "l") token ∷ needed (codes "p") cipher ∷ []

abbrev pub edge_rows : Rows
edge_rows = rows_of edge_table

unfoldable pub edge_reads : Reader Part
edge_reads name value = reads_of edge_table name value

abbrev pub edge_build : List (Option Part) → EdgeTokens
edge_build slots =
    record { d = token_in (in_slot slots 0); s = token_in (in_slot slots 1); l = token_in (in_slot slots 2); p = cipher_in (in_slot slots 3) }

unfoldable pub edge_of : List Element → Result EdgeTokens Refusal
edge_of elements = built edge_reads edge_rows edge_build elements

unfoldable pub edge_item : Reader EdgeTokens
edge_item name value = document_reads edge_of name value

-- the greatest number of edges
abbrev pub most_edges : ℕ
most_edges = 65

-- an array of 1 to 65 edges
abbrev pub edges : Reader Part
edges name value = map_read (λ g. Edges g) (bounded_reads true most_edges edge_item name value)

abbrev pub edges_in : Option Part → Option (List EdgeTokens)
edges_in (Some (Edges g)) = Some g
edges_in _ = None

abbrev pub insert_table : List (Row Part)
insert_table =
    needed (codes "d") token ∷ needed (codes "s") token ∷ needed (codes "p") cipher ∷ needed (codes "u") key_id ∷ needed (codes "t") whole
    ∷ needed (codes "v") sealed ∷ needed (codes "e") token ∷ needed (codes "l") token ∷ needed (codes "k") number
    ∷ optional (codes "g") edges ∷ extra_table

abbrev pub insert_rows : Rows
insert_rows = rows_of insert_table

unfoldable pub insert_reads : Reader Part
insert_reads name value = reads_of insert_table name value

abbrev pub insert_build : List (Option Part) → InsertPayload
insert_build slots = record {
  d = token_in (in_slot slots 0);
  s = token_in (in_slot slots 1);
  p = cipher_in (in_slot slots 2);
  u = key_id_in (in_slot slots 3);
  t = whole_in (in_slot slots 4);
  v = sealed_in (in_slot slots 5);
  e = token_in (in_slot slots 6);
  l = token_in (in_slot slots 7);
  k = number_in (in_slot slots 8);
  g = edges_in (in_slot slots 9);
  extra = extra_in (in_slot slots 10) (in_slot slots 11) (in_slot slots 12) (in_slot slots 13) (in_slot slots 14);
}

-- the payload of a document's elements, or the first refusal
unfoldable pub insert_of : List Element → Result InsertPayload Refusal
insert_of elements = built insert_reads insert_rows insert_build elements

-- the payload of a blob, whose first byte is 11
unfoldable pub insert_at : List ℕ → Result InsertPayload Refusal
insert_at blob = bind (opened 11 blob) insert_of

-- each element once, the optional ones at most once, in any order, and no other
abbrev pub IsInsert : InsertPayload → List Element → Type 0
IsInsert payload elements = IsBuilt insert_reads insert_rows insert_build payload elements

-- the first byte is 11
pub record IsInsertBlob (payload : InsertPayload) (blob : List ℕ) : Type 0 where
  pub elements : List Element
  pub blob_is : IsBlob 11 elements blob
  pub payload_is : IsInsert payload elements

-- an array of the edges is there, where there are edges
abbrev pub HasEdges : Option (List EdgeTokens) → Option Plain → Type 0
HasEdges None found = found ≡ None
HasEdges (Some edges) found = (items : List Plain) × ((found ≡ Some (Array items)) × HasEach HasEdge edges items)

-- what the elements have under each name
pub record HasInsert (payload : InsertPayload) (elements : List Element) : Type 0 where
  pub d : value_named (codes "d") elements ≡ Some (Binary 0 payload.d)
  pub s : value_named (codes "s") elements ≡ Some (Binary 0 payload.s)
  pub p : value_named (codes "p") elements ≡ Some (Binary 0 (cipher_bytes payload.p))
  pub u : value_named (codes "u") elements ≡ Some (Binary 4 payload.u)
  pub t : value_named (codes "t") elements ≡ Some (Int32 payload.t)
  pub v : value_named (codes "v") elements ≡ Some (Binary 0 payload.v)
  pub e : value_named (codes "e") elements ≡ Some (Binary 0 payload.e)
  pub l : value_named (codes "l") elements ≡ Some (Binary 0 payload.l)
  pub k : value_named (codes "k") elements ≡ Some (Int64 payload.k)
  pub g : HasEdges payload.g (value_named (codes "g") elements)
  pub extra : payload.extra ≡ picked extra_names elements

abbrev pub edges_value : Option (List EdgeTokens) → Option Plain
edges_value None = None
edges_value (Some edges) = Some (Array (map (λ edge. Doc (edge_elements edge)) edges))

abbrev pub needed_elements : InsertPayload → List Element
needed_elements payload =
    (codes "d", Binary 0 payload.d) ∷ (codes "s", Binary 0 payload.s) ∷ (codes "p", Binary 0 (cipher_bytes payload.p)) ∷ (codes "u", Binary 4 payload.u)
    ∷ (codes "t", Int32 payload.t) ∷ (codes "v", Binary 0 payload.v) ∷ (codes "e", Binary 0 payload.e) ∷ (codes "l", Binary 0 payload.l)
    ∷ (codes "k", Int64 payload.k) ∷ []

abbrev pub insert_elements : InsertPayload → List Element
insert_elements payload = needed_elements payload ++ (picked_one (codes "g") (edges_value payload.g) ++ payload.extra)

unfoldable pub written_insert : InsertPayload → List ℕ
written_insert payload = 11 ∷ document_bytes (insert_elements payload)

-- edges, where there are any, are 1 to 65
abbrev pub FewEdges : Option (List EdgeTokens) → Type 0
FewEdges None = Unit {0}
FewEdges (Some edges) = (1 ≤ length edges) × (length edges ≤ most_edges)

-- tokens and ids have their lengths, and a cipher is that of its bytes
pub record HasLongParts (payload : InsertPayload) : Type 0 where
  pub d : length payload.d ≡ 32
  pub s : length payload.s ≡ 32
  pub p : cipher_from (cipher_bytes payload.p) ≡ Some payload.p
  pub u : length payload.u ≡ 16
  pub e : length payload.e ≡ 32
  pub l : length payload.l ≡ 32

-- the same of an edge
pub record HasLongTokens (edge : EdgeTokens) : Type 0 where
  pub d : length edge.d ≡ 32
  pub s : length edge.s ≡ 32
  pub l : length edge.l ≡ 32
  pub p : cipher_from (cipher_bytes edge.p) ≡ Some edge.p

-- edges, where there are any, are read again as they are written
abbrev pub AreAgain : Option (List EdgeTokens) → Type 0
AreAgain None = Unit {0}
AreAgain (Some edges) = AllByRecursion (λ edge. edge_of (edge_elements edge) ≡ Ok edge) edges

-- what is asked of a payload that is written
pub record FitsInsert (payload : InsertPayload) : Type 0 where
  pub value : 80 ≤ length payload.v
  pub factor : pos 0 ≤ℤ payload.k
  pub edges : FewEdges payload.g
  pub extra : payload.extra ≡ picked extra_names payload.extra
