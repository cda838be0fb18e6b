-- How many bytes payloads have.
use Rattle.std.proofs.Common.{◌≡◌, ℕ, pos, ◌+◌, ◌≤◌, List, [], ◌∷◌, ◌++◌, length, map, Option, None, Some, refl, sym, ap, subst, ◌∙◌, arith}
use Rattle.std.specs.Prelude.{codes, replicate}
use Rattle.std.specs.List.{AllByRecursion}
use Rattle.qe_value.specs.declared.value.Plain.{Plain}
use Rattle.qe_value.specs.declared.value.Plain.TheVariants as p
use Rattle.qe_value.specs.Measures.{fields_length, length_field, value_length}
use Rattle.qe_encode.proofs.SizeLemmas.{document_lengths, value_length-Binary}
use Rattle.qe_ecoc.specs.Forms.{cipher_bytes}
use Rattle.qe_layout.specs.Layouts.{Element}
use Rattle.qe_parts.specs.declared.edges.EdgeTokens.{EdgeTokens}
use Rattle.qe_parts.specs.declared.edges.FindEdge.{FindEdge}
use Rattle.qe_parts.specs.Carried.{picked_one}
use Rattle.qe_parts.specs.Edges.{edge_elements, find_edge_elements}
use Rattle.qe_insert.specs.declared.insert.InsertPayload.{InsertPayload}
use Rattle.qe_insert.specs.Insert.{edges_value, insert_elements, written_insert}
use Rattle.qe_find.specs.declared.equal.FindEqual.{FindEqual}
use Rattle.qe_find.specs.declared.range.FindRange.{FindRange}
use Rattle.qe_find.specs.Equal.{written_equal}
use Rattle.qe_find.specs.Equal as e
use Rattle.qe_find.specs.Range.{inner_elements, range_elements, written_range}
use Rattle.qe_find.proofs.FitLemmas.{written_equal_length}
use Rattle.qe_fits.specs.Sizes.{array_of, binary_size, document_size, edge_size, edges_element, equal_size, insert_size, range_size, sealed_size, three_tokens}
use Rattle.qe_held.proofs.LengthLemmas.{array_counted, document_counted, length-Int32, length-Int64, same_size}

-- a binary is no longer than one of so many bytes
binary_short : (subtype : ℕ) (bytes : List ℕ) (count : ℕ) → length bytes ≤ count → value_length (p.Binary subtype bytes) ≤ binary_size count
binary_short subtype bytes count few = omega (arith, few, value_length-Binary subtype bytes)

token_short : (token : List ℕ) → length token ≡ 32 → value_length (p.Binary 0 token) ≤ binary_size 32
token_short token long = binary_short 0 token 32 (omega (arith, long))

-- an edge's tokens
pub record IsShortEdge (edge : EdgeTokens) : Type 0 where
  pub d : length edge.d ≡ 32
  pub s : length edge.s ≡ 32
  pub l : length edge.l ≡ 32
  pub p : length (cipher_bytes edge.p) ≤ 49

edge_short : (edge : EdgeTokens) → IsShortEdge edge → value_length (p.Doc (edge_elements edge)) ≤ edge_size
edge_short edge short =
    document_counted (edge_elements edge) (three_tokens ++ (codes "p", binary_size 49) ∷ []) (
      (refl, token_short edge.d short.d),
      ((refl, token_short edge.s short.s), ((refl, token_short edge.l short.l), ((refl, binary_short 0 (cipher_bytes edge.p) 49 short.p), tt))),
    )

edges_short : (edges : List EdgeTokens) → AllByRecursion IsShortEdge edges → AllByRecursion (λ edge. value_length (p.Doc (edge_elements edge)) ≤ edge_size) edges
edges_short [] each = tt
edges_short (edge ∷ edges) each = (edge_short edge each.0, edges_short edges each.1)

-- the edges, where there are any: so many
abbrev pub AreCountedEdges : Option (List EdgeTokens) → Option ℕ → Type 0
AreCountedEdges None None = Unit {0}
AreCountedEdges None (Some count) = ⊥
AreCountedEdges (Some edges) None = ⊥
AreCountedEdges (Some edges) (Some count) = (length edges ≡ count) × AllByRecursion IsShortEdge edges

-- what is asked of a value's payload
pub record IsShortInsert (payload : InsertPayload) (count : ℕ) (edges : Option ℕ) : Type 0 where
  pub d : length payload.d ≡ 32
  pub s : length payload.s ≡ 32
  pub e : length payload.e ≡ 32
  pub l : length payload.l ≡ 32
  pub p : length (cipher_bytes payload.p) ≤ 48
  pub u : length payload.u ≡ 16
  pub v : length payload.v ≡ 16 + sealed_size count
  pub g : AreCountedEdges payload.g edges
  pub extra : payload.extra ≡ []

tail_short : (g : Option (List EdgeTokens)) (extra : List Element) (edges : Option ℕ) → AreCountedEdges g edges → extra ≡ []
    → fields_length (map length_field (picked_one (codes "g") (edges_value g) ++ extra)) ≤ fields_length (edges_element edges)
tail_short None extra None are none = let is = ap (λ (es : List Element). fields_length (map length_field es)) none in omega (arith, is)
tail_short None extra (Some count) are none = absurd are
tail_short (Some edges) extra None are none = absurd are
tail_short (Some edges) extra (Some count) are none =
    let is = ap (λ (es : List Element). fields_length (map length_field es)) none in
    let array = array_counted (map (λ edge. p.Doc (edge_elements edge)) edges) (replicate (length edges) edge_size)
    (same_size (λ edge. p.Doc (edge_elements edge)) edge_size edges (edges_short edges are.1)) in
    let many = ap (λ n. array_of n edge_size) are.0 in
    omega (arith, is, array, many)

-- a value's payload is no longer than was counted
pub insert_short : (payload : InsertPayload) (count : ℕ) (edges : Option ℕ) → IsShortInsert payload count edges
    → value_length (p.Binary 6 (written_insert payload)) ≤ binary_size (insert_size count edges)
unfolding written_insert
insert_short payload count edges short =
    let rest = picked_one (codes "g") (edges_value payload.g) ++ payload.extra in
    let tail = tail_short payload.g payload.extra edges short.g short.extra in
    let whole = document_lengths (insert_elements payload) in
    let blob = value_length-Binary 6 (written_insert payload) in
    let d = value_length-Binary 0 payload.d in
    let s = value_length-Binary 0 payload.s in
    let p_is = value_length-Binary 0 (cipher_bytes payload.p) in
    let u = value_length-Binary 4 payload.u in
    let t = length-Int32 payload.t in
    let v = value_length-Binary 0 payload.v in
    let e_is = value_length-Binary 0 payload.e in
    let l = value_length-Binary 0 payload.l in
    let k = length-Int64 payload.k in
    omega (arith, tail, whole, blob, d, s, p_is, u, t, v, e_is, l, k, short.d, short.s, short.p, short.u, short.v, short.e, short.l)

-- the payload of an equality term
pub equal_short : (payload : FindEqual) → e.HasLongTokens payload → value_length (p.Binary 6 (written_equal payload)) ≤ binary_size equal_size
equal_short payload long = let is = written_equal_length payload long in omega (arith, is, value_length-Binary 6 (written_equal payload))

-- a prefix's tokens
pub record IsShortFindEdge (edge : FindEdge) : Type 0 where
  pub d : length edge.d ≡ 32
  pub s : length edge.s ≡ 32
  pub l : length edge.l ≡ 32

find_edges_short : (edges : List FindEdge) → AllByRecursion IsShortFindEdge edges
    → AllByRecursion (λ edge. value_length (p.Doc (find_edge_elements edge)) ≤ document_size three_tokens) edges
find_edges_short [] each = tt
find_edges_short (edge ∷ edges) each = (
  document_counted (find_edge_elements edge) three_tokens
      ((refl, token_short edge.d each.0.d), ((refl, token_short edge.s each.0.s), ((refl, token_short edge.l each.0.l), tt))),
  find_edges_short edges each.1,
)

-- the payload of an interval
pub record IsShortRange (payload : FindRange) (count : ℕ) : Type 0 where
  pub edges : AllByRecursion IsShortFindEdge payload.g
  pub many : length payload.g ≡ count
  pub extra : payload.extra ≡ []

pub range_short : (payload : FindRange) (count : ℕ) → IsShortRange payload count → value_length (p.Binary 6 (written_range payload)) ≤ binary_size (range_size count)
unfolding written_range
range_short payload count short =
    let array = array_counted (map (λ edge. p.Doc (find_edge_elements edge)) payload.g) (replicate (length payload.g) (document_size three_tokens))
    (same_size (λ edge. p.Doc (find_edge_elements edge)) (document_size three_tokens) payload.g (find_edges_short payload.g short.edges)) in
    let many = ap (λ n. array_of n (document_size three_tokens)) short.many in
    let cm = length-Int64 payload.cm in
    let inner = document_counted (inner_elements payload) ((codes "g", array_of count (document_size three_tokens)) ∷ (codes "cm", 8) ∷ [])
    ((refl, omega (arith, array, many)), ((refl, omega (arith, cm)), tt)) in
    let none = ap (λ (es : List Element). fields_length (map length_field es)) short.extra in
    let whole = document_lengths (range_elements payload) in
    let blob = value_length-Binary 6 (written_range payload) in
    let id = length-Int32 payload.payload_id in
    let first = length-Int32 (pos 2) in
    let second = length-Int32 (pos 4) in
    omega (arith, inner, none, whole, blob, id, first, second)
