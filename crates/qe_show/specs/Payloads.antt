-- The lines that show payloads: the kind, and the parts by the names of InsertUpdatePayloadV2, FindEqualityPayloadV2
-- and FindRangePayloadV2 of libmongocrypt.
use Rattle.std.specs.Prelude.{ℕ, List, [], ◌∷◌, ◌++◌, length, codes, Option, Some, None}
use Rattle.std.specs.Fmt.{decimal}
use Rattle.std.specs.List.{AllByRecursion}
use Rattle.qe_document.specs.Spelling.{IsDocument}
use Rattle.qe_ecoc.specs.Forms.{cipher_bytes}
use Rattle.qe_find.specs.declared.equal.FindEqual.{FindEqual}
use Rattle.qe_parts.specs.declared.edges.EdgeTokens.{EdgeTokens}
use Rattle.qe_insert.specs.declared.insert.InsertPayload.{InsertPayload}
use Rattle.qe_parts.specs.declared.edges.FindEdge.{FindEdge}
use Rattle.qe_find.specs.declared.range.FindRange.{FindRange}
use Rattle.qe_layout.specs.Layouts.{Element}
use Rattle.qe_show.specs.Parts.{named, hex_part, number_part, uuid_part, token_part, parts_from, carried_parts}

-- the tokens of an edge, by the edge's place from 0
unfoldable pub edge_part : ℕ → EdgeTokens → List ℕ
edge_part place edge =
    token_part place (codes "d") edge.d ++ token_part place (codes "s") edge.s ++ token_part place (codes "l") edge.l
    ++ token_part place (codes "p") (cipher_bytes edge.p)

unfoldable pub find_edge_part : ℕ → FindEdge → List ℕ
find_edge_part place edge = token_part place (codes "d") edge.d ++ token_part place (codes "s") edge.s ++ token_part place (codes "l") edge.l

-- a payload of a value that isn't a range's has no edges
abbrev pub edges_parts : Option (List EdgeTokens) → List ℕ
edges_parts None = []
edges_parts (Some edges) = parts_from edge_part 0 edges

unfoldable pub insert_head : InsertPayload → List ℕ
insert_head p =
    codes "insert" ++ hex_part (codes "d") p.d ++ hex_part (codes "s") p.s ++ hex_part (codes "p") (cipher_bytes p.p) ++ uuid_part (codes "u") p.u
    ++ number_part (codes "t") p.t ++ hex_part (codes "v") p.v ++ hex_part (codes "e") p.e ++ hex_part (codes "l") p.l
    ++ number_part (codes "k") p.k

abbrev pub insert_line : InsertPayload → List ℕ
insert_line p = insert_head p ++ edges_parts p.g ++ carried_parts p.extra

unfoldable pub equal_line : FindEqual → List ℕ
equal_line p =
    codes "findEquality" ++ hex_part (codes "d") p.d ++ hex_part (codes "s") p.s ++ hex_part (codes "l") p.l ++ number_part (codes "cm") p.cm

-- the number of edges stands before them
abbrev pub range_head : FindRange → List ℕ
range_head p =
    codes "findRange" ++ number_part (codes "payloadId") p.payload_id ++ number_part (codes "cm") p.cm
    ++ named (codes "edges") (decimal (length p.g))

unfoldable pub range_line : FindRange → List ℕ
range_line p = range_head p ++ parts_from find_edge_part 0 p.g ++ carried_parts p.extra

-- each value stands in a document that was read, so it can be written
abbrev pub AreWritable : List Element → Type 0
AreWritable elements = AllByRecursion (λ e. IsDocument (([], e.1) ∷ [])) elements
