-- What of a payload is indexed and counted, each by tokens of its own (InsertUpdatePayloadV2 of libmongocrypt).
use Rattle.std.specs.Prelude.{List, [], ◌∷◌, Option, None, Some}
use Rattle.qe_parts.specs.declared.edges.EdgeTokens.{EdgeTokens}
use Rattle.qe_insert.specs.declared.insert.InsertPayload.{InsertPayload}

-- the value's own tokens
abbrev pub own_tokens : InsertPayload → EdgeTokens
own_tokens payload = record { d = payload.d; s = payload.s; l = payload.l; p = payload.p }

abbrev pub edges_or : EdgeTokens → Option (List EdgeTokens) → List EdgeTokens
edges_or own None = own ∷ []
edges_or own (Some edges) = edges

-- the edges of a range, in their order; else the value is the one item
abbrev pub items_of : InsertPayload → List EdgeTokens
items_of payload = edges_or (own_tokens payload) payload.g
