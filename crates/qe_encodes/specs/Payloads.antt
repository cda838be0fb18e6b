-- What is sent of a value and of a term: tokens by the token tree, and the value sealed.
use Rattle.std.specs.Prelude.{ℕ, ◌+◌, ◌==◌, pos, List, [], ◌∷◌, ◌++◌, map, Bool, true, false, Option, None, Some, if◌then◌else◌}
use Rattle.qe_seal.specs.Sealed.{sealed_body, seal_mac}
use Rattle.qe_tokens.specs.Labels.{row_token, tag_token}
use Rattle.qe_tokens.specs.Tokens.{collections_of, ecoc_of, edc_of, edc_derived_of, esc_of, esc_derived_of, server_cipher_of, server_derived_of, server_token_of}
use Rattle.qe_tokens.specs.declared.words.Word.TheVariants.{Item}
use Rattle.qe_value.specs.declared.value.Plain.{Plain}
use Rattle.qe_edges.specs.declared.edge.Edge.{Edge}
use Rattle.qe_edges.specs.Rules.{Rules, bits_of}
use Rattle.qe_edges.specs.Texts.{text_of}
use Rattle.qe_field.specs.declared.field.FieldKind.{FieldKind}
use Rattle.qe_field.specs.declared.field.FieldKind.TheVariants as k
use Rattle.qe_ecoc.specs.Opening.{written}
use Rattle.qe_parts.specs.declared.edges.EdgeTokens.{EdgeTokens}
use Rattle.qe_parts.specs.declared.edges.FindEdge.{FindEdge}
use Rattle.qe_insert.specs.declared.insert.InsertPayload.{InsertPayload}
use Rattle.qe_find.specs.declared.equal.FindEqual.{FindEqual}
use Rattle.qe_plain.specs.declared.command.Pair.{Pair}
use Rattle.qe_plain.specs.declared.command.Term.{Term}
use Rattle.qe_plain.specs.declared.command.Term.TheVariants as term
use Rattle.qe_tokens.specs.declared.words.FieldToken.{FieldToken}
use Rattle.qe_command.specs.declared.cells.SentCell.{SentCell}
use Rattle.qe_command.specs.declared.cells.SentCell.TheVariants as sent
use Rattle.qe_command.specs.declared.filter.SentTerm.{SentTerm}
use Rattle.qe_command.specs.declared.filter.SentTerm.TheVariants as t
use Rattle.qe_command_document.specs.Values.{value_of}
use Rattle.qe_labels.specs.Under.{Under, key_of, root_of}
use Rattle.qe_encodes.specs.Fields.{kind_at}
use Rattle.qe_encodes.specs.Items.{bytes_of, value_edges, cover_in}
use Rattle.qe_encodes.specs.Callers.{Contentions, contention_of}

-- what is drawn for an encrypted value: a contention factor, and IVs for the sealed value, for the token that a
-- compaction reads, and for that of each edge by its place
pub record Drawn : Type 0 where
  pub factor : ℕ
  pub value_iv : List ℕ
  pub token_iv : List ℕ
  pub edge_iv : ℕ → List ℕ

-- the bytes sealed under a data key and its id, and an IV
abbrev pub seal_of : List ℕ → List ℕ → List ℕ → List ℕ → List ℕ
seal_of key id iv plain = sealed_body key iv plain ++ seal_mac key id (sealed_body key iv plain)

-- whether an edge is at the leaf level, as a byte, where it is said
abbrev pub leaf_byte : Bool → Rules → Edge → Option ℕ
leaf_byte false domain edge = None
leaf_byte true domain edge = Some (if edge.len == bits_of domain then 1 else 0)

module _ (u : Under) where
  -- the field's token for compaction and cleanup
  abbrev pub ecoc_token : ℕ → List ℕ
  ecoc_token field = ecoc_of (collections_of (root_of u field))

  -- the key of stored values, and the item's token of blocks
  abbrev pub cipher_token : ℕ → List ℕ
  cipher_token field = server_cipher_of (root_of u field)

  abbrev pub block_token : ℕ → List ℕ → List ℕ
  block_token field item = server_derived_of (server_token_of (root_of u field)) item

  -- an item's tokens without a factor, by which it is looked for
  abbrev pub find_tokens : ℕ → List ℕ → FindEdge
  find_tokens field item = record {
    d = edc_derived_of (edc_of (collections_of (root_of u field))) item;
    s = esc_derived_of (esc_of (collections_of (root_of u field))) item;
    l = block_token field item;
  }

  -- an item's tokens under a factor; its token of rows stands also behind an IV, for a compaction
  abbrev pub item_tokens : ℕ → ℕ → List ℕ → List ℕ → Option ℕ → EdgeTokens
  item_tokens field factor item iv leaf = record {
    d = tag_token (root_of u) (Item field item factor);
    s = row_token (root_of u) (Item field item factor);
    l = block_token field item;
    p = written (ecoc_token field) iv (row_token (root_of u) (Item field item factor)) leaf;
  }

  -- the edges of a range, each with the IV of its place, the first edge's place given
  abbrev pub sent_edges : Bool → ℕ → Rules → Drawn → List Edge → ℕ → List EdgeTokens
  sent_edges leaves field domain drawn [] place = []
  sent_edges leaves field domain drawn (edge ∷ edges) place =
      item_tokens field drawn.factor (text_of edge) (drawn.edge_iv place) (leaf_byte leaves domain edge)
      ∷ sent_edges leaves field domain drawn edges (place + 1)

  -- a value's payload: its own tokens, its bytes sealed under the field's key behind the key's id, and its edges if it has any
  abbrev pub payload_of : ℕ → List ℕ → ℕ → Drawn → List ℕ → Option (List EdgeTokens) → InsertPayload
  payload_of field key_id value_kind drawn bytes edges =
      let own = item_tokens field drawn.factor bytes drawn.token_iv None in
      record {
        d = own.d;
        s = own.s;
        p = own.p;
        u = key_id;
        t = pos value_kind;
        v = key_id ++ seal_of (key_of u field) key_id drawn.value_iv bytes;
        e = cipher_token field;
        l = own.l;
        k = pos drawn.factor;
        g = edges;
        extra = [];
      }

  -- what is sent of a value, by how its field is kept; a plain value is sent as it is
  abbrev pub sent_value : Bool → ℕ → Drawn → FieldKind → Plain → SentCell
  sent_value leaves field drawn k.Plain value = sent.Plain (value_of value)
  sent_value leaves field drawn (k.Equality key_id value_kind _ _) value =
      sent.Payload (payload_of field key_id value_kind drawn (bytes_of value) None)
  sent_value leaves field drawn (k.Range key_id value_kind _ _ domain) value =
      sent.Payload (payload_of field key_id value_kind drawn (bytes_of value) (Some (sent_edges leaves field domain drawn (value_edges domain value) 0)))

  abbrev pub equal_payload : FindEdge → ℕ → FindEqual
  equal_payload tokens greatest = record { d = tokens.d; s = tokens.s; l = tokens.l; cm = pos greatest }

  -- what is sent of the term at a place: for all factors up to the caller's number of the field
  abbrev pub sent_term : Contentions → ℕ → Term → SentTerm
  sent_term contentions place (term.Id id) = t.Id (value_of id)
  sent_term contentions place (term.Equal field value) =
      t.Equal field (equal_payload (find_tokens field (bytes_of value)) (contention_of contentions field))
  sent_term contentions place (term.Between field lo hi) = t.Range field (record {
    g = map (λ edge. find_tokens field (text_of edge)) (cover_in (kind_at u.schema field) lo hi);
    cm = pos (contention_of contentions field);
    payload_id = pos place;
    extra = [];
  })

  -- the terms in the filter's order, the first one's place given
  abbrev pub sent_filter : Contentions → List Term → ℕ → List SentTerm
  sent_filter contentions [] place = []
  sent_filter contentions (one ∷ terms) place = sent_term contentions place one ∷ sent_filter contentions terms (place + 1)

  -- for each field of a begin the token of the field that is named
  abbrev pub sent_tokens : List Pair → List FieldToken
  sent_tokens pairs = map (λ pair. record { field = pair.field; token = record { 0 = ecoc_token pair.sent } }) pairs
