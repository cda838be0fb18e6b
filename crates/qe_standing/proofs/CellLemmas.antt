-- Values that are indexed: the index stands for their words, and they decode and have their items' tags.
use Rattle.std.proofs.Common.{◌≡◌, ◌≤◌, ◌<◌, ◌+◌, ◌^◌, ℕ, List, [], ◌∷◌, map, length, drop, Option, None, Some, Bool, true, false, refl, sym, ap, ◌∙◌, subst, arith}
use Rattle.std.specs.Prelude.{is_some}
use Rattle.std.proofs.lemmas.Bool.{false≢true}
use Rattle.sha2.proofs.Facts256.{length-sha256}
use Rattle.qe_aes.specs.Laws.{IsBlock}
use Rattle.qe_base.specs.declared.maintenance.Count.{Count}
use Rattle.qe_seal.specs.Hmac.{hmac_sha256, prf1_of}
use Rattle.qe_tokens.specs.Labels.{row_token}
use Rattle.qe_tokens.specs.declared.words.Word.TheVariants.{Item}
use Rattle.qe_value.specs.declared.value.Plain.{Plain}
use Rattle.qe_edges.specs.declared.edge.Edge.{Edge}
use Rattle.qe_edges.specs.Rules.{Rules}
use Rattle.qe_edges.specs.Texts.{text_of}
use Rattle.qe_ecoc.proofs.OpeningLemmas.{opened-written}
use Rattle.qe_ecoc.specs.declared.opening.Opened.{Opened}
use Rattle.qe_ecoc.specs.declared.rows.Entry.{Entry}
use Rattle.qe_field.specs.declared.field.FieldKind.{FieldKind}
use Rattle.qe_field.specs.declared.field.FieldKind.TheVariants as k
use Rattle.qe_field.specs.Values.{kind_of}
use Rattle.qe_parts.specs.declared.edges.EdgeTokens.{EdgeTokens}
use Rattle.qe_insert.specs.declared.insert.InsertPayload.{InsertPayload}
use Rattle.qe_insert.specs.Insert.{FewEdges}
use Rattle.qe_schema.specs.Resolved.{IsKeptBy}
use Rattle.qe_command.specs.declared.cells.SentCell.{SentCell}
use Rattle.qe_command.specs.declared.cells.SentCell.TheVariants as sent
use Rattle.qe_command.specs.Items.{edges_or, items_of, own_tokens}
use Rattle.qe_command.specs.Nonces.{cell_nonces}
use Rattle.qe_command_written.proofs.CellLemmas.{tree_again}
use Rattle.qe_command_fits.specs.OfSchema.{IsCellOf, IsPayloadOf}
use Rattle.qe_protocol.specs.State.{Index}
use Rattle.qe_protocol.specs.Indexing.{AllowedCell, AllowedItems, cell_tags, index_cell, index_items, nonce_at}
use Rattle.qe_protocol.specs.Laws.{AreLong, FewItems, item_tags}
use Rattle.qe_protocol.proofs.TagLemmas.{index_laid, stores_tags}
use Rattle.qe_labels.specs.Laws.{IsFree}
use Rattle.qe_labels.specs.Numbers.{Numbers, all_raised}
use Rattle.qe_labels.specs.Tags.{AreTagsOf, words_under}
use Rattle.qe_labels.specs.Under.{Under, root_of}
use Rattle.qe_relation.specs.Items.{AreItemsOf, IsItemOf}
use Rattle.qe_relation.specs.Stands.{IndexStands, ecoc_key}
use Rattle.qe_relation.proofs.ItemLemmas.{items_kept, items_tagged}
use Rattle.qe_encodes.specs.Decodes.{CellValue}
use Rattle.qe_encodes.specs.Encodes.{AreDrawn}
use Rattle.qe_encodes.specs.Fields.{IsKeyed, key_id_in, key_id_of}
use Rattle.qe_encodes.specs.Items.{bytes_of, value_edges, value_items}
use Rattle.qe_encodes.specs.Meant.{IsSpelled, IsSpelledIn}
use Rattle.qe_encodes.specs.Payloads.{Drawn, item_tokens, payload_of, sent_edges, sent_value, leaf_byte}
use Rattle.qe_encodes.specs.Words.{value_words}
use Rattle.qe_encodes.proofs.HeldLemmas.{sent_holds}

length-row_token : (root : ℕ → List ℕ) (field factor : ℕ) (item : List ℕ) → length (row_token root (Item field item factor)) ≡ 32
unfolding row_token prf1_of hmac_sha256
length-row_token root field factor item = length-sha256 _

module _ (u : Under) (field : ℕ) where
  -- what is sent of an item is the item's
  item_sent : (factor : ℕ) (item iv : List ℕ) (leaf : Option ℕ) → length iv ≡ 16
      → IsItemOf (root_of u) (Item field item factor) field (item_tokens u field factor item iv leaf)
  item_sent factor item iv leaf long =
      let token = row_token (root_of u) (Item field item factor) in
      record {
        rows = refl;
        tags = refl;
        opens = ap (λ (o : Opened). o.token) (opened-written (ecoc_key (root_of u) field) iv token leaf long (length-row_token (root_of u) field factor item));
      }

  edges_sent : (leaves : Bool) (domain : Rules) (most : ℕ) (drawn : Drawn) → AreDrawn most drawn → (edges : List Edge) (place : ℕ)
      → AreItemsOf (root_of u) field drawn.factor (map text_of edges) (sent_edges u leaves field domain drawn edges place)
  edges_sent leaves domain most drawn are [] place = tt
  edges_sent leaves domain most drawn are (edge ∷ edges) place = (
    item_sent drawn.factor (text_of edge) (drawn.edge_iv place) (leaf_byte leaves domain edge) (are.edge_iv place).long,
    edges_sent leaves domain most drawn are edges (place + 1),
  )

  -- the items of a payload
  abbrev sent_items : SentCell → List EdgeTokens
  sent_items (sent.Plain value) = []
  sent_items (sent.Payload payload) = items_of payload

  pub are_items : (leaves : Bool) (kind : FieldKind) (most : ℕ) (drawn : Drawn) → AreDrawn most drawn → (value : Plain)
      → AreItemsOf (root_of u) field drawn.factor (value_items kind value) (sent_items (sent_value u leaves field drawn kind value))
  are_items leaves k.Plain most drawn are value = tt
  are_items leaves (k.Equality key_id value_kind _ _) most drawn are value = (item_sent drawn.factor (bytes_of value) drawn.token_iv None are.token_iv.long, tt)
  are_items leaves (k.Range key_id value_kind _ _ domain) most drawn are value = edges_sent leaves domain most drawn are (value_edges domain value) 0

-- the first of nonces has 16 bytes
long_first : (nonces : List (List ℕ)) → AreLong nonces → 1 ≤ length nonces → length (nonce_at nonces 0) ≡ 16
long_first [] long some = absurd (omega (arith, some))
long_first (nonce ∷ nonces) long some = long.0

-- a field's greatest contention is a number of 64 bits
abbrev pub IsSmall : FieldKind → Type 0
IsSmall k.Plain = Unit {0}
IsSmall (k.Equality key_id value_kind contention greatest) = greatest < 2 ^ 64
IsSmall (k.Range key_id value_kind contention greatest domain) = greatest < 2 ^ 64

-- a payload that fits has few items
few_items : (payload : InsertPayload) (range : Bool) (id : List ℕ) (kind greatest : ℕ) → IsPayloadOf range id kind greatest payload → FewItems payload
few_items payload range id kind greatest is = by_edges payload.g refl
  where
    by_edges : (edges : Option (List EdgeTokens)) → payload.g ≡ edges → FewItems payload
    by_edges None none =
        let one : length (items_of payload) ≡ 1 = ap (λ (g : Option (List EdgeTokens)). length (edges_or (own_tokens payload) g)) none in
        record { some = omega (arith, one); most = omega (arith, one); one = λ _. one }
    by_edges (Some edges) there =
        let few : FewEdges (Some edges) = subst FewEdges there is.form.edges in
        let many : length (items_of payload) ≡ length edges = ap (λ (g : Option (List EdgeTokens)). length (edges_or (own_tokens payload) g)) there in
        let true_is : is_some payload.g ≡ true = ap (λ (g : Option (List EdgeTokens)). is_some g) there in
        record { some = omega (arith, few.0, many); most = omega (arith, few.1, many); one = λ none. absurd (false≢true (sym none ∙ true_is)) }

module _ (u : Under) (field : ℕ) (index : Index) (nonces : List (List ℕ)) (counts : List Count) (long : AreLong nonces) where
  -- what a payload that is the field's leads to
  module _ (key_id : List ℕ) (range : Bool) (value_kind greatest most : ℕ) (drawn : Drawn) (are : AreDrawn most drawn) (value : Plain) (edges : Option (List EdgeTokens)) where
    abbrev payload : InsertPayload
    payload = payload_of u field key_id value_kind drawn (bytes_of value) edges

    module _ (is_payload : IsPayloadOf range key_id value_kind greatest payload) (small : greatest < 2 ^ 64) (key : IsBlock key_id)
        (enough : cell_nonces (sent.Payload payload) ≤ length nonces) (allowed : AllowedItems field index (items_of payload) counts) where
      few : FewItems payload
      few = few_items payload range key_id value_kind greatest is_payload

      factor_small : drawn.factor < 2 ^ 64
      factor_small = omega (arith, is_payload.factor, small)

      pub payload_decodes : key_id ≡ key_id_of u field → kind_of value ≡ value_kind → IsSpelled value
          → CellValue u field (index_cell field index (sent.Payload payload) nonces counts).cell value
      payload_decodes id_is kind spelled =
          sent_holds u field key_id value_kind drawn value edges id_is key.long are.value_iv kind spelled nonces
          (index_items field drawn.factor index (items_of payload) (drop 1 nonces) counts).blocks _
          (long_first nonces long (omega (arith, enough)))
          (index_laid field index payload nonces counts key.long few factor_small long enough allowed)

      pub payload_tags : cell_tags (index_cell field index (sent.Payload payload) nonces counts).cell ≡ item_tags field index (items_of payload) counts
      payload_tags = stores_tags field index payload nonces counts key.long few factor_small long enough allowed

  -- what the value of a field leads to
  module _ (leaves : Bool) (most : ℕ) (drawn : Drawn) (are : AreDrawn most drawn) (value : Plain) where
    pub value_decodes : (kind : FieldKind) → key_id_in kind ≡ key_id_of u field → IsKeyed kind → IsSmall kind → IsKeptBy value kind → IsSpelledIn kind value
        → IsCellOf (sent_value u leaves field drawn kind value) kind → cell_nonces (sent_value u leaves field drawn kind value) ≤ length nonces
        → AllowedCell field index (sent_value u leaves field drawn kind value) counts
        → CellValue u field (index_cell field index (sent_value u leaves field drawn kind value) nonces counts).cell value
    value_decodes k.Plain id_is keyed small kept spelled fits enough allowed = sym (tree_again value)
    value_decodes (k.Equality key_id value_kind _ greatest) id_is keyed small kept spelled fits enough allowed =
        payload_decodes key_id false value_kind greatest most drawn are value None fits small keyed enough allowed id_is kept spelled
    value_decodes (k.Range key_id value_kind _ greatest domain) id_is keyed small kept spelled fits enough allowed =
        payload_decodes key_id true value_kind greatest most drawn are value (Some (sent_edges u leaves field domain drawn (value_edges domain value) 0))
        fits small keyed.0 enough allowed id_is kept.0 spelled

    module _ (aside : List Entry) (captured doomed : List (List ℕ)) (numbers : Numbers) (stand : IndexStands (root_of u) numbers index.rows index.ecoc aside captured doomed) where
      -- the numbers behind the value's words
      abbrev raised_by : FieldKind → Numbers
      raised_by kind = all_raised numbers (value_words field kind value (sent_value u leaves field drawn kind value))

      pub record IsKeptValue (kind : FieldKind) : Type 0 where
        pub indexed : let after = (index_cell field index (sent_value u leaves field drawn kind value) nonces counts).index in
            IndexStands (root_of u) (raised_by kind) after.rows after.ecoc aside captured doomed
        pub factor : ℕ
        pub tags : AreTagsOf (root_of u) (raised_by kind) (words_under field factor (value_items kind value))
            (cell_tags (index_cell field index (sent_value u leaves field drawn kind value) nonces counts).cell)

      items_are_kept : (key_id : List ℕ) (range : Bool) (value_kind greatest : ℕ) (edges : Option (List EdgeTokens)) (xs : List (List ℕ))
          → let one = payload key_id range value_kind greatest most drawn are value edges in
          IsPayloadOf range key_id value_kind greatest one → greatest < 2 ^ 64 → IsBlock key_id → cell_nonces (sent.Payload one) ≤ length nonces
          → AllowedItems field index (items_of one) counts → AreItemsOf (root_of u) field drawn.factor xs (items_of one)
          → IsFree (root_of u) (all_raised numbers (words_under field drawn.factor xs))
          → (let after = (index_cell field index (sent.Payload one) nonces counts).index in
          IndexStands (root_of u) (all_raised numbers (words_under field drawn.factor xs)) after.rows after.ecoc aside captured doomed)
          × AreTagsOf (root_of u) (all_raised numbers (words_under field drawn.factor xs)) (words_under field drawn.factor xs)
          (cell_tags (index_cell field index (sent.Payload one) nonces counts).cell)
      items_are_kept key_id range value_kind greatest edges xs fits small key enough allowed items free =
          let one = payload key_id range value_kind greatest most drawn are value edges in
          let words = words_under field drawn.factor xs in (
            items_kept (root_of u) aside captured doomed field drawn.factor xs (items_of one) counts (drop 1 nonces) numbers index items allowed free stand,
            subst (λ (tags : List (List ℕ)). AreTagsOf (root_of u) (all_raised numbers words) words tags)
                (sym (payload_tags key_id range value_kind greatest most drawn are value edges fits small key enough allowed))
                (items_tagged (root_of u) aside captured doomed field drawn.factor xs (items_of one) counts numbers index items allowed free stand),
          )

      pub value_kept : (kind : FieldKind) → IsKeyed kind → IsSmall kind → IsCellOf (sent_value u leaves field drawn kind value) kind
          → cell_nonces (sent_value u leaves field drawn kind value) ≤ length nonces → AllowedCell field index (sent_value u leaves field drawn kind value) counts
          → IsFree (root_of u) (raised_by kind) → IsKeptValue kind
      value_kept k.Plain keyed small fits enough allowed free = record { indexed = stand; factor = 0; tags = tt }
      value_kept (k.Equality key_id value_kind contention greatest) keyed small fits enough allowed free =
          let done = items_are_kept key_id false value_kind greatest None (bytes_of value ∷ []) fits small keyed enough allowed
          (are_items u field leaves (k.Equality key_id value_kind contention greatest) most drawn are value) free in
          record { indexed = done.0; factor = drawn.factor; tags = done.1 }
      value_kept (k.Range key_id value_kind contention greatest domain) keyed small fits enough allowed free =
          let done = items_are_kept key_id true value_kind greatest (Some (sent_edges u leaves field domain drawn (value_edges domain value) 0))
          (map text_of (value_edges domain value)) fits small keyed.0 enough allowed
          (are_items u field leaves (k.Range key_id value_kind contention greatest domain) most drawn are value) free in
          record { indexed = done.0; factor = drawn.factor; tags = done.1 }
