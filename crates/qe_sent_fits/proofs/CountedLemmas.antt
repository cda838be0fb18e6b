-- What is sent for a plain command has no more bytes than were counted over it.
use Rattle.std.proofs.Common.{◌≡◌, ℕ, pos, zero, suc, ℤ, ◌+◌, ◌≤◌, Bool, List, [], ◌∷◌, ◌++◌, length, map, Option, None, Some, refl, sym, ap, subst, ◌∙◌, arith, length-append}
use Rattle.std.specs.Prelude.{All, codes, slice_get}
use Rattle.std.specs.List.{AllByRecursion, AllZip}
use Rattle.std.proofs.lemmas.List.{length-map}
use Rattle.qe_tokens.specs.Labels.{row_token, tag_token}
use Rattle.qe_tokens.specs.Tokens.{collections_of}
use Rattle.qe_tokens.specs.declared.words.Word.TheVariants.{Item}
use Rattle.qe_base.specs.declared.maintenance.JobKind.{JobKind}
use Rattle.qe_base.specs.declared.maintenance.JobKind.TheVariants as j
use Rattle.qe_value.specs.declared.value.Plain.{Plain}
use Rattle.qe_value.specs.declared.value.Plain.TheVariants as v
use Rattle.qe_value.specs.Measures.{value_length}
use Rattle.qe_value.specs.Views.{plain}
use Rattle.qe_value.specs.Spelling.{document_bytes}
use Rattle.qe_encode.proofs.SizeLemmas.{document_lengths, lengths, value_length-Binary, value_length-Doc}
use Rattle.qe_edges.specs.declared.edge.Edge.{Edge}
use Rattle.qe_edges.specs.Rules.{Rules}
use Rattle.qe_edges.specs.Texts.{text_of}
use Rattle.qe_field.specs.declared.field.Field.{Field}
use Rattle.qe_field.specs.declared.field.FieldKind.{FieldKind}
use Rattle.qe_field.specs.declared.field.FieldKind.TheVariants as k
use Rattle.qe_field.specs.Lookup.{path_of, path_or_none}
use Rattle.qe_field.specs.Values.{number_in}
use Rattle.qe_plain.specs.declared.command.Pair.{Pair}
use Rattle.qe_plain.specs.declared.command.PlainCell.{PlainCell}
use Rattle.qe_plain.specs.declared.command.PlainCommand.{PlainCommand}
use Rattle.qe_plain.specs.declared.command.PlainCommand.TheVariants as p
use Rattle.qe_plain.specs.declared.command.Term.{Term}
use Rattle.qe_plain.specs.declared.command.Term.TheVariants as term
use Rattle.qe_schema.specs.Resolved.{IsCell, IsResolved, IsTerm}
use Rattle.qe_fits.specs.Sizes as sizes
use Rattle.qe_command.specs.declared.cells.SentCell.{SentCell}
use Rattle.qe_command.specs.declared.command.Command.{Command}
use Rattle.qe_command.specs.declared.command.Command.TheVariants as c
use Rattle.qe_command_document.specs.Values.{value_of}
use Rattle.qe_command_written.specs.Written.{cell_elements, cell_value, command_elements, kind_name, term_value, token_elements}
use Rattle.qe_command_written.proofs.CellLemmas.{tree_again}
use Rattle.qe_labels.specs.Under.{Under, key_of, root_of}
use Rattle.qe_encodes.specs.Callers.{Contentions, contention_of}
use Rattle.qe_encodes.specs.Encodes.{AreDrawn, Encodes, SendsCell}
use Rattle.qe_encodes.specs.Fields.{IsKeyed, kind_at, kind_or_plain}
use Rattle.qe_encodes.specs.Items.{bytes_of, cover_in, edges_for, value_edges}
use Rattle.qe_encodes.specs.Payloads.{Drawn, ecoc_token, equal_payload, find_tokens, seal_of, sent_edges, sent_filter, sent_term, sent_tokens, sent_value}
use Rattle.qe_held.proofs.AllLemmas.{all_each}
use Rattle.qe_held.proofs.LengthLemmas.{AreCounted, AreShort, array_counted, document_counted, length-Bool, length-Int32, length-Int64, length-Str}
use Rattle.qe_held.proofs.PayloadLengths.{IsShortEdge, IsShortFindEdge, equal_short, insert_short, range_short}
use Rattle.qe_held.proofs.TokenLengths.{length-hmac, length-old, length-prf1, length-sealed, length-written}

pub all_there : (P : Field → Type 0) (fields : List Field) (number : ℕ) (field : Field) → All P fields → slice_get fields number ≡ Some field → P field
all_there P [] number field all is = absurd (cc)
all_there P (first ∷ fields) zero field all is = let same : first ≡ field = cc in subst P same (all 0 first (omega arith))
all_there P (first ∷ fields) (suc number) field all is = all_there P fields number field (λ i d less. all (suc i) d (omega (arith, less))) is

tag_long : (root : ℕ → List ℕ) (field : ℕ) (item : List ℕ) (factor : ℕ) → length (tag_token root (Item field item factor)) ≡ 32
unfolding tag_token
tag_long root field item factor = length-prf1 _ factor

row_long : (root : ℕ → List ℕ) (field : ℕ) (item : List ℕ) (factor : ℕ) → length (row_token root (Item field item factor)) ≡ 32
unfolding row_token
row_long root field item factor = length-prf1 _ factor

edges_many : (domain : Rules) (number : Option ℤ) → length (edges_for domain number) ≡ sizes.count_of_edges domain number
edges_many domain None = refl
edges_many domain (Some number) = refl

cover_many : (kind : FieldKind) (lo hi : ℤ) → length (cover_in kind lo hi) ≡ sizes.count_of_cover kind lo hi
cover_many k.Plain lo hi = refl
cover_many (k.Equality id kind contention greatest) lo hi = refl
cover_many (k.Range id kind contention greatest domain) lo hi = refl

same_id : (value : Plain) → value_length (plain (value_of value)) ≡ value_length value
same_id value = ap value_length (tree_again value)

module _ (u : Under) (leaves : Bool) (contentions : Contentions) where
  -- ---- values
  pub many_edges : (field : ℕ) (domain : Rules) (drawn : Drawn) (edges : List Edge) (place : ℕ) → length (sent_edges u leaves field domain drawn edges place) ≡ length edges
  many_edges field domain drawn [] place = refl
  many_edges field domain drawn (edge ∷ edges) place = ap suc (many_edges field domain drawn edges (place + 1))

  short_edges : (field : ℕ) (domain : Rules) (drawn : Drawn) (most : ℕ) → AreDrawn most drawn → (edges : List Edge) (place : ℕ)
      → AllByRecursion IsShortEdge (sent_edges u leaves field domain drawn edges place)
  short_edges field domain drawn most are [] place = tt
  short_edges field domain drawn most are (edge ∷ edges) place = (
    record {
      d = tag_long (root_of u) field (text_of edge) drawn.factor;
      s = row_long (root_of u) field (text_of edge) drawn.factor;
      l = length-hmac _ (text_of edge);
      p = length-written (ecoc_token u field) (drawn.edge_iv place) _ _ (are.edge_iv place).long (row_long (root_of u) field (text_of edge) drawn.factor);
    },
    short_edges field domain drawn most are edges (place + 1),
  )

  -- the key's id, and the sealed bytes
  pub user_long : (field : ℕ) (id : List ℕ) (iv : List ℕ) (value : Plain) → length id ≡ 16 → length iv ≡ 16
      → length (id ++ seal_of (key_of u field) id iv (bytes_of value)) ≡ 16 + sizes.sealed_size (value_length value)
  user_long field id iv value id_long iv_long =
      let sealed = length-sealed (key_of u field) id iv (bytes_of value) iv_long in
      let bytes = ap sizes.sealed_size (lengths value) in
      omega (arith, length-append id (seal_of (key_of u field) id iv (bytes_of value)), sealed, bytes, id_long)

  value_counted : (field most : ℕ) (drawn : Drawn) → AreDrawn most drawn → (kind : FieldKind) → IsKeyed kind → (value : Plain)
      → value_length (cell_value (sent_value u leaves field drawn kind value)) ≤ sizes.kept_size kind value
  value_counted field most drawn are k.Plain keyed value = omega (arith, same_id value)
  value_counted field most drawn are (k.Equality id kind contention greatest) keyed value =
      insert_short _ (value_length value) None (record {
        d = tag_long (root_of u) field (bytes_of value) drawn.factor;
        s = row_long (root_of u) field (bytes_of value) drawn.factor;
        e = length-prf1 _ 3;
        l = length-hmac _ (bytes_of value);
        p = let is = length-old (ecoc_token u field) drawn.token_iv _ are.token_iv.long (row_long (root_of u) field (bytes_of value) drawn.factor) in omega (arith, is);
        u = keyed.long;
        v = user_long field id drawn.value_iv value keyed.long are.value_iv.long;
        g = tt;
        extra = refl;
      })
  value_counted field most drawn are (k.Range id kind contention greatest domain) keyed value =
      insert_short _ (value_length value) (Some (sizes.count_of_edges domain (number_in value))) (record {
        d = tag_long (root_of u) field (bytes_of value) drawn.factor;
        s = row_long (root_of u) field (bytes_of value) drawn.factor;
        e = length-prf1 _ 3;
        l = length-hmac _ (bytes_of value);
        p = let is = length-old (ecoc_token u field) drawn.token_iv _ are.token_iv.long (row_long (root_of u) field (bytes_of value) drawn.factor) in omega (arith, is);
        u = keyed.0.long;
        v = user_long field id drawn.value_iv value keyed.0.long are.value_iv.long;
        g = (
          many_edges field domain drawn (value_edges domain value) 0 ∙ edges_many domain (number_in value),
          short_edges field domain drawn most are (value_edges domain value) 0,
        );
        extra = refl;
      })

  -- ---- cells
  module _ (keyed : All (λ field. IsKeyed field.kind) u.schema) where
    cell_counted : (cell : PlainCell) (one : ℕ × SentCell) → IsCell u.schema cell → (sends : SendsCell u leaves contentions cell one)
        → (field : Field) → slice_get u.schema cell.field ≡ Some field
        → (path_of u.schema one.0 ≡ field.path) × (value_length (cell_value one.1) ≤ sizes.kept_size field.kind cell.value)
    cell_counted cell one is sends field there =
        let kind : kind_at u.schema cell.field ≡ field.kind = ap kind_or_plain there in
        let bound = value_counted cell.field (contention_of contentions cell.field) sends.drawn sends.are_drawn field.kind
        (all_there (λ (f : Field). IsKeyed f.kind) u.schema cell.field field keyed there) cell.value in
        let sent : one.1 ≡ sent_value u leaves cell.field sends.drawn field.kind cell.value =
        sends.value ∙ ap (λ it. sent_value u leaves cell.field sends.drawn it cell.value) kind in
        let same = ap (λ (it : SentCell). value_length (cell_value it)) sent in (
          ap (path_of u.schema) sends.field ∙ ap path_or_none there,
          omega (arith, same, bound),
        )

    cells_counted : (cells : List PlainCell) (sents : List (ℕ × SentCell)) → AllByRecursion (IsCell u.schema) cells → AllZip (SendsCell u leaves contentions) cells sents
        → AreCounted (cell_elements u.schema sents) (sizes.cell_elements u.schema cells)
    cells_counted [] [] each sends = tt
    cells_counted [] (one ∷ sents) each sends = absurd sends
    cells_counted (cell ∷ cells) [] each sends = absurd sends
    cells_counted (cell ∷ cells) (one ∷ sents) each sends =
        let is = each.0 in
        let here = cell_counted cell one is sends.0 is.field is.there in
        subst (λ counted. AreCounted (cell_elements u.schema (one ∷ sents)) (counted ++ sizes.cell_elements u.schema cells))
        (sym (ap (sizes.cell_element cell) is.there)) (here, cells_counted cells sents each.1 sends.1)

  -- ---- terms
  short_cover : (field : ℕ) (edges : List Edge) → AllByRecursion IsShortFindEdge (map (λ edge. find_tokens u field (text_of edge)) edges)
  short_cover field [] = tt
  short_cover field (edge ∷ edges) =
      (record { d = length-hmac _ (text_of edge); s = length-hmac _ (text_of edge); l = length-hmac _ (text_of edge) }, short_cover field edges)

  term_counted : (one : Term) (place : ℕ) → IsTerm u.schema one → value_length (term_value u.schema (sent_term u contentions place one)) ≤ sizes.term_size u.schema one
  term_counted (term.Id id) place is = document_counted _ ((codes "_id", value_length id) ∷ []) ((refl, omega (arith, same_id id)), tt)
  term_counted (term.Equal number value) place is =
      let name : path_of u.schema number ≡ is.field.path = ap path_or_none is.there in
      let payload = equal_payload u (find_tokens u number (bytes_of value)) (contention_of contentions number) in
      subst (λ o. value_length (term_value u.schema (sent_term u contentions place (term.Equal number value))) ≤ sizes.equal_term_size o) (sym is.there)
      (document_counted _ ((is.field.path, sizes.binary_size sizes.equal_size) ∷ [])
      ((name, equal_short payload (record { d = length-hmac _ (bytes_of value); s = length-hmac _ (bytes_of value); l = length-hmac _ (bytes_of value) })), tt))
  term_counted (term.Between number lo hi) place is =
      let name : path_of u.schema number ≡ is.field.path = ap path_or_none is.there in
      let kind : kind_at u.schema number ≡ is.field.kind = ap kind_or_plain is.there in
      let cover = cover_in (kind_at u.schema number) lo hi in
      let many : length (map (λ edge. find_tokens u number (text_of edge)) cover) ≡ sizes.count_of_cover is.field.kind lo hi =
      length-map cover (λ edge. find_tokens u number (text_of edge)) ∙ ap (λ it. length (cover_in it lo hi)) kind ∙ cover_many is.field.kind lo hi in
      subst (λ o. value_length (term_value u.schema (sent_term u contentions place (term.Between number lo hi))) ≤ sizes.range_term_size lo hi o) (sym is.there)
      (document_counted _ ((is.field.path, sizes.binary_size (sizes.range_size (sizes.count_of_cover is.field.kind lo hi))) ∷ [])
      ((name, range_short _ (sizes.count_of_cover is.field.kind lo hi) (record { edges = short_cover number cover; many = many; extra = refl })), tt))

  terms_counted : (terms : List Term) (place : ℕ) → AllByRecursion (IsTerm u.schema) terms
      → AreShort (map (term_value u.schema) (sent_filter u contentions terms place)) (map (sizes.term_size u.schema) terms)
  terms_counted [] place each = tt
  terms_counted (one ∷ terms) place each = (term_counted one place each.0, terms_counted terms (place + 1) each.1)

  filter_counted : (terms : List Term) → All (IsTerm u.schema) terms
      → value_length (v.Array (map (term_value u.schema) (sent_filter u contentions terms 0))) ≤ sizes.filter_size u.schema terms
  filter_counted terms each = array_counted _ _ (terms_counted terms 0 (all_each (IsTerm u.schema) terms each))

  -- ---- tokens
  tokens_counted : (pairs : List Pair) → AreCounted (token_elements u.schema (sent_tokens u pairs)) (map (sizes.pair_element u.schema) pairs)
  tokens_counted [] = tt
  tokens_counted (pair ∷ pairs) =
      let long = length-prf1 (collections_of (root_of u pair.sent)) 4 in
      ((refl, omega (arith, long, value_length-Binary 0 (ecoc_token u pair.sent))), tokens_counted pairs)

  kind_long : (kind : JobKind) → value_length (v.Str (kind_name kind)) ≤ sizes.string_size (sizes.kind_name kind)
  kind_long j.Compact = let is = length-Str (codes "compact") in omega (arith, is)
  kind_long j.Cleanup = let is = length-Str (codes "cleanup") in omega (arith, is)

  op_long : (name : List ℕ) → value_length (v.Str name) ≤ sizes.string_size name
  op_long name = let is = length-Str name in omega (arith, is)

  -- ---- commands
  module _ (keyed : All (λ field. IsKeyed field.kind) u.schema) where
    command_counted : (one : PlainCommand) (command : Command) → IsResolved u.schema one → Encodes u leaves contentions one command
        → value_length (v.Doc (command_elements u.schema command)) ≤ sizes.counted_length u.schema one
    unfolding command_elements sizes.counted_length
    command_counted (p.Insert document) (c.Insert id cells) resolved encodes =
        let of_id = ap (λ it. value_length (plain it)) encodes.0 ∙ same_id document.id in
        let inner = document_counted _ ((codes "_id", value_length document.id) ∷ sizes.cell_elements u.schema document.cells)
        ((refl, omega (arith, of_id)), cells_counted keyed document.cells cells (all_each (IsCell u.schema) document.cells resolved.cells.each) encodes.1) in
        document_counted (command_elements u.schema (c.Insert id cells)) (sizes.command_elements u.schema (p.Insert document)) ((refl, op_long (codes "insert")), ((refl, inner), tt))
    command_counted (p.Find terms ids) (c.Find filter only) resolved encodes =
        let items = ap (λ sent. value_length (v.Array (map (term_value u.schema) sent))) encodes.0 in
        document_counted (command_elements u.schema (c.Find filter only)) (sizes.command_elements u.schema (p.Find terms ids)) ((refl, op_long (codes "find")), ((refl, omega (arith, items, filter_counted terms resolved)), ((refl, omega (arith, length-Bool only)), tt)))
    command_counted (p.Update terms set) (c.Update filter cells) resolved encodes =
        let items = ap (λ sent. value_length (v.Array (map (term_value u.schema) sent))) encodes.0 in
        let inner = document_counted _ (sizes.cell_elements u.schema set) (cells_counted keyed set cells (all_each (IsCell u.schema) set resolved.1.each) encodes.1) in
        document_counted (command_elements u.schema (c.Update filter cells)) (sizes.command_elements u.schema (p.Update terms set)) ((refl, op_long (codes "update")), ((refl, omega (arith, items, filter_counted terms resolved.0)), ((refl, inner), tt)))
    command_counted (p.Delete terms) (c.Delete filter) resolved encodes =
        let items = ap (λ sent. value_length (v.Array (map (term_value u.schema) sent))) encodes in
        document_counted (command_elements u.schema (c.Delete filter)) (sizes.command_elements u.schema (p.Delete terms)) ((refl, op_long (codes "delete")), ((refl, omega (arith, items, filter_counted terms resolved)), tt))
    command_counted (p.Begin kind pairs) (c.Begin sent tokens) resolved encodes =
        let named = ap (λ it. value_length (v.Str (kind_name it))) encodes.0 in
        let same = ap (λ sent. value_length (v.Doc (token_elements u.schema sent))) encodes.1 in
        let inner = document_counted _ (map (sizes.pair_element u.schema) pairs) (tokens_counted pairs) in
        document_counted (command_elements u.schema (c.Begin sent tokens)) (sizes.command_elements u.schema (p.Begin kind pairs)) ((refl, op_long (codes "begin")), ((refl, omega (arith, named, kind_long kind)), ((refl, omega (arith, same, inner)), tt)))
    command_counted (p.Step job limit) (c.Step asked most) resolved encodes =
        document_counted (command_elements u.schema (c.Step asked most)) (sizes.command_elements u.schema (p.Step job limit)) ((refl, op_long (codes "step")), ((refl, omega (arith, length-Int64 (pos asked))), ((refl, omega (arith, length-Int32 (pos most))), tt)))
    command_counted (p.End job) (c.End asked) resolved encodes =
        document_counted (command_elements u.schema (c.End asked)) (sizes.command_elements u.schema (p.End job)) ((refl, op_long (codes "end")), ((refl, omega (arith, length-Int64 (pos asked))), tt))
    command_counted (p.Abandon job) (c.Abandon asked) resolved encodes =
        document_counted (command_elements u.schema (c.Abandon asked)) (sizes.command_elements u.schema (p.Abandon job)) ((refl, op_long (codes "abandon")), ((refl, omega (arith, length-Int64 (pos asked))), tt))
    command_counted (p.Raise field contention) (c.Raise named asked) resolved encodes =
        let path = ap (λ number. value_length (v.Str (path_of u.schema number))) encodes.0 in
        document_counted (command_elements u.schema (c.Raise named asked)) (sizes.command_elements u.schema (p.Raise field contention)) ((refl, op_long (codes "raise")), ((refl, omega (arith, path, op_long (path_of u.schema field))), ((refl, omega (arith, length-Int64 (pos asked))), tt)))
    command_counted _ _ resolved encodes = absurd encodes

    pub encodes_short : (one : PlainCommand) (command : Command) → IsResolved u.schema one → Encodes u leaves contentions one command
        → length (document_bytes (command_elements u.schema command)) ≤ sizes.counted_length u.schema one
    encodes_short one command resolved encodes =
        let counted = command_counted one command resolved encodes in
        let elements = command_elements u.schema command in
        omega (arith, counted, value_length-Doc elements, document_lengths elements)
