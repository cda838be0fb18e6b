-- Documents of the cells and of the tokens that are sent are read again.
use Rattle.std.proofs.Common.{◌≡◌, ℕ, ◌+◌, ◌≤◌, Bool, true, false, List, [], ◌∷◌, length, map, Option, Some, Ok, refl, sym, ap, subst, ◌∙◌, arith}
use Rattle.std.specs.Prelude.{All, bytes_eq, slice_get}
use Rattle.std.specs.List.{AllByRecursion, AllZip}
use Rattle.qe_value.specs.declared.value.Plain.{Plain}
use Rattle.qe_value.specs.declared.value.Plain.TheVariants as v
use Rattle.qe_value.specs.Measures.{value_length}
use Rattle.qe_value.specs.Names.{Distinct}
use Rattle.qe_value.specs.Views.{plain}
use Rattle.qe_tokens.specs.declared.words.FieldToken.{FieldToken}
use Rattle.qe_field.specs.declared.field.Field.{Field}
use Rattle.qe_field.specs.declared.field.FieldKind.{FieldKind}
use Rattle.qe_field.specs.Lookup.{greatest_of, is_encrypted, known}
use Rattle.qe_field.specs.Names.{is_reserved}
use Rattle.qe_field.specs.Schema.{IsField, IsSchema}
use Rattle.qe_field.specs.Values.{is_id}
use Rattle.qe_plain.specs.declared.command.Pair.{Pair}
use Rattle.qe_plain.specs.declared.command.PlainCell.{PlainCell}
use Rattle.qe_schema.specs.Resolved.{AreCells, ArePairs, IsCell, IsPair}
use Rattle.qe_layout.specs.Layouts.{Reader, built}
use Rattle.qe_layout.specs.Leaves.{fixed_reads}
use Rattle.qe_layout.specs.Refusal.{map_read}
use Rattle.qe_layout.specs.Writing.{written}
use Rattle.qe_layout.proofs.WrittenLemmas.{written-distinct, written_read}
use Rattle.qe_parts.proofs.WriteLemmas.{fixed_again}
use Rattle.qe_command.specs.declared.cells.SentCell.{SentCell}
use Rattle.qe_command_document.specs.declared.part.CellPart.{CellPart}
use Rattle.qe_command_document.specs.declared.part.CellPart.TheVariants as part
use Rattle.qe_command_document.specs.CellDocuments.{cells_from, doc_build, doc_of, doc_reads, doc_rows, field_reads, field_rows, id_name, sent_reads, set_of, set_reads, token_reads, tokens_from, tokens_of}
use Rattle.qe_command_document.specs.Values.{value_of}
use Rattle.qe_command_document.proofs.SchemaLemmas.{rows_apart}
use Rattle.qe_command_fits.proofs.FieldLemmas.{own_known}
use Rattle.qe_command_written.specs.Written.{cell_elements, cell_value, doc_elements, token_elements}
use Rattle.qe_command_written.proofs.CellLemmas.{spell}
use Rattle.qe_labels.specs.Under.{Under, root_of}
use Rattle.qe_tokens.specs.Tokens.{collections_of}
use Rattle.qe_encodes.specs.Callers.{Contentions, contention_of}
use Rattle.qe_encodes.specs.Encodes.{SendsCell}
use Rattle.qe_encodes.specs.Fields.{IsKeyed, kind_at, kind_or_plain}
use Rattle.qe_encodes.specs.Payloads.{sent_tokens, sent_value}
use Rattle.qe_sending.specs.Sendable.{AreWithin}
use Rattle.qe_held.specs.Held.{IsHeldCell}
use Rattle.qe_sent_fits.proofs.CountedLemmas.{all_there}
use Rattle.qe_held.proofs.NameLemmas.{IsSoundPath, path_sound}
use Rattle.qe_sent_fits.proofs.ReadLemmas.{id_read, value_read}
use Rattle.qe_sent_fits.proofs.SlotLemmas.{IsRead, RiseFrom, Takes, all_slotted, pairs_rise}
use Rattle.qe_held.proofs.TokenLengths.{length-prf1}

module _ (fields : List Field) (schema : IsSchema fields) where
  pub field_path : (number : ℕ) (field : Field) → slice_get fields number ≡ Some field → IsSoundPath field.path
  field_path number field there = path_sound field.path (all_there IsField fields number field schema.each there).path

  pub field_known : (number : ℕ) (field : Field) → slice_get fields number ≡ Some field → known fields field.path ≡ Some (number, field.kind)
  field_known number field there =
      own_known 0 fields number field (rows_apart fields schema).1 there ∙ ap (λ n. Some (n, field.kind)) (let place : 0 + number ≡ number = omega arith in place)

  doc_known : (name : List ℕ) (value : Plain) (found : Option (ℕ × FieldKind)) → is_reserved name ≡ false → bytes_eq name id_name ≡ false → known fields name ≡ found
      → doc_reads fields name value ≡ field_reads found name value
  unfolding doc_reads
  doc_known name value found free other is = rw (free, other, is) refl

  set_known : (name : List ℕ) (value : Plain) (found : Option (ℕ × FieldKind)) → is_reserved name ≡ false → bytes_eq name id_name ≡ false → known fields name ≡ found
      → set_reads fields name value ≡ field_reads found name value
  unfolding set_reads
  set_known name value found free other is = rw (free, other, is) refl

  token_known : (name : List ℕ) (value : Plain) (found : ℕ × FieldKind) → is_reserved name ≡ false → known fields name ≡ Some found → is_encrypted found.1 ≡ true
      → token_reads fields name value ≡ fixed_reads 0 32 name value
  unfolding token_reads
  token_known name value found free is encrypted = rw (free, is, encrypted) refl

  -- a cell that is read again under its field
  pub record IsReadCell (cell : ℕ × SentCell) : Type 0 where
    pub field : Field
    pub there : slice_get fields cell.0 ≡ Some field
    pub read : (name : List ℕ) → sent_reads field.kind name (cell_value cell.1) ≡ Ok cell.1

  abbrev number_of : ℕ × SentCell → ℕ
  number_of cell = cell.0

  abbrev part_of : ℕ × SentCell → CellPart
  part_of cell = part.Cell cell.1

  walk : (reads : Reader CellPart) → Takes reads spell number_of part_of cells_from fields
  walk reads = record { ends = λ i. refl; skips = λ i slots. refl; takes = λ cell slots. refl }

  in_doc : (cells : List (ℕ × SentCell)) → AllByRecursion IsReadCell cells → AllByRecursion (IsRead (doc_reads fields) spell number_of part_of cells_from fields) cells
  in_doc [] each = tt
  in_doc (cell ∷ cells) each =
      let path = field_path cell.0 each.0.field each.0.there in (
        record {
          field = each.0.field;
          there = each.0.there;
          read = doc_known each.0.field.path (cell_value cell.1) _ path.free path.other (field_known cell.0 each.0.field each.0.there)
              ∙ ap (map_read (λ it. part.Cell it)) (each.0.read each.0.field.path);
        },
        in_doc cells each.1,
      )

  in_set : (cells : List (ℕ × SentCell)) → AllByRecursion IsReadCell cells → AllByRecursion (IsRead (set_reads fields) spell number_of part_of cells_from fields) cells
  in_set [] each = tt
  in_set (cell ∷ cells) each =
      let path = field_path cell.0 each.0.field each.0.there in (
        record {
          field = each.0.field;
          there = each.0.there;
          read = set_known each.0.field.path (cell_value cell.1) _ path.free path.other (field_known cell.0 each.0.field each.0.there)
              ∙ ap (map_read (λ it. part.Cell it)) (each.0.read each.0.field.path);
        },
        in_set cells each.1,
      )

  id_known : (id : Plain) → is_id id ≡ true → doc_reads fields id_name (plain (value_of id)) ≡ Ok (part.Id (value_of id))
  unfolding doc_reads
  id_known id is = ap (map_read (λ it. part.Id it)) (id_read id_name id is)

  -- a document that is inserted: its names are distinct, and it is read again
  pub doc_again : (id : Plain) (cells : List (ℕ × SentCell)) → is_id id ≡ true → RiseFrom 0 (map number_of cells) → AllByRecursion IsReadCell cells
      → Distinct (doc_elements fields (value_of id) cells)
      × (doc_of fields (doc_elements fields (value_of id) cells) ≡ Ok (record { id = value_of id; cells = cells }))
  unfolding doc_of
  doc_again id cells is rise each =
      let reads = doc_reads fields in
      let rows = doc_rows fields in
      let apart = rows_apart fields schema in
      let rest = all_slotted reads spell number_of part_of cells_from fields (walk reads) cells rise (in_doc cells each) in
      let slots : List (Option CellPart) = Some (part.Id (value_of id)) ∷ rest.slots in
      let elements : written spell rows slots ≡ doc_elements fields (value_of id) cells = ap (λ more. (id_name, plain (value_of id)) ∷ more) rest.elements in (
        subst (λ es. Distinct es) elements (written-distinct spell rows slots apart),
        ap (built reads rows doc_build) (sym elements)
            ∙ written_read reads spell rows doc_build slots apart (id_known id is, rest.each)
            ∙ ap (λ them. Ok (record { id = value_of id; cells = them })) rest.items_are,
      )

  -- .. and so is a set
  pub set_again : (cells : List (ℕ × SentCell)) → RiseFrom 0 (map number_of cells) → AllByRecursion IsReadCell cells
      → Distinct (cell_elements fields cells) × (set_of fields (cell_elements fields cells) ≡ Ok cells)
  unfolding set_of
  set_again cells rise each =
      let reads = set_reads fields in
      let rows = field_rows fields in
      let apart = (rows_apart fields schema).1 in
      let rest = all_slotted reads spell number_of part_of cells_from fields (walk reads) cells rise (in_set cells each) in (
        subst (λ es. Distinct es) rest.elements (written-distinct spell rows rest.slots apart),
        ap (built reads rows (cells_from 0)) (sym rest.elements)
            ∙ written_read reads spell rows (cells_from 0) rest.slots apart rest.each
            ∙ ap (λ them. Ok them) rest.items_are,
      )

  -- a token of an encrypted field
  pub record IsReadToken (token : FieldToken) : Type 0 where
    pub field : Field
    pub there : slice_get fields token.field ≡ Some field
    pub encrypted : is_encrypted field.kind ≡ true
    pub long : length token.token.0 ≡ 32

  abbrev token_number : FieldToken → ℕ
  token_number token = token.field

  abbrev token_part : FieldToken → List ℕ
  token_part token = token.token.0

  abbrev token_spell : List ℕ → Plain
  token_spell token = v.Binary 0 token

  token_walk : Takes (token_reads fields) token_spell token_number token_part tokens_from fields
  token_walk = record { ends = λ i. refl; skips = λ i slots. refl; takes = λ token slots. refl }

  in_tokens : (tokens : List FieldToken) → AllByRecursion IsReadToken tokens
      → AllByRecursion (IsRead (token_reads fields) token_spell token_number token_part tokens_from fields) tokens
  in_tokens [] each = tt
  in_tokens (token ∷ tokens) each =
      let path = field_path token.field each.0.field each.0.there in (
        record {
          field = each.0.field;
          there = each.0.there;
          read = token_known each.0.field.path (v.Binary 0 token.token.0) _ path.free (field_known token.field each.0.field each.0.there) each.0.encrypted
              ∙ fixed_again 0 32 each.0.field.path token.token.0 refl each.0.long;
        },
        in_tokens tokens each.1,
      )

  pub tokens_again : (tokens : List FieldToken) → RiseFrom 0 (map token_number tokens) → AllByRecursion IsReadToken tokens
      → Distinct (token_elements fields tokens) × (tokens_of fields (token_elements fields tokens) ≡ Ok tokens)
  unfolding tokens_of
  tokens_again tokens rise each =
      let reads = token_reads fields in
      let rows = field_rows fields in
      let apart = (rows_apart fields schema).1 in
      let rest = all_slotted reads token_spell token_number token_part tokens_from fields token_walk tokens rise (in_tokens tokens each) in (
        subst (λ es. Distinct es) rest.elements (written-distinct token_spell rows rest.slots apart),
        ap (built reads rows (tokens_from 0)) (sym rest.elements)
            ∙ written_read reads token_spell rows (tokens_from 0) rest.slots apart rest.each
            ∙ ap (λ them. Ok them) rest.items_are,
      )

-- ---- what a sender sends
module _ (u : Under) (leaves : Bool) (contentions : Contentions) (schema : IsSchema u.schema) (keyed : All (λ field. IsKeyed field.kind) u.schema)
    (within : AreWithin u.schema contentions) where
  cell_read : (cell : PlainCell) (one : ℕ × SentCell) → IsCell u.schema cell → SendsCell u leaves contentions cell one → IsHeldCell one.1
      → value_length (cell_value one.1) ≤ 16777216 → IsReadCell u.schema schema one
  cell_read cell one is sends held short =
      let kind : kind_at u.schema cell.field ≡ is.field.kind = ap kind_or_plain is.there in
      let most = contention_of contentions cell.field in
      let few : most ≤ greatest_of is.field.kind = subst (λ (it : FieldKind). most ≤ greatest_of it) kind (within cell.field) in
      let made : one.1 ≡ sent_value u leaves cell.field sends.drawn is.field.kind cell.value =
      sends.value ∙ ap (λ it. sent_value u leaves cell.field sends.drawn it cell.value) kind in
      let read = value_read u leaves cell.field most sends.drawn sends.are_drawn is.field.kind few
      (all_there (λ (f : Field). IsKeyed f.kind) u.schema cell.field is.field keyed is.there) cell.value is.allows in
      record {
        field = is.field;
        there = ap (slice_get u.schema) sends.field ∙ is.there;
        read = subst (λ it. IsHeldCell it → value_length (cell_value it) ≤ 16777216 → (name : List ℕ) → sent_reads is.field.kind name (cell_value it) ≡ Ok it) (sym made) read
            held short;
      }

  pub cells_read : (cells : List PlainCell) (sents : List (ℕ × SentCell)) → AllByRecursion (IsCell u.schema) cells → AllZip (SendsCell u leaves contentions) cells sents
      → AllByRecursion (λ one. IsHeldCell one.1) sents → AllByRecursion (λ one. value_length (cell_value one.1) ≤ 16777216) sents
      → AllByRecursion (IsReadCell u.schema schema) sents
  cells_read [] [] each sends held short = tt
  cells_read [] (one ∷ sents) each sends held short = absurd sends
  cells_read (cell ∷ cells) [] each sends held short = absurd sends
  cells_read (cell ∷ cells) (one ∷ sents) each sends held short =
      (cell_read cell one each.0 sends.0 held.0 short.0, cells_read cells sents each.1 sends.1 held.1 short.1)

  same_numbers : (cells : List PlainCell) (sents : List (ℕ × SentCell)) → AllZip (SendsCell u leaves contentions) cells sents
      → map (λ (cell : PlainCell). cell.field) cells ≡ map (λ (one : ℕ × SentCell). one.0) sents
  same_numbers [] [] sends = refl
  same_numbers [] (one ∷ sents) sends = absurd sends
  same_numbers (cell ∷ cells) [] sends = absurd sends
  same_numbers (cell ∷ cells) (one ∷ sents) sends =
      ap (λ n. n ∷ map (λ (it : PlainCell). it.field) cells) (sym sends.0.field) ∙ ap (λ ns. one.0 ∷ ns) (same_numbers cells sents sends.1)

  pub cells_rise : (cells : List PlainCell) (sents : List (ℕ × SentCell)) → AreCells u.schema cells → AllZip (SendsCell u leaves contentions) cells sents
      → RiseFrom 0 (map (λ (one : ℕ × SentCell). one.0) sents)
  cells_rise cells sents are sends = subst (RiseFrom 0) (same_numbers cells sents sends) (pairs_rise (λ (cell : PlainCell). cell.field) cells are.rise)

  pub tokens_read : (pairs : List Pair) → AllByRecursion (IsPair u.schema) pairs → AllByRecursion (IsReadToken u.schema schema) (sent_tokens u pairs)
  tokens_read [] each = tt
  tokens_read (pair ∷ pairs) each = (
    record { field = each.0.0.field; there = each.0.0.there; encrypted = each.0.0.allows; long = length-prf1 (collections_of (root_of u pair.sent)) 4 },
    tokens_read pairs each.1,
  )

  token_numbers : (pairs : List Pair) → map (λ (pair : Pair). pair.field) pairs ≡ map (λ (token : FieldToken). token.field) (sent_tokens u pairs)
  token_numbers [] = refl
  token_numbers (pair ∷ pairs) = ap (λ ns. pair.field ∷ ns) (token_numbers pairs)

  pub tokens_rise : (pairs : List Pair) → ArePairs u.schema pairs → RiseFrom 0 (map (λ (token : FieldToken). token.field) (sent_tokens u pairs))
  tokens_rise pairs are = subst (RiseFrom 0) (token_numbers pairs) (pairs_rise (λ (pair : Pair). pair.field) pairs are.rise)
