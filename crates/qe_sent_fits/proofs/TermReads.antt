-- Filters that are sent are read again, and are values that documents may hold.
use Rattle.std.proofs.Common.{◌≡◌, ℕ, pos, ◌+◌, ◌≤◌, true, false, List, [], ◌∷◌, length, map, Option, Some, Ok, refl, sym, ap, subst, ◌∙◌, arith}
use Rattle.std.specs.Prelude.{bytes_eq}
use Rattle.std.specs.List.{AllByRecursion}
use Rattle.std.proofs.lemmas.Bool.{false≢true}
use Rattle.std.proofs.lemmas.List.{length-map}
use Rattle.qe_edges.specs.Texts.{text_of}
use Rattle.qe_value.specs.declared.value.Plain.{Plain}
use Rattle.qe_value.specs.declared.value.Plain.TheVariants as p
use Rattle.qe_value.specs.declared.value.Value.{Value}
use Rattle.qe_value.specs.declared.value.Value.TheVariants as v
use Rattle.qe_value.specs.Measures.{depth, value_length, zero_in}
use Rattle.qe_value.specs.Types.{type_byte}
use Rattle.qe_value.specs.Views.{plain}
use Rattle.qe_value.proofs.DepthLemmas.{depth_leaf, zero_leaf}
use Rattle.qe_value.proofs.PlainLemmas.{spelled-Array, spelled-Doc}
use Rattle.qe_field.specs.declared.field.Field.{Field}
use Rattle.qe_field.specs.declared.field.FieldKind.{FieldKind}
use Rattle.qe_field.specs.declared.field.FieldKind.TheVariants as k
use Rattle.qe_field.specs.Lookup.{greatest_of, known, path_of, path_or_none}
use Rattle.qe_field.specs.Names.{is_reserved}
use Rattle.qe_field.specs.Schema.{IsSchema}
use Rattle.qe_field.specs.Values.{is_id, is_id_kind}
use Rattle.qe_plain.specs.declared.command.Term.{Term}
use Rattle.qe_plain.specs.declared.command.Term.TheVariants as term
use Rattle.qe_schema.specs.Resolved.{IsEqualityOf, IsRange, IsTerm}
use Rattle.qe_layout.specs.Documents.{each_read, of_type}
use Rattle.qe_layout.specs.Refusal.{bind, map_read, read_inside}
use Rattle.qe_parts.proofs.EntryLemmas.{each_again, fields_of-Doc, items_of-Array}
use Rattle.qe_find.specs.declared.equal.FindEqual.{FindEqual}
use Rattle.qe_find.specs.declared.range.FindRange.{FindRange}
use Rattle.qe_find.specs.Equal.{written_equal}
use Rattle.qe_find.specs.Range.{written_range}
use Rattle.qe_command.specs.declared.filter.SentTerm.{SentTerm}
use Rattle.qe_command.specs.declared.filter.SentTerm.TheVariants as t
use Rattle.qe_command_document.specs.CellDocuments.{id_name}
use Rattle.qe_command_document.specs.FilterArrays.{filter_reads, found_reads, one_read, term_item, term_reads}
use Rattle.qe_command_document.specs.Values.{value_of}
use Rattle.qe_command_written.specs.Written.{filter_value, sought_value, term_name, term_value}
use Rattle.qe_command_written.proofs.CellLemmas.{tree_again}
use Rattle.qe_labels.specs.Under.{Under}
use Rattle.qe_encodes.specs.Callers.{Contentions, contention_of}
use Rattle.qe_encodes.specs.Fields.{kind_at, kind_or_plain}
use Rattle.qe_encodes.specs.Items.{bytes_of, cover_in}
use Rattle.qe_encodes.specs.Payloads.{equal_payload, find_tokens, sent_filter, sent_term}
use Rattle.qe_sending.specs.Sendable.{AreWithin}
use Rattle.qe_held.specs.Held.{IsHeldEqual, IsHeldRange, IsHeldTerm, IsHeldValue}
use Rattle.qe_sent_fits.specs.Covers.{HasShortCover}
use Rattle.qe_sent_fits.proofs.CellReads.{field_known, field_path}
use Rattle.qe_held.proofs.NameLemmas.{IsSoundName, known_name}
use Rattle.qe_held.proofs.PayloadSound.{equal_bytes, range_bytes}
use Rattle.qe_sent_fits.proofs.ReadLemmas.{equal_read, id_read, range_read}
use Rattle.qe_held.proofs.SoundLemmas.{IsSound, array_sound, binary_sound, document_sound}

-- ---- ids hold no other value
id_flat : (w : Value) → is_id (plain w) ≡ true → (depth (plain w) ≡ 0) × (zero_in (plain w) ≡ false)
id_flat w is = (depth_leaf w no_document no_array, zero_leaf w no_document no_array)
  where
    no_document : (fs : List (List ℕ × Plain)) → w ≡ v.Doc fs → ⊥
    no_document fs same =
        false≢true (sym (ap (λ s. is_id_kind (type_byte s.kind)) (spelled-Doc fs)) ∙ sym (ap (λ (it : Value). is_id (plain it)) same) ∙ is)

    no_array : (vs : List Plain) → w ≡ v.Array vs → ⊥
    no_array vs same =
        false≢true (sym (ap (λ s. is_id_kind (type_byte s.kind)) (spelled-Array vs)) ∙ sym (ap (λ (it : Value). is_id (plain it)) same) ∙ is)

pub id_sound : (room : ℕ) (id : Plain) → is_id id ≡ true → IsHeldValue (plain (value_of id)) → IsSound room (plain (value_of id))
id_sound room id is held =
    let flat = id_flat (value_of id) (ap is_id (tree_again id) ∙ is) in
    record { fits = held.fits room (omega (arith, flat.0)) flat.1; bytes = held.bytes }

module _ (fields : List Field) where
  term_known : (name : List ℕ) (value : Plain) (found : Option (ℕ × FieldKind)) → is_reserved name ≡ false → bytes_eq name id_name ≡ false → known fields name ≡ found
      → term_reads fields name value ≡ found_reads found name value
  unfolding term_reads
  term_known name value found free other is = rw (free, other, is) refl

  own_id : (id : Plain) → is_id id ≡ true → term_reads fields id_name (plain (value_of id)) ≡ Ok (t.Id (value_of id))
  unfolding term_reads
  own_id id is = ap (map_read (λ it. t.Id it)) (id_read id_name id is)

found_equal : (number : ℕ) (kind : FieldKind) (value : Plain) (name : List ℕ) (x : FindEqual) → IsEqualityOf value kind → IsHeldEqual x
    → (factor : ℕ) → x.cm ≡ pos factor → factor ≤ greatest_of kind → found_reads (Some (number, kind)) name (p.Binary 6 (written_equal x)) ≡ Ok (t.Equal number x)
found_equal number k.Plain value name x of held factor is few = absurd of
found_equal number (k.Equality id kind contention greatest) value name x of held factor is few =
    ap (map_read (λ payload. t.Equal number payload)) (equal_read greatest name x held factor is few)
found_equal number (k.Range id kind contention greatest domain) value name x of held factor is few = absurd of

found_range : (number : ℕ) (kind : FieldKind) (name : List ℕ) (x : FindRange) → IsRange kind → IsHeldRange x → x.extra ≡ [] → length x.g ≤ 4096
    → (factor : ℕ) → x.cm ≡ pos factor → factor ≤ greatest_of kind → value_length (p.Binary 6 (written_range x)) ≤ 16777216
    → found_reads (Some (number, kind)) name (p.Binary 6 (written_range x)) ≡ Ok (t.Range number x)
found_range number k.Plain name x of held none many factor is few short = absurd of
found_range number (k.Equality id kind contention greatest) name x of held none many factor is few short = absurd of
found_range number (k.Range id kind contention greatest domain) name x of held none many factor is few short =
    ap (map_read (λ payload. t.Range number payload)) (range_read greatest name x held none many factor is few short)

-- a term that is read again, and stands in a document
pub record IsReadTerm (fields : List Field) (one : SentTerm) : Type 0 where
  pub read : term_reads fields (term_name fields one) (sought_value one) ≡ Ok one
  pub name : IsSoundName (term_name fields one)
  pub value : IsSound 97 (sought_value one)

-- ---- what a sender sends
module _ (u : Under) (contentions : Contentions) (schema : IsSchema u.schema) (within : AreWithin u.schema contentions) where
  term_read : (one : Term) (place : ℕ) → IsTerm u.schema one → HasShortCover u.schema one → IsHeldTerm (sent_term u contentions place one)
      → value_length (sought_value (sent_term u contentions place one)) ≤ 16777216 → IsReadTerm u.schema (sent_term u contentions place one)
  term_read (term.Id id) place is cover held short = record { read = own_id u.schema id is; name = known_name id_name refl; value = id_sound 97 id is held }
  term_read (term.Equal number value) place is cover held short =
      let x : FindEqual = equal_payload u (find_tokens u number (bytes_of value)) (contention_of contentions number) in
      let path = field_path u.schema schema number is.field is.there in
      let name : is.field.path ≡ path_of u.schema number = sym (ap path_or_none is.there) in
      let few : contention_of contentions number ≤ greatest_of is.field.kind =
      subst (λ (it : FieldKind). contention_of contentions number ≤ greatest_of it) (ap kind_or_plain is.there) (within number) in
      record {
        read = subst (λ text. term_reads u.schema text (p.Binary 6 (written_equal x)) ≡ Ok (t.Equal number x)) name
            (term_known u.schema is.field.path (p.Binary 6 (written_equal x)) _ path.free path.other (field_known u.schema schema number is.field is.there)
            ∙ found_equal number is.field.kind value is.field.path x is.allows held (contention_of contentions number) refl few);
        name = subst IsSoundName name path.sound;
        value = binary_sound 97 6 (written_equal x) (omega arith) (equal_bytes x held);
      }
  term_read (term.Between number lo hi) place is cover held short =
      let edges = cover_in (kind_at u.schema number) lo hi in
      let x : FindRange = record {
        g = map (λ edge. find_tokens u number (text_of edge)) edges;
        cm = pos (contention_of contentions number);
        payload_id = pos place;
        extra = [];
      } in
      let path = field_path u.schema schema number is.field is.there in
      let name : is.field.path ≡ path_of u.schema number = sym (ap path_or_none is.there) in
      let few : contention_of contentions number ≤ greatest_of is.field.kind =
      subst (λ (it : FieldKind). contention_of contentions number ≤ greatest_of it) (ap kind_or_plain is.there) (within number) in
      let many : length x.g ≤ 4096 = omega (arith, cover, length-map edges (λ edge. find_tokens u number (text_of edge))) in
      record {
        read = subst (λ text. term_reads u.schema text (p.Binary 6 (written_range x)) ≡ Ok (t.Range number x)) name
            (term_known u.schema is.field.path (p.Binary 6 (written_range x)) _ path.free path.other (field_known u.schema schema number is.field is.there)
            ∙ found_range number is.field.kind is.field.path x is.allows held refl many (contention_of contentions number) refl few short);
        name = subst IsSoundName name path.sound;
        value = binary_sound 97 6 (written_range x) (omega arith) (range_bytes x held refl many);
      }

  pub terms_read : (terms : List Term) (place : ℕ) → AllByRecursion (IsTerm u.schema) terms → AllByRecursion (HasShortCover u.schema) terms
      → AllByRecursion IsHeldTerm (sent_filter u contentions terms place)
      → AllByRecursion (λ one. value_length (sought_value one) ≤ 16777216) (sent_filter u contentions terms place)
      → AllByRecursion (IsReadTerm u.schema) (sent_filter u contentions terms place)
  terms_read [] place each covers held short = tt
  terms_read (one ∷ terms) place each covers held short =
      (term_read one place each.0 covers.0 held.0 short.0, terms_read terms (place + 1) each.1 covers.1 held.1 short.1)

-- ---- filters
module _ (fields : List Field) where
  abbrev ItemAgain : SentTerm → Type 0
  ItemAgain one = (index : List ℕ) → term_item fields index (term_value fields one) ≡ Ok one

  item_again : (one : SentTerm) → IsReadTerm fields one → ItemAgain one
  unfolding term_item
  item_again one is index =
      ap (λ found. bind (of_type index found) (one_read fields index)) (fields_of-Doc ((term_name fields one, sought_value one) ∷ []))
      ∙ ap (read_inside index) is.read

  items_again : (terms : List SentTerm) → AllByRecursion (IsReadTerm fields) terms → AllByRecursion ItemAgain terms
  items_again [] each = tt
  items_again (one ∷ terms) each = (item_again one each.0, items_again terms each.1)

  pub filter_again : (name : List ℕ) (terms : List SentTerm) → AllByRecursion (IsReadTerm fields) terms → filter_reads fields name (filter_value fields terms) ≡ Ok terms
  filter_again name terms each =
      ap (λ found. bind (of_type name found) (λ items. read_inside name (each_read (term_item fields) 0 items))) (items_of-Array (map (term_value fields) terms))
      ∙ ap (read_inside name) (each_again (term_item fields) (term_value fields) 0 terms (items_again terms each))

  terms_sound : (terms : List SentTerm) → AllByRecursion (IsReadTerm fields) terms → AllByRecursion (IsSound 98) (map (term_value fields) terms)
  terms_sound [] each = tt
  terms_sound (one ∷ terms) each = (
    document_sound 97 ((term_name fields one, sought_value one) ∷ []) (record { apart = (refl, tt); each = ((each.0.name, each.0.value), tt) }),
    terms_sound terms each.1,
  )

  pub filter_sound : (terms : List SentTerm) → length terms ≤ 16777216 → AllByRecursion (IsReadTerm fields) terms → IsSound 99 (filter_value fields terms)
  filter_sound terms few each =
      array_sound 98 (map (term_value fields) terms) (omega (arith, few, length-map terms (term_value fields))) (terms_sound terms each)
