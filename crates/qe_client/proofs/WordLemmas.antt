-- The items of a run are of encrypted fields.
use Rattle.std.proofs.Common.{◌≡◌, ℕ, ◌+◌, zero, suc, true, List, [], ◌∷◌, ◌++◌, Option, None, Some, refl, sym, ap, subst, ◌∙◌, inl, inr}
use Rattle.std.proofs.lemmas.Bool.{cond_both}
use Rattle.std.specs.Prelude.{Bool, bytes_eq, nat_abs, slice_get, unwrap_or, if◌then◌else◌}
use Rattle.std.specs.FinMap.{get, empty, get-empty}
use Rattle.std.specs.FinMap.{empty, get, insert, contains_key}
use Rattle.std.specs.List.{All, AllByRecursion}
use Rattle.std.proofs.lemmas.List.Elements.{All-head, All-tail}
use Rattle.qe_value.specs.declared.value.Plain.{Plain}
use Rattle.qe_field.specs.declared.field.Field.{Field}
use Rattle.qe_field.specs.declared.field.FieldKind.{FieldKind}
use Rattle.qe_field.specs.declared.field.FieldKind.TheVariants as k
use Rattle.qe_field.specs.Lookup.{is_encrypted}
use Rattle.qe_tokens.specs.declared.words.FieldToken.{FieldToken}
use Rattle.qe_tokens.specs.declared.words.Word.{Word}
use Rattle.qe_tokens.specs.declared.words.Word.TheVariants.{Item, Stray}
use Rattle.qe_ecoc.specs.declared.rows.Entry.{Entry}
use Rattle.qe_plain.specs.declared.command.PlainCell.{PlainCell}
use Rattle.qe_plain.specs.declared.command.PlainCommand.{PlainCommand}
use Rattle.qe_plain.specs.declared.command.PlainCommand.TheVariants as p
use Rattle.qe_plain.specs.declared.command.Term.{Term}
use Rattle.qe_plain.specs.declared.command.Term.TheVariants as t
use Rattle.qe_schema.specs.Resolved.{IsEqualityOf, IsRange, IsResolved, IsTerm, OfField}
use Rattle.qe_command.specs.declared.cells.SentCell.{SentCell}
use Rattle.qe_command.specs.declared.cells.SentCell.TheVariants as sent
use Rattle.qe_command.specs.declared.command.Command.{Command}
use Rattle.qe_command.specs.declared.command.Command.TheVariants as c
use Rattle.qe_command.specs.declared.filter.SentTerm.{SentTerm}
use Rattle.qe_protocol.specs.declared.journal.JournalEntry.{JournalEntry}
use Rattle.qe_protocol.specs.Journal.{done, opening}
use Rattle.qe_protocol.specs.State.{State}
use Rattle.qe_protocol.specs.Units.{opened_row, token_for}
use Rattle.qe_labels.specs.Numbers.{Numbers, all_learned, all_raised, learned, raised, word_cmp}
use Rattle.qe_labels.specs.Tags.{words_under}
use Rattle.qe_labels.specs.Under.{Under}
use Rattle.qe_labels.proofs.OrderLemmas.{cases_word, number_other}
use Rattle.qe_relation.proofs.PlaceLemmas.{each_append}
use Rattle.qe_census.specs.Noted.{HasFields}
use Rattle.qe_census.specs.Roots.{IsEncrypted}
use Rattle.qe_encodes.specs.Callers.{Callers, Contentions, callers_next, contention_of, opening_callers}
use Rattle.qe_encodes.specs.Counted.{is_accepted, numbers_from, numbers_of, numbers_with, opened_in, stray_words, strays_of}
use Rattle.qe_encodes.specs.Encoded.{EncodedFrom, IsEncoded, IsEncodedEntry}
use Rattle.qe_encodes.specs.Encodes.{Encodes}
use Rattle.qe_encodes.specs.Fields.{kind_at, kind_or_plain}
use Rattle.qe_encodes.specs.Items.{bytes_of, cover_in, term_items, value_items}
use Rattle.qe_encodes.specs.Payloads.{ecoc_token, sent_filter}
use Rattle.qe_encodes.specs.Words.{cell_words, cells_words, factor_words, item_words, plain_cells, sent_cells, sought_words, stored_words, terms_words}
use Rattle.qe_client.specs.Laws.{ItemsAreEncrypted}

-- an item's field has a property
abbrev pub HasField : (ℕ → Type 0) → Word → Type 0
HasField Of (Item field item factor) = Of field
HasField Of (Stray token) = Unit {0}

-- ---- words that are learned and raised
module _ (Of : ℕ → Type 0) where
  put_fields : (numbers : Numbers) (word : Word) (n : ℕ) → HasFields Of numbers → HasField Of word → HasFields Of (insert numbers word n)
  put_fields numbers word n fields has = record {
    each = λ field factor m item is. elim (cases_word (Item field item factor) word) [
      | inl same ↦ subst (HasField Of) (sym same) has
      | inr apart ↦ fields.each field factor m item (sym (number_other numbers word n (Item field item factor) apart) ∙ is)
    ];
  }

  learned_fields : (words : List Word) (numbers : Numbers) → HasFields Of numbers → AllByRecursion (HasField Of) words → HasFields Of (all_learned numbers words)
  learned_fields [] numbers fields have = fields
  learned_fields (word ∷ words) numbers fields have =
      learned_fields words (learned numbers word)
      (cond_both (contains_key numbers word) numbers (insert numbers word 0) (HasFields Of) (λ _. fields) (λ _. put_fields numbers word 0 fields have.0)) have.1

  raised_fields : (words : List Word) (numbers : Numbers) → HasFields Of numbers → AllByRecursion (HasField Of) words → HasFields Of (all_raised numbers words)
  raised_fields [] numbers fields have = fields
  raised_fields (word ∷ words) numbers fields have =
      raised_fields words (raised numbers word) (put_fields numbers word (unwrap_or (get numbers word) 0 + 1) fields have.0) have.1

  under_fields : (field factor : ℕ) (items : List (List ℕ)) → Of field → AllByRecursion (HasField Of) (words_under field factor items)
  under_fields field factor [] of = tt
  under_fields field factor (item ∷ items) of = (of, under_fields field factor items of)

  factor_fields : (field : ℕ) (item : List ℕ) (factor count : ℕ) → Of field → AllByRecursion (HasField Of) (factor_words field item factor count)
  factor_fields field item factor zero of = tt
  factor_fields field item factor (suc count) of = (of, factor_fields field item (factor + 1) count of)

  item_fields : (field : ℕ) (items : List (List ℕ)) (greatest : ℕ) → Of field → AllByRecursion (HasField Of) (item_words field items greatest)
  item_fields field [] greatest of = tt
  item_fields field (item ∷ items) greatest of =
      each_append (HasField Of) (factor_words field item 0 (greatest + 1)) (item_words field items greatest)
      (factor_fields field item 0 (greatest + 1) of) (item_fields field items greatest of)

-- ---- words of values, and of terms
module _ (fields : List Field) where
  abbrev IsOurs : Word → Type 0
  IsOurs word = HasField (IsEncrypted fields) word

  encrypted_at : (number : ℕ) (field : Field) → slice_get fields number ≡ Some field → is_encrypted field.kind ≡ true → IsEncrypted fields number
  encrypted_at number field at encrypted = record { field = field; at = at; encrypted = encrypted }

  kind_fields : (number factor : ℕ) (value : Plain) (field : Field) → slice_get fields number ≡ Some field → (kind : FieldKind) → field.kind ≡ kind
      → AllByRecursion IsOurs (words_under number factor (value_items kind value))
  kind_fields number factor value field at k.Plain is = tt
  kind_fields number factor value field at (k.Equality key_id value_kind contention greatest) is =
      under_fields (IsEncrypted fields) number factor (value_items (k.Equality key_id value_kind contention greatest) value)
      (encrypted_at number field at (ap is_encrypted is))
  kind_fields number factor value field at (k.Range key_id value_kind contention greatest domain) is =
      under_fields (IsEncrypted fields) number factor (value_items (k.Range key_id value_kind contention greatest domain) value)
      (encrypted_at number field at (ap is_encrypted is))

  value_fields : (number factor : ℕ) (value : Plain) (there : Option Field) → slice_get fields number ≡ there
      → AllByRecursion IsOurs (words_under number factor (value_items (kind_or_plain there) value))
  value_fields number factor value None at = tt
  value_fields number factor value (Some field) at = kind_fields number factor value field at field.kind refl

  cell_fields : (cell : PlainCell) (one : SentCell) → AllByRecursion IsOurs (cell_words fields cell one)
  cell_fields cell (sent.Plain stored) = tt
  cell_fields cell (sent.Payload payload) = value_fields cell.field (nat_abs payload.k) cell.value (slice_get fields cell.field) refl

  cells_fields : (cells : List PlainCell) (sents : List (ℕ × SentCell)) → AllByRecursion IsOurs (cells_words fields cells sents)
  cells_fields [] sents = tt
  cells_fields (cell ∷ cells) [] = tt
  cells_fields (cell ∷ cells) (one ∷ sents) =
      each_append IsOurs (cell_words fields cell one.1) (cells_words fields cells sents) (cell_fields cell one.1) (cells_fields cells sents)

  equality_kind : (value : Plain) (kind : FieldKind) → IsEqualityOf value kind → is_encrypted kind ≡ true
  equality_kind value k.Plain is = absurd is
  equality_kind value (k.Equality _ _ _ _) is = refl
  equality_kind value (k.Range _ _ _ _ _) is = absurd is

  range_kind : (kind : FieldKind) → IsRange kind → is_encrypted kind ≡ true
  range_kind k.Plain is = absurd is
  range_kind (k.Equality _ _ _ _) is = absurd is
  range_kind (k.Range _ _ _ _ _) is = refl

module _ (u : Under) (contentions : Contentions) where
  terms_fields : (terms : List Term) (place : ℕ) → All (IsTerm u.schema) terms
      → AllByRecursion (IsOurs u.schema) (terms_words u.schema terms (sent_filter u contentions terms place))
  terms_fields [] place are = tt
  terms_fields (t.Id value ∷ terms) place are = terms_fields terms (place + 1) (All-tail (IsTerm u.schema) (t.Id value) terms are)
  terms_fields (t.Equal field value ∷ terms) place are =
      let of : OfField u.schema field (IsEqualityOf value) = All-head (IsTerm u.schema) (t.Equal field value) terms are in
      each_append (IsOurs u.schema) (item_words field (bytes_of value ∷ []) (contention_of contentions field))
      (terms_words u.schema terms (sent_filter u contentions terms (place + 1)))
      (item_fields (IsEncrypted u.schema) field (bytes_of value ∷ []) (contention_of contentions field)
      (encrypted_at u.schema field of.field of.there (equality_kind u.schema value of.field.kind of.allows)))
      (terms_fields terms (place + 1) (All-tail (IsTerm u.schema) (t.Equal field value) terms are))
  terms_fields (t.Between field lo hi ∷ terms) place are =
      let of : OfField u.schema field IsRange = All-head (IsTerm u.schema) (t.Between field lo hi) terms are in
      each_append (IsOurs u.schema) (item_words field (term_items u.schema (t.Between field lo hi)) (contention_of contentions field))
      (terms_words u.schema terms (sent_filter u contentions terms (place + 1)))
      (item_fields (IsEncrypted u.schema) field (term_items u.schema (t.Between field lo hi)) (contention_of contentions field)
      (encrypted_at u.schema field of.field of.there (range_kind u.schema of.field.kind of.allows)))
      (terms_fields terms (place + 1) (All-tail (IsTerm u.schema) (t.Between field lo hi) terms are))

  filter_fields : (terms : List Term) (filter : List SentTerm) → All (IsTerm u.schema) terms → filter ≡ sent_filter u contentions terms 0
      → AllByRecursion (IsOurs u.schema) (terms_words u.schema terms filter)
  filter_fields terms filter are is =
      subst (λ sents. AllByRecursion (IsOurs u.schema) (terms_words u.schema terms sents)) (sym is) (terms_fields terms 0 are)

  sought_fields : (leaves : Bool) (plain : PlainCommand) (command : Command) → IsResolved u.schema plain → Encodes u leaves contentions plain command
      → AllByRecursion (IsOurs u.schema) (sought_words u.schema plain command)
  sought_fields leaves (p.Find terms ids) (c.Find filter only) resolved is = filter_fields terms filter resolved is.0
  sought_fields leaves (p.Find terms ids) _ resolved is = absurd is
  sought_fields leaves (p.Update terms set) (c.Update filter cells) resolved is = filter_fields terms filter resolved.0 is.0
  sought_fields leaves (p.Update terms set) _ resolved is = absurd is
  sought_fields leaves (p.Delete terms) (c.Delete filter) resolved is = filter_fields terms filter resolved is
  sought_fields leaves (p.Delete terms) _ resolved is = absurd is
  sought_fields leaves (p.Insert document) command resolved is = tt
  sought_fields leaves (p.Begin kind pairs) command resolved is = tt
  sought_fields leaves (p.Step job limit) command resolved is = tt
  sought_fields leaves (p.End job) command resolved is = tt
  sought_fields leaves (p.Abandon job) command resolved is = tt
  sought_fields leaves (p.Raise field contention) command resolved is = tt

-- ---- entries
module _ (u : Under) where
  strays_fields : (tokens : List FieldToken) (rows : List Entry) → AllByRecursion (IsOurs u.schema) (strays_of u tokens rows)
  strays_fields tokens [] = tt
  strays_fields tokens (row ∷ rows) =
      cond_both (bytes_eq (token_for tokens row.field) (ecoc_token u row.field)) [] (Stray (opened_row tokens row).token ∷ [])
      (λ (front : List Word). AllByRecursion (IsOurs u.schema) (front ++ strays_of u tokens rows))
      (λ _. strays_fields tokens rows) (λ _. (tt, strays_fields tokens rows))

  entry_fields : (callers : Callers) (state : State) (plain : PlainCommand) (entry : JournalEntry) (numbers : Numbers)
      → IsEncodedEntry u callers plain entry → HasFields (IsEncrypted u.schema) numbers → HasFields (IsEncrypted u.schema) (numbers_with u state plain entry numbers)
  entry_fields callers state plain entry numbers is fields =
      let Of = IsEncrypted u.schema in
      let sought = all_learned numbers (sought_words u.schema plain entry.command) in
      let words = stored_words u.schema plain entry.command in
      let opened = opened_in state entry.command entry.nonces entry.counts in
      let first : HasFields Of sought =
      learned_fields Of (sought_words u.schema plain entry.command) numbers fields
      (sought_fields u (callers entry.caller).contentions is.leaves plain entry.command is.meant.resolved is.encodes) in
      let stored : HasFields Of (if is_accepted entry.outcome then all_raised sought words else sought) =
      cond_both (is_accepted entry.outcome) (all_raised sought words) sought (HasFields Of)
      (λ _. raised_fields Of words sought first (cells_fields u.schema (plain_cells plain) (sent_cells entry.command))) (λ _. first) in
      learned_fields Of (strays_of u opened.0 opened.1) (if is_accepted entry.outcome then all_raised sought words else sought) stored
      (strays_fields opened.0 opened.1)

  from_fields : (callers : Callers) (state : State) (plains : List PlainCommand) (entries : List JournalEntry) (numbers : Numbers)
      → EncodedFrom u callers plains entries → HasFields (IsEncrypted u.schema) numbers
      → HasFields (IsEncrypted u.schema) (numbers_from u state numbers plains entries)
  from_fields callers state [] entries numbers encoded fields = fields
  from_fields callers state (plain ∷ plains) [] numbers encoded fields = fields
  from_fields callers state (plain ∷ plains) (entry ∷ entries) numbers encoded fields =
      from_fields (callers_next callers entry.caller plain entry.outcome) (done state entry).state plains entries (numbers_with u state plain entry numbers)
      encoded.1 (entry_fields callers state plain entry numbers encoded.0 fields)

none_known : (word : Word) (n : ℕ) → get (empty {X = ℕ} {R = word_cmp}) word ≡ Some n → ⊥
none_known word n known = let none : None ≡ Some n = sym (get-empty word_cmp word) ∙ known in cc

pub items_are_encrypted : ItemsAreEncrypted
unfolding numbers_of
items_are_encrypted u plains journal is =
    from_fields u (opening_callers u.schema) (opening u.schema) plains journal empty is.encoded
    (record { each = λ field factor n item known. absurd (none_known (Item field item factor) n known) })
