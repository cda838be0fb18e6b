-- The searches of a command's values count how often their words were indexed before the command.
use Rattle.std.proofs.Common.{◌≡◌, ◌≤◌, ◌<◌, ℕ, List, [], ◌∷◌, ◌++◌, length, map, drop, Bool, AllPairs, refl, sym, ◌∙◌, subst, arith, inl, inr}
use Rattle.std.specs.Prelude.{nat_abs}
use Rattle.std.specs.List.{AllByRecursion}
use Rattle.std.proofs.lemmas.List.{length-drop, append-nil}
use Rattle.qe_base.specs.declared.maintenance.Count.{Count}
use Rattle.qe_tokens.specs.declared.words.Word.TheVariants.{Item}
use Rattle.qe_value.specs.declared.value.Plain.{Plain}
use Rattle.qe_field.specs.declared.field.FieldKind.{FieldKind}
use Rattle.qe_field.specs.declared.field.FieldKind.TheVariants as k
use Rattle.qe_field.specs.declared.field.Field.{Field}
use Rattle.qe_ecoc.specs.declared.rows.Entry.{Entry}
use Rattle.qe_parts.specs.declared.edges.EdgeTokens.{EdgeTokens}
use Rattle.qe_plain.specs.declared.command.PlainCell.{PlainCell}
use Rattle.qe_schema.specs.Resolved.{IsKeptBy}
use Rattle.qe_command.specs.declared.cells.SentCell.{SentCell}
use Rattle.qe_command.specs.declared.cells.SentCell.TheVariants as sent
use Rattle.qe_command.specs.Items.{items_of}
use Rattle.qe_command.specs.Nonces.{cell_nonces, cells_nonces}
use Rattle.qe_protocol.specs.Indexing.{AllowedCell, AllowedCells, index_cell}
use Rattle.qe_protocol.specs.Laws.{AreLong}
use Rattle.qe_protocol.specs.State.{Index}
use Rattle.qe_labels.specs.Laws.{IsFree}
use Rattle.qe_labels.specs.Numbers.{Later, Numbers, all_raised, raised}
use Rattle.qe_labels.specs.Tags.{words_under}
use Rattle.qe_labels.specs.Under.{Under, root_of}
use Rattle.qe_labels.proofs.NumberLemmas.{free_before, later_all_raised, later_on}
use Rattle.qe_relation.specs.Stands.{IndexStands}
use Rattle.qe_relation.proofs.PlaceLemmas.{each_append}
use Rattle.qe_encodes.specs.Callers.{Contentions, contention_of}
use Rattle.qe_encodes.specs.Encodes.{AreDrawn, SendsCell}
use Rattle.qe_encodes.specs.Fields.{IsUnder, kind_at}
use Rattle.qe_encodes.specs.Items.{value_items}
use Rattle.qe_encodes.specs.Laws.{EdgeLaws}
use Rattle.qe_encodes.specs.Payloads.{Drawn, sent_value}
use Rattle.qe_encodes.specs.Words.{cell_words, cells_words, value_words}
use Rattle.qe_encodes.proofs.FieldLemmas.{keyed_at}
use Rattle.qe_encodes.proofs.MemberLemmas.{IsIn}
use Rattle.qe_standing.specs.Laws.{AreMeant}
use Rattle.qe_standing.proofs.CellLemmas.{are_items}
use Rattle.qe_standing.proofs.CellsLemmas.{long_drop, one_kept, raised_both}
use Rattle.qe_laws.specs.Entries.{CountsItsWord, times}
use Rattle.qe_laws.specs.Searches.{Searched, by_cell, by_cells}
use Rattle.qe_laws.proofs.ApartLemmas.{each_in, items_apart, pairs_head, pairs_tail}
use Rattle.qe_laws.proofs.CountLemmas.{AreApart, count_of, items_count, other_field, times_raised, told_both, told_items}

abbrev sent_items : SentCell → List EdgeTokens
sent_items (sent.Plain value) = []
sent_items (sent.Payload payload) = items_of payload

-- ---- what is told
told_cell : (field : ℕ) (index : Index) (one : SentCell) (nonces : List (List ℕ)) (counts : List Count) → AllowedCell field index one counts
    → map count_of (by_cell field index one counts) ++ (index_cell field index one nonces counts).rest ≡ counts
told_cell field index (sent.Plain value) nonces counts allowed = refl
told_cell field index (sent.Payload payload) nonces counts allowed = told_items field (nat_abs payload.k) index (items_of payload) (drop 1 nonces) counts allowed

pub told_cells : (index : Index) (sents : List (ℕ × SentCell)) (nonces : List (List ℕ)) (counts : List Count) → AllowedCells index sents nonces counts
    → map count_of (by_cells index sents nonces counts) ≡ counts
told_cells index [] nonces counts allowed = sym allowed
told_cells index (one ∷ sents) nonces counts allowed =
    let done = index_cell one.0 index one.1 nonces counts in
    let left = drop (cell_nonces one.1) nonces in
    let front = by_cell one.0 index one.1 counts in
    let back = by_cells done.index sents left done.rest in
    sym (append-nil (map count_of (front ++ back)))
    ∙ told_both front back done.rest [] counts (told_cell one.0 index one.1 nonces counts allowed.0)
    (append-nil (map count_of back) ∙ told_cells done.index sents left done.rest allowed.1)

-- ---- words of other fields
raised_under : (field factor place other : ℕ) (y : List ℕ) → (place ≡ field → ⊥) → (xs : List (List ℕ)) (numbers : Numbers)
    → times (all_raised numbers (words_under field factor xs)) (Item place y other) ≡ times numbers (Item place y other)
raised_under field factor place other y apart [] numbers = refl
raised_under field factor place other y apart (x ∷ xs) numbers =
    raised_under field factor place other y apart xs (raised numbers (Item field x factor))
    ∙ times_raised numbers (Item field x factor) (Item place y other) (other_field y x place field other factor apart)

raised_elsewhere : (fields : List Field) (cell : PlainCell) (one : SentCell) (place other : ℕ) (y : List ℕ) → (place ≡ cell.field → ⊥) → (numbers : Numbers)
    → times (all_raised numbers (cell_words fields cell one)) (Item place y other) ≡ times numbers (Item place y other)
raised_elsewhere fields cell (sent.Plain value) place other y apart numbers = refl
raised_elsewhere fields cell (sent.Payload payload) place other y apart numbers =
    raised_under cell.field (nat_abs payload.k) place other y apart (value_items (kind_at fields cell.field) cell.value) numbers

-- ---- values
module _ (laws : EdgeLaws) (u : Under) (is : IsUnder u) (before run : Numbers) (free : IsFree (root_of u) run) (leaves : Bool) (contentions : Contentions)
    (aside : List Entry) (captured doomed : List (List ℕ)) where
  abbrev Each : List Searched → Type 0
  Each searches = AllByRecursion (CountsItsWord (root_of u) before run) searches

  -- the words of a field have their numbers still
  abbrev AreSame : Numbers → ℕ → Type 0
  AreSame now field = (x : List ℕ) (factor : ℕ) → times now (Item field x factor) ≡ times before (Item field x factor)

  value_counts : (field most : ℕ) (drawn : Drawn) → AreDrawn most drawn → (kind : FieldKind) (value : Plain) → AreApart (value_items kind value) → (index : Index) (counts : List Count)
      (now : Numbers) → AllowedCell field index (sent_value u leaves field drawn kind value) counts
      → Later (all_raised now (value_words field kind value (sent_value u leaves field drawn kind value))) run
      → IndexStands (root_of u) now index.rows index.ecoc aside captured doomed → AreSame now field
      → Each (by_cell field index (sent_value u leaves field drawn kind value) counts)
  value_counts field most drawn are k.Plain value apart index counts now allowed later stand same = tt
  value_counts field most drawn are (k.Equality key_id value_kind contention greatest) value apart index counts now allowed later stand same =
      let kind = k.Equality key_id value_kind contention greatest in
      items_count (root_of u) before run free aside captured doomed field drawn.factor (value_items kind value) (sent_items (sent_value u leaves field drawn kind value)) counts now index
      (are_items u field leaves kind most drawn are value) allowed later stand apart (λ (x : List ℕ) (among : IsIn x (value_items kind value)). same x drawn.factor)
  value_counts field most drawn are (k.Range key_id value_kind contention greatest domain) value apart index counts now allowed later stand same =
      let kind = k.Range key_id value_kind contention greatest domain in
      items_count (root_of u) before run free aside captured doomed field drawn.factor (value_items kind value) (sent_items (sent_value u leaves field drawn kind value)) counts now index
      (are_items u field leaves kind most drawn are value) allowed later stand apart (λ (x : List ℕ) (among : IsIn x (value_items kind value)). same x drawn.factor)

  cell_counts : (cell : PlainCell) (one : ℕ × SentCell) → SendsCell u leaves contentions cell one → IsKeptBy cell.value (kind_at u.schema cell.field) → (index : Index) (counts : List Count)
      (now : Numbers) → AllowedCell one.0 index one.1 counts → Later (all_raised now (cell_words u.schema cell one.1)) run
      → IndexStands (root_of u) now index.rows index.ecoc aside captured doomed → AreSame now cell.field → Each (by_cell one.0 index one.1 counts)
  cell_counts cell one sends kept index counts now allowed later stand same =
      let kind = kind_at u.schema cell.field in
      let due : ℕ × SentCell = (cell.field, sent_value u leaves cell.field sends.drawn kind cell.value) in
      let is_due : one ≡ due = λ i. (sends.field i, sends.value i) in
      subst (λ (x : ℕ × SentCell). Each (by_cell x.0 index x.1 counts)) (sym is_due)
      (value_counts cell.field (contention_of contentions cell.field) sends.drawn sends.are_drawn kind cell.value (items_apart laws kind cell.value (keyed_at u is cell.field) kept) index counts now
      (subst (λ (x : ℕ × SentCell). AllowedCell x.0 index x.1 counts) is_due allowed)
      (subst (λ (x : ℕ × SentCell). Later (all_raised now (cell_words u.schema cell x.1)) run) is_due later) stand same)

  pub cells_count : (cells : List PlainCell) (sents : List (ℕ × SentCell)) → AreMeant u leaves contentions cells sents → AllPairs (λ a b. a.field < b.field) cells
      → (index : Index) (nonces : List (List ℕ)) (counts : List Count) → AreLong nonces → cells_nonces sents ≤ length nonces → AllowedCells index sents nonces counts
      → (now : Numbers) → IndexStands (root_of u) now index.rows index.ecoc aside captured doomed → Later (all_raised now (cells_words u.schema cells sents)) run
      → ((cell : PlainCell) → IsIn cell cells → AreSame now cell.field) → Each (by_cells index sents nonces counts)
  cells_count [] [] are rise index nonces counts long enough allowed now stand later same = tt
  cells_count [] (one ∷ sents) are rise index nonces counts long enough allowed now stand later same = absurd are.sends
  cells_count (cell ∷ cells) [] are rise index nonces counts long enough allowed now stand later same = absurd are.sends
  cells_count (cell ∷ cells) (one ∷ sents) are rise index nonces counts long enough allowed now stand later same =
      let rest : AreMeant u leaves contentions cells sents = record { sends = are.sends.1; kept = are.kept.1; spelled = are.spelled.1; fits = are.fits.1 } in
      let done = index_cell one.0 index one.1 nonces counts in
      let left = drop (cell_nonces one.1) nonces in
      let behind_nonces = length-drop (cell_nonces one.1) nonces in
      let words = cell_words u.schema cell one.1 in
      let more = cells_words u.schema cells sents in
      let next = all_raised now words in
      let last = all_raised next more in
      let later_last : Later last run = subst (λ (m : Numbers). Later m run) (raised_both now words more) later in
      let later_next : Later next run = later_on next last run (later_all_raised more next) later_last in
      let kept = one_kept u is leaves contentions cell one are.sends.0 are.fits.0 index nonces counts long (omega (arith, enough)) allowed.0 are.kept.0 aside captured doomed now stand
      (free_before (root_of u) next run later_next free) in
      each_append (CountsItsWord (root_of u) before run) (by_cell one.0 index one.1 counts) (by_cells done.index sents left done.rest)
      (cell_counts cell one are.sends.0 are.kept.0 index counts now allowed.0 later_next stand (same cell (inl refl)))
      (cells_count cells sents rest (pairs_tail (λ (a b : PlainCell). a.field < b.field) cell cells rise) done.index left done.rest (long_drop (cell_nonces one.1) nonces long)
      (omega (arith, enough, behind_nonces)) allowed.1 next kept.stand later_last
      (λ (other : PlainCell) (among : IsIn other cells) (x : List ℕ) (factor : ℕ).
      let above : cell.field < other.field =
      each_in (λ (b : PlainCell). cell.field < b.field) cells other (pairs_head (λ (a b : PlainCell). a.field < b.field) cell cells rise) among in
      raised_elsewhere u.schema cell one.1 other.field factor x (λ (equal : other.field ≡ cell.field). omega (arith, above, equal)) now
      ∙ same other (inr among) x factor))
