-- All values of a command: the index stands for their words, and what is stored decodes and has their tags.
use Rattle.std.proofs.Common.{◌≡◌, ◌≤◌, ℕ, zero, suc, List, [], ◌∷◌, ◌++◌, length, drop, Bool, refl, sym, subst, arith, length-drop}
use Rattle.std.specs.List.{AllZip}
use Rattle.qe_base.specs.declared.maintenance.Count.{Count}
use Rattle.qe_tokens.specs.declared.words.Word.{Word}
use Rattle.qe_ecoc.specs.declared.rows.Entry.{Entry}
use Rattle.qe_field.specs.declared.field.FieldKind.{FieldKind}
use Rattle.qe_field.specs.declared.field.FieldKind.TheVariants as k
use Rattle.qe_field.specs.Schema.{IsKind}
use Rattle.qe_plain.specs.declared.command.PlainCell.{PlainCell}
use Rattle.qe_schema.specs.Resolved.{IsKeptBy}
use Rattle.qe_store.specs.declared.stored.Cell.{Cell}
use Rattle.qe_command.specs.declared.cells.SentCell.{SentCell}
use Rattle.qe_command.specs.Nonces.{cell_nonces, cells_nonces}
use Rattle.qe_command_fits.specs.OfSchema.{IsCellOf, IsFieldAt}
use Rattle.qe_protocol.specs.State.{Index}
use Rattle.qe_protocol.specs.Indexing.{AllowedCell, AllowedCells, cell_tags, index_cell, index_cells}
use Rattle.qe_protocol.specs.Laws.{AreLong}
use Rattle.qe_labels.specs.Laws.{IsFree}
use Rattle.qe_labels.specs.Numbers.{Later, Numbers, all_raised, raised}
use Rattle.qe_labels.specs.Tags.{AreTagsOf, words_under}
use Rattle.qe_labels.specs.Under.{Under, root_of}
use Rattle.qe_labels.proofs.NumberLemmas.{free_before, later_all_raised}
use Rattle.qe_relation.specs.Stands.{IndexStands}
use Rattle.qe_relation.proofs.ItemLemmas.{tag_later}
use Rattle.qe_encodes.specs.Callers.{Contentions, contention_of}
use Rattle.qe_encodes.specs.Decodes.{DecodesCell}
use Rattle.qe_encodes.specs.Encodes.{SendsCell}
use Rattle.qe_encodes.specs.Fields.{IsUnder, kind_at}
use Rattle.qe_encodes.specs.Items.{value_items}
use Rattle.qe_encodes.specs.Meant.{IsSpelledCell}
use Rattle.qe_encodes.specs.Payloads.{sent_value}
use Rattle.qe_encodes.specs.Words.{cell_words, cells_words}
use Rattle.qe_encodes.proofs.FieldLemmas.{is_kind_at, keyed_at, kind_there}
use Rattle.qe_standing.specs.Standing.{StandsCell}
use Rattle.qe_standing.specs.Laws.{AreMeant, SentDecodes}
use Rattle.qe_standing.proofs.CellLemmas.{IsSmall, value_decodes, value_kept}

-- nonces behind some have 16 bytes too
pub long_drop : (n : ℕ) (nonces : List (List ℕ)) → AreLong nonces → AreLong (drop n nonces)
long_drop zero nonces long = long
long_drop (suc n) [] long = tt
long_drop (suc n) (nonce ∷ nonces) long = long_drop n nonces long.1

-- what the schema allows of a field's contention is small
small_kind : (kind : FieldKind) → IsKind kind → IsSmall kind
small_kind k.Plain is = tt
small_kind (k.Equality key_id value_kind contention greatest) is = omega (arith, is.1.small)
small_kind (k.Range key_id value_kind contention greatest domain) is = omega (arith, is.2.small)

-- tags of words stay where numbers grow
pub tags_later : (root : ℕ → List ℕ) (before after : Numbers) → Later before after → (words : List Word) (tags : List (List ℕ))
    → AreTagsOf root before words tags → AreTagsOf root after words tags
tags_later root before after later [] [] are = tt
tags_later root before after later [] (tag ∷ tags) are = absurd are
tags_later root before after later (word ∷ words) [] are = absurd are
tags_later root before after later (word ∷ words) (tag ∷ tags) are =
    (tag_later root before after later word tag are.0, tags_later root before after later words tags are.1)

pub cell_later : (u : Under) (before after : Numbers) → Later before after → (cell : ℕ × Cell) (plain : PlainCell) → StandsCell u before cell plain → StandsCell u after cell plain
cell_later u before after later cell plain stands = record {
  field = stands.field;
  kept = stands.kept;
  factor = stands.factor;
  tags = tags_later (root_of u) before after later (words_under plain.field stands.factor (value_items (kind_at u.schema plain.field) plain.value)) (cell_tags cell.1) stands.tags;
}

-- numbers raised by words of one list after another
pub raised_both : (numbers : Numbers) (xs ys : List Word) → all_raised numbers (xs ++ ys) ≡ all_raised (all_raised numbers xs) ys
raised_both numbers [] ys = refl
raised_both numbers (x ∷ xs) ys = raised_both (raised numbers x) xs ys

module _ (u : Under) (is : IsUnder u) (leaves : Bool) (contentions : Contentions) where
  pub small_at : (number : ℕ) → IsSmall (kind_at u.schema number)
  small_at number = small_kind (kind_at u.schema number) (is_kind_at u is number)

  fits_at : (number : ℕ) (one : SentCell) → IsFieldAt u.schema number (IsCellOf one) → IsCellOf one (kind_at u.schema number)
  fits_at number one at = kind_there u.schema number at.field (IsCellOf one) at.there at.kind

  -- after a cell is indexed the index stands for its words too, and what is stored stands for its value
  pub record IsKeptCell (index : Index) (nonces : List (List ℕ)) (counts : List Count) (aside : List Entry) (captured doomed : List (List ℕ)) (numbers : Numbers)
      (cell : PlainCell) (one : ℕ × SentCell) : Type 0 where
    pub stand : let after = (index_cell one.0 index one.1 nonces counts).index in
        IndexStands (root_of u) (all_raised numbers (cell_words u.schema cell one.1)) after.rows after.ecoc aside captured doomed
    pub stands : StandsCell u (all_raised numbers (cell_words u.schema cell one.1)) (one.0, (index_cell one.0 index one.1 nonces counts).cell) cell

  module _ (cell : PlainCell) (one : ℕ × SentCell) (sends : SendsCell u leaves contentions cell one)
      (fits : IsFieldAt u.schema one.0 (IsCellOf one.1)) (index : Index) (nonces : List (List ℕ)) (counts : List Count) (long : AreLong nonces)
      (enough : cell_nonces one.1 ≤ length nonces) (allowed : AllowedCell one.0 index one.1 counts) where
    abbrev kind : FieldKind
    kind = kind_at u.schema cell.field

    abbrev due : ℕ × SentCell
    due = (cell.field, sent_value u leaves cell.field sends.drawn kind cell.value)

    same : one ≡ due
    same = λ i. (sends.field i, sends.value i)

    fits_due : IsCellOf due.1 kind
    fits_due = fits_at cell.field due.1 (subst (λ (x : ℕ × SentCell). IsFieldAt u.schema x.0 (IsCellOf x.1)) same fits)

    pub one_decodes : IsKeptBy cell.value kind → IsSpelledCell u.schema cell → DecodesCell u (one.0, (index_cell one.0 index one.1 nonces counts).cell) cell
    one_decodes kept spelled =
        let value = value_decodes u cell.field index nonces counts long leaves (contention_of contentions cell.field) sends.drawn sends.are_drawn cell.value kind refl
        (keyed_at u is cell.field) (small_at cell.field) kept spelled fits_due
        (subst (λ (x : ℕ × SentCell). cell_nonces x.1 ≤ length nonces) same enough)
        (subst (λ (x : ℕ × SentCell). AllowedCell x.0 index x.1 counts) same allowed) in
        subst (λ (x : ℕ × SentCell). DecodesCell u (x.0, (index_cell x.0 index x.1 nonces counts).cell) cell) (sym same) (record { field = refl; value = value })

    pub one_kept : IsKeptBy cell.value kind → (aside : List Entry) (captured doomed : List (List ℕ)) (numbers : Numbers)
        → IndexStands (root_of u) numbers index.rows index.ecoc aside captured doomed → IsFree (root_of u) (all_raised numbers (cell_words u.schema cell one.1))
        → IsKeptCell index nonces counts aside captured doomed numbers cell one
    one_kept kept aside captured doomed numbers stand free =
        let value = value_kept u cell.field index nonces counts long leaves (contention_of contentions cell.field) sends.drawn sends.are_drawn cell.value
        aside captured doomed numbers stand kind (keyed_at u is cell.field) (small_at cell.field) fits_due
        (subst (λ (x : ℕ × SentCell). cell_nonces x.1 ≤ length nonces) same enough)
        (subst (λ (x : ℕ × SentCell). AllowedCell x.0 index x.1 counts) same allowed)
        (subst (λ (x : ℕ × SentCell). IsFree (root_of u) (all_raised numbers (cell_words u.schema cell x.1))) same free) in
        subst (IsKeptCell index nonces counts aside captured doomed numbers cell) (sym same) (record {
          stand = value.indexed;
          stands = record { field = refl; kept = kept; factor = value.factor; tags = value.tags };
        })

  -- all cells decode
  pub cells_decode : (cells : List PlainCell) (sents : List (ℕ × SentCell)) → AreMeant u leaves contentions cells sents → (index : Index) (nonces : List (List ℕ)) (counts : List Count)
      → AreLong nonces → cells_nonces sents ≤ length nonces → AllowedCells index sents nonces counts
      → AllZip (DecodesCell u) (index_cells index sents nonces counts).cells cells
  cells_decode [] [] are index nonces counts long enough allowed = tt
  cells_decode [] (one ∷ sents) are index nonces counts long enough allowed = absurd are.sends
  cells_decode (cell ∷ cells) [] are index nonces counts long enough allowed = absurd are.sends
  cells_decode (cell ∷ cells) (one ∷ sents) are index nonces counts long enough allowed =
      let rest : AreMeant u leaves contentions cells sents = record { sends = are.sends.1; kept = are.kept.1; spelled = are.spelled.1; fits = are.fits.1 } in
      let done = index_cell one.0 index one.1 nonces counts in
      let behind = length-drop (cell_nonces one.1) nonces in (
        one_decodes cell one are.sends.0 are.fits.0 index nonces counts long (omega (arith, enough)) allowed.0 are.kept.0 are.spelled.0,
        cells_decode cells sents rest done.index (drop (cell_nonces one.1) nonces) done.rest (long_drop (cell_nonces one.1) nonces long)
            (omega (arith, enough, behind)) allowed.1,
      )

  -- .. and stand for their values, and the index stands for all their words
  pub record AreKept (index : Index) (nonces : List (List ℕ)) (counts : List Count) (aside : List Entry) (captured doomed : List (List ℕ)) (numbers : Numbers)
      (cells : List PlainCell) (sents : List (ℕ × SentCell)) : Type 0 where
    pub stand : let after = (index_cells index sents nonces counts).index in
        IndexStands (root_of u) (all_raised numbers (cells_words u.schema cells sents)) after.rows after.ecoc aside captured doomed
    pub stands : AllZip (StandsCell u (all_raised numbers (cells_words u.schema cells sents))) (index_cells index sents nonces counts).cells cells

  pub cells_kept : (cells : List PlainCell) (sents : List (ℕ × SentCell)) → AreMeant u leaves contentions cells sents → (index : Index) (nonces : List (List ℕ)) (counts : List Count)
      → AreLong nonces → cells_nonces sents ≤ length nonces → AllowedCells index sents nonces counts
      → (aside : List Entry) (captured doomed : List (List ℕ)) (numbers : Numbers) → IndexStands (root_of u) numbers index.rows index.ecoc aside captured doomed
      → IsFree (root_of u) (all_raised numbers (cells_words u.schema cells sents)) → AreKept index nonces counts aside captured doomed numbers cells sents
  cells_kept [] [] are index nonces counts long enough allowed aside captured doomed numbers stand free = record { stand = stand; stands = tt }
  cells_kept [] (one ∷ sents) are index nonces counts long enough allowed aside captured doomed numbers stand free = absurd are.sends
  cells_kept (cell ∷ cells) [] are index nonces counts long enough allowed aside captured doomed numbers stand free = absurd are.sends
  cells_kept (cell ∷ cells) (one ∷ sents) are index nonces counts long enough allowed aside captured doomed numbers stand free =
      let rest : AreMeant u leaves contentions cells sents = record { sends = are.sends.1; kept = are.kept.1; spelled = are.spelled.1; fits = are.fits.1 } in
      let done = index_cell one.0 index one.1 nonces counts in
      let behind = length-drop (cell_nonces one.1) nonces in
      let words = cell_words u.schema cell one.1 in
      let others = cells_words u.schema cells sents in
      let next = all_raised numbers words in
      let last = all_raised next others in
      let later : Later next last = later_all_raised others next in
      let both : all_raised numbers (words ++ others) ≡ last = raised_both numbers words others in
      let free_last : IsFree (root_of u) last = subst (IsFree (root_of u)) both free in
      let first = one_kept cell one are.sends.0 are.fits.0 index nonces counts long (omega (arith, enough)) allowed.0 are.kept.0 aside captured doomed numbers stand
      (free_before (root_of u) next last later free_last) in
      let more = cells_kept cells sents rest done.index (drop (cell_nonces one.1) nonces) done.rest (long_drop (cell_nonces one.1) nonces long)
      (omega (arith, enough, behind)) allowed.1 aside captured doomed next first.stand free_last in
      let after = (index_cells index (one ∷ sents) nonces counts).index in
      record {
        stand = subst (λ (n : Numbers). IndexStands (root_of u) n after.rows after.ecoc aside captured doomed) (sym both) more.stand;
        stands = subst (λ (n : Numbers). AllZip (StandsCell u n) (index_cells index (one ∷ sents) nonces counts).cells (cell ∷ cells)) (sym both)
            (cell_later u next last later (one.0, done.cell) cell first.stands, more.stands);
      }

pub sent_decodes : (u : Under) → IsUnder u → SentDecodes u
sent_decodes u is leaves contentions cells sents are index nonces counts long enough allowed = cells_decode u is leaves contentions cells sents are index nonces counts long enough allowed
