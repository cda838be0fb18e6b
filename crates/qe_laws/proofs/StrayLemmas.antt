-- Rows that a step opens are known: with their field's token, or as stray words, which were never indexed.
use Rattle.std.proofs.Common.{◌≡◌, ℕ, List, [], ◌∷◌, ◌++◌, Some, refl, ap, ◌∙◌, inl, inr}
use Rattle.std.proofs.lemmas.Bool.{cond_both}
use Rattle.std.proofs.lemmas.Slice.Eq.{bytes_eq-Decides}
use Rattle.std.specs.Str.{bytes_eq}
use Rattle.std.specs.Prelude.{nat_abs}
use Rattle.std.specs.List.{AllByRecursion}
use Rattle.qe_field.specs.declared.field.Field.{Field}
use Rattle.qe_plain.specs.declared.command.PlainCell.{PlainCell}
use Rattle.qe_tokens.specs.declared.words.FieldToken.{FieldToken}
use Rattle.qe_tokens.specs.declared.words.Word.{Word}
use Rattle.qe_tokens.specs.declared.words.Word.TheVariants.{Item, Stray}
use Rattle.qe_ecoc.specs.declared.rows.Entry.{Entry}
use Rattle.qe_command.specs.declared.cells.SentCell.{SentCell}
use Rattle.qe_command.specs.declared.cells.SentCell.TheVariants as sent
use Rattle.qe_protocol.specs.Units.{opened_row, token_for}
use Rattle.qe_labels.specs.Numbers.{Numbers, StraysAreZero, learned, raised, all_learned, all_raised}
use Rattle.qe_labels.specs.Tags.{words_under}
use Rattle.qe_labels.specs.Under.{Under, root_of}
use Rattle.qe_labels.proofs.NumberLemmas.{strays_learned, strays_raised}
use Rattle.qe_relation.specs.Stands.{ecoc_key}
use Rattle.qe_relation.specs.Steps.{IsOpenedKnown}
use Rattle.qe_relation.proofs.PlaceLemmas.{each_append}
use Rattle.qe_encodes.specs.Counted.{strays_of}
use Rattle.qe_encodes.specs.Fields.{kind_at}
use Rattle.qe_encodes.specs.Items.{value_items}
use Rattle.qe_encodes.specs.Payloads.{ecoc_token}
use Rattle.qe_encodes.specs.Words.{cell_words, cells_words}
use Rattle.qe_standing.specs.Laws.{AllKnown}

ecoc_is : (u : Under) (field : ℕ) → ecoc_token u field ≡ ecoc_key (root_of u) field
ecoc_is u field = refl

pub opened_known : (u : Under) (last : Numbers) → StraysAreZero last → (tokens : List FieldToken) (rows : List Entry) → AllKnown last (strays_of u tokens rows)
    → AllByRecursion (IsOpenedKnown (root_of u) last tokens) rows
opened_known u last strays tokens [] known = tt
opened_known u last strays tokens (row ∷ rows) known =
    cond_both (bytes_eq (token_for tokens row.field) (ecoc_token u row.field)) [] (Stray (opened_row tokens row).token ∷ [])
    (λ (front : List Word). AllKnown last (front ++ strays_of u tokens rows) → AllByRecursion (IsOpenedKnown (root_of u) last tokens) (row ∷ rows))
    (λ same all. (inl ((bytes_eq-Decides (token_for tokens row.field) (ecoc_token u row.field)).0 same ∙ ecoc_is u row.field), opened_known u last strays tokens rows all))
    (λ apart all.
    let none = strays.zero (opened_row tokens row).token all.0.0 all.0.1 in
    (inr (all.0.1 ∙ ap (λ n. Some n) none), opened_known u last strays tokens rows all.1))
    known

-- ---- stray words stay at 0
pub strays_all_learned : (words : List Word) (numbers : Numbers) → StraysAreZero numbers → StraysAreZero (all_learned numbers words)
strays_all_learned [] numbers strays = strays
strays_all_learned (word ∷ words) numbers strays = strays_all_learned words (learned numbers word) (strays_learned numbers word strays)

abbrev IsItem : Word → Type 0
IsItem (Item field item factor) = Unit {0}
IsItem (Stray token) = ⊥

strays_raised_word : (numbers : Numbers) (word : Word) → IsItem word → StraysAreZero numbers → StraysAreZero (raised numbers word)
strays_raised_word numbers (Item field item factor) is strays = strays_raised numbers field factor item strays
strays_raised_word numbers (Stray token) is strays = absurd is

strays_all_raised : (words : List Word) (numbers : Numbers) → AllByRecursion IsItem words → StraysAreZero numbers → StraysAreZero (all_raised numbers words)
strays_all_raised [] numbers are strays = strays
strays_all_raised (word ∷ words) numbers are strays = strays_all_raised words (raised numbers word) are.1 (strays_raised_word numbers word are.0 strays)

under_items : (field factor : ℕ) (items : List (List ℕ)) → AllByRecursion IsItem (words_under field factor items)
under_items field factor [] = tt
under_items field factor (item ∷ items) = (tt, under_items field factor items)

cell_items : (fields : List Field) (cell : PlainCell) (one : SentCell) → AllByRecursion IsItem (cell_words fields cell one)
cell_items fields cell (sent.Plain value) = tt
cell_items fields cell (sent.Payload payload) = under_items cell.field (nat_abs payload.k) (value_items (kind_at fields cell.field) cell.value)

cells_items : (fields : List Field) (cells : List PlainCell) (sents : List (ℕ × SentCell)) → AllByRecursion IsItem (cells_words fields cells sents)
cells_items fields [] sents = tt
cells_items fields (cell ∷ cells) [] = tt
cells_items fields (cell ∷ cells) (one ∷ sents) =
    each_append IsItem (cell_words fields cell one.1) (cells_words fields cells sents) (cell_items fields cell one.1) (cells_items fields cells sents)

pub strays_stored : (fields : List Field) (cells : List PlainCell) (sents : List (ℕ × SentCell)) (numbers : Numbers) → StraysAreZero numbers
    → StraysAreZero (all_raised numbers (cells_words fields cells sents))
strays_stored fields cells sents numbers strays = strays_all_raised (cells_words fields cells sents) numbers (cells_items fields cells sents) strays
