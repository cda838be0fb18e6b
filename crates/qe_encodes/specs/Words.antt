-- The words of a command: what it stores, and what it looks for. The factors are those that were sent.
use Rattle.std.specs.Prelude.{ℕ, zero, suc, ◌+◌, List, [], ◌∷◌, ◌++◌, nat_abs}
use Rattle.qe_value.specs.declared.value.Plain.{Plain}
use Rattle.qe_field.specs.declared.field.Field.{Field}
use Rattle.qe_field.specs.declared.field.FieldKind.{FieldKind}
use Rattle.qe_plain.specs.declared.command.PlainCell.{PlainCell}
use Rattle.qe_plain.specs.declared.command.PlainCommand.{PlainCommand}
use Rattle.qe_plain.specs.declared.command.PlainCommand.TheVariants as p
use Rattle.qe_plain.specs.declared.command.Term.{Term}
use Rattle.qe_tokens.specs.declared.words.Word.{Word}
use Rattle.qe_tokens.specs.declared.words.Word.TheVariants.{Item}
use Rattle.qe_command.specs.declared.cells.SentCell.{SentCell}
use Rattle.qe_command.specs.declared.cells.SentCell.TheVariants as sent
use Rattle.qe_command.specs.declared.command.Command.{Command}
use Rattle.qe_command.specs.declared.command.Command.TheVariants as c
use Rattle.qe_command.specs.declared.filter.SentTerm.{SentTerm}
use Rattle.qe_command.specs.declared.filter.SentTerm.TheVariants as t
use Rattle.qe_labels.specs.Tags.{words_under}
use Rattle.qe_encodes.specs.Fields.{kind_at}
use Rattle.qe_encodes.specs.Items.{value_items, term_items}

-- an item under so many factors, from one on
abbrev pub factor_words : ℕ → List ℕ → ℕ → ℕ → List Word
factor_words field item factor zero = []
factor_words field item factor (suc more) = Item field item factor ∷ factor_words field item (factor + 1) more

-- each item under each factor from 0 to the greatest
abbrev pub item_words : ℕ → List (List ℕ) → ℕ → List Word
item_words field [] greatest = []
item_words field (item ∷ items) greatest = factor_words field item 0 (greatest + 1) ++ item_words field items greatest

-- the words of a value under the payload's factor, by how its field is kept
abbrev pub value_words : ℕ → FieldKind → Plain → SentCell → List Word
value_words field kind value (sent.Plain stored) = []
value_words field kind value (sent.Payload payload) = words_under field (nat_abs payload.k) (value_items kind value)

abbrev pub cell_words : List Field → PlainCell → SentCell → List Word
cell_words fields cell one = value_words cell.field (kind_at fields cell.field) cell.value one

-- .. of values and what was sent for them
abbrev pub cells_words : List Field → List PlainCell → List (ℕ × SentCell) → List Word
cells_words fields [] sents = []
cells_words fields (cell ∷ cells) [] = []
cells_words fields (cell ∷ cells) (one ∷ sents) = cell_words fields cell one.1 ++ cells_words fields cells sents

-- the words of a term under the factors from 0 to the payload's greatest
abbrev pub term_words : List Field → Term → SentTerm → List Word
term_words fields term (t.Id id) = []
term_words fields term (t.Equal field payload) = item_words field (term_items fields term) (nat_abs payload.cm)
term_words fields term (t.Range field payload) = item_words field (term_items fields term) (nat_abs payload.cm)

abbrev pub terms_words : List Field → List Term → List SentTerm → List Word
terms_words fields [] sents = []
terms_words fields (term ∷ terms) [] = []
terms_words fields (term ∷ terms) (one ∷ sents) = term_words fields term one ++ terms_words fields terms sents

-- the values that a command stores, and what was sent for them
abbrev pub plain_cells : PlainCommand → List PlainCell
plain_cells (p.Insert document) = document.cells
plain_cells (p.Update terms set) = set
plain_cells _ = []

abbrev pub sent_cells : Command → List (ℕ × SentCell)
sent_cells (c.Insert id cells) = cells
sent_cells (c.Update filter set) = set
sent_cells _ = []

-- the terms that a command looks for, and what was sent for them
abbrev pub plain_terms : PlainCommand → List Term
plain_terms (p.Find terms ids) = terms
plain_terms (p.Update terms set) = terms
plain_terms (p.Delete terms) = terms
plain_terms _ = []

abbrev pub sent_terms : Command → List SentTerm
sent_terms (c.Find filter ids) = filter
sent_terms (c.Update filter set) = filter
sent_terms (c.Delete filter) = filter
sent_terms _ = []

-- the words that a command stores
abbrev pub stored_words : List Field → PlainCommand → Command → List Word
stored_words fields plain command = cells_words fields (plain_cells plain) (sent_cells command)

-- the words that a command looks for
abbrev pub sought_words : List Field → PlainCommand → Command → List Word
sought_words fields plain command = terms_words fields (plain_terms plain) (sent_terms command)
