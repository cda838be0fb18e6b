-- What is asked of the payloads of a command that is written, and what it leads to.
use Rattle.std.specs.Prelude.{◌≡◌, ◌<◌, ◌^◌, ◌≤ℤ◌, pos, List, Ok}
use Rattle.std.specs.List.{AllByRecursion}
use Rattle.qe_document.specs.Names.{Distinct}
use Rattle.qe_field.specs.declared.field.Field.{Field}
use Rattle.qe_find.specs.Equal.{equal_at, written_equal}
use Rattle.qe_find.specs.Range.{range_at, written_range, FitsRange}
use Rattle.qe_insert.specs.Insert.{insert_at, written_insert, FitsInsert}
use Rattle.qe_command.specs.declared.cells.SentCell.{SentCell}
use Rattle.qe_command.specs.declared.cells.SentCell.TheVariants as sent
use Rattle.qe_command.specs.declared.command.Command.{Command}
use Rattle.qe_command.specs.declared.command.Command.TheVariants as c
use Rattle.qe_command.specs.declared.filter.SentTerm.{SentTerm}
use Rattle.qe_command.specs.declared.filter.SentTerm.TheVariants as t
use Rattle.qe_command_written.specs.Written.{doc_elements, cell_elements, token_elements}

-- payloads have the form in which they are read
abbrev pub FitsCell : SentCell → Type 0
FitsCell (sent.Plain value) = Unit {0}
FitsCell (sent.Payload payload) = FitsInsert payload

abbrev pub FitsTerm : SentTerm → Type 0
FitsTerm (t.Id id) = Unit {0}
FitsTerm (t.Equal field payload) = pos 0 ≤ℤ payload.cm
FitsTerm (t.Range field payload) = FitsRange payload

-- what was written is read again
abbrev pub CellAgain : SentCell → Type 0
CellAgain (sent.Plain value) = Unit {0}
CellAgain (sent.Payload payload) = insert_at (written_insert payload) ≡ Ok payload

abbrev pub TermAgain : SentTerm → Type 0
TermAgain (t.Id id) = Unit {0}
TermAgain (t.Equal field payload) = equal_at (written_equal payload) ≡ Ok payload
TermAgain (t.Range field payload) = range_at (written_range payload) ≡ Ok payload

-- the same of a command's; names in documents are distinct, and numbers have their bits
abbrev pub FitsParts : List Field → Command → Type 0
FitsParts fields (c.Insert id cells) = AllByRecursion (λ cell. FitsCell cell.1) cells × Distinct (doc_elements fields id cells)
FitsParts fields (c.Find filter ids) = AllByRecursion FitsTerm filter
FitsParts fields (c.Update filter set) = AllByRecursion FitsTerm filter × (AllByRecursion (λ cell. FitsCell cell.1) set × Distinct (cell_elements fields set))
FitsParts fields (c.Delete filter) = AllByRecursion FitsTerm filter
FitsParts fields (c.Begin kind tokens) = Distinct (token_elements fields tokens)
FitsParts fields (c.Step job limit) = (job < 2 ^ 63) × (limit < 2 ^ 31)
FitsParts fields (c.End job) = job < 2 ^ 63
FitsParts fields (c.Abandon job) = job < 2 ^ 63
FitsParts fields (c.Raise field contention) = contention < 2 ^ 63

abbrev pub PartsAgain : Command → Type 0
PartsAgain (c.Insert id cells) = AllByRecursion (λ cell. CellAgain cell.1) cells
PartsAgain (c.Find filter ids) = AllByRecursion TermAgain filter
PartsAgain (c.Update filter set) = AllByRecursion TermAgain filter × AllByRecursion (λ cell. CellAgain cell.1) set
PartsAgain (c.Delete filter) = AllByRecursion TermAgain filter
PartsAgain _ = Unit {0}
