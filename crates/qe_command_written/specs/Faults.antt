-- What writing payloads refuses: the first payload whose document is refused.
use Rattle.std.specs.Prelude.{ℕ, List, [], ◌∷◌, Option, None, Some, Result, Ok, Err}
use Rattle.std.specs.Option.{option_or}
use Rattle.qe_value.specs.declared.fault.EncodeFault.{EncodeFault}
use Rattle.qe_document.specs.Writing.{written_as}
use Rattle.qe_find.specs.Range.{range_elements, written_range}
use Rattle.qe_insert.specs.Insert.{insert_elements, written_insert}
use Rattle.qe_command.specs.declared.cells.SentCell.{SentCell}
use Rattle.qe_command.specs.declared.cells.SentCell.TheVariants as sent
use Rattle.qe_command.specs.declared.command.Command.{Command}
use Rattle.qe_command.specs.declared.command.Command.TheVariants as c
use Rattle.qe_command.specs.declared.filter.SentTerm.{SentTerm}
use Rattle.qe_command.specs.declared.filter.SentTerm.TheVariants as t

abbrev pub fault_in : Result (List ℕ) EncodeFault → Option EncodeFault
fault_in (Ok bytes) = None
fault_in (Err fault) = Some fault

abbrev pub cell_fault : SentCell → Option EncodeFault
cell_fault (sent.Plain value) = None
cell_fault (sent.Payload payload) = fault_in (written_as (insert_elements payload) (written_insert payload))

-- an equality's payload is never refused
abbrev pub term_fault : SentTerm → Option EncodeFault
term_fault (t.Range field payload) = fault_in (written_as (range_elements payload) (written_range payload))
term_fault _ = None

-- the first of some
abbrev pub first_fault : {A : Type 0} → (A → Option EncodeFault) → List A → Option EncodeFault
first_fault fault [] = None
first_fault fault (x ∷ xs) = option_or (fault x) (first_fault fault xs)

abbrev pub cells_fault : List (ℕ × SentCell) → Option EncodeFault
cells_fault cells = first_fault (λ cell. cell_fault cell.1) cells

abbrev pub terms_fault : List SentTerm → Option EncodeFault
terms_fault terms = first_fault term_fault terms

unfoldable pub payloads_fault : Command → Option EncodeFault
payloads_fault (c.Insert id cells) = cells_fault cells
payloads_fault (c.Find filter ids) = terms_fault filter
payloads_fault (c.Update filter set) = option_or (terms_fault filter) (cells_fault set)
payloads_fault (c.Delete filter) = terms_fault filter
payloads_fault _ = None
