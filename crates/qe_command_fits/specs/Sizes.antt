-- What a command that fits some schema is without it: its sizes, and how many nonces it needs.
use Rattle.std.specs.Prelude.{◌≤◌, ◌≤ℤ◌, pos, List}
use Rattle.std.specs.List.{AllByRecursion}
use Rattle.qe_field.specs.declared.field.Field.{Field}
use Rattle.qe_field.specs.Schema.{IsSchema}
use Rattle.qe_insert.specs.declared.insert.InsertPayload.{InsertPayload}
use Rattle.qe_insert.specs.Insert.{FewEdges}
use Rattle.qe_command.specs.declared.cells.SentCell.{SentCell}
use Rattle.qe_command.specs.declared.cells.SentCell.TheVariants as sent
use Rattle.qe_command.specs.declared.command.Command.{Command}
use Rattle.qe_command.specs.declared.command.Command.TheVariants as c
use Rattle.qe_command.specs.declared.filter.SentTerm.{SentTerm}
use Rattle.qe_command.specs.declared.filter.SentTerm.TheVariants as t
use Rattle.qe_command.specs.Nonces.{nonces_of}
use Rattle.qe_command_document.specs.CommandDocument.{Fits}
use Rattle.qe_command_fits.specs.OfSchema.{IsIdValue, IsOfSchema}

-- a type is one byte, and edges, where there are any, are 1 to 65
pub record HasSizes (payload : InsertPayload) : Type 0 where
  pub kind_least : pos 0 ≤ℤ payload.t
  pub kind_most : payload.t ≤ℤ pos 255
  pub factor : pos 0 ≤ℤ payload.k
  pub edges : FewEdges payload.g

abbrev pub IsSizedCell : SentCell → Type 0
IsSizedCell (sent.Plain value) = Unit {0}
IsSizedCell (sent.Payload payload) = HasSizes payload

abbrev pub IsSizedTerm : SentTerm → Type 0
IsSizedTerm (t.Id id) = IsIdValue id
IsSizedTerm _ = Unit {0}

abbrev pub IsSized : Command → Type 0
IsSized (c.Insert id cells) = IsIdValue id × AllByRecursion (λ cell. IsSizedCell cell.1) cells
IsSized (c.Find terms ids) = AllByRecursion IsSizedTerm terms
IsSized (c.Update terms set) = AllByRecursion IsSizedTerm terms × AllByRecursion (λ cell. IsSizedCell cell.1) set
IsSized (c.Delete terms) = AllByRecursion IsSizedTerm terms
IsSized _ = Unit {0}

-- a command that fits is made of what its schema has; so it has these sizes, and needs few nonces
pub record FittingLaws (fields : List Field) (command : Command) : Type 0 where
  pub of_schema : IsOfSchema fields command
  pub sizes : IsSized command
  pub nonces : nonces_of command ≤ 65536

abbrev pub FittingIsOfSchema : Type 0
FittingIsOfSchema = (fields : List Field) (command : Command) → IsSchema fields → Fits fields command → FittingLaws fields command
