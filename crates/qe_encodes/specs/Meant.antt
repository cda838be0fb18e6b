-- Plain commands that mean something under a schema: they were resolved, and their ids and the values that are to be
-- encrypted are values that BSON has.
use Rattle.std.specs.Prelude.{List}
use Rattle.std.specs.List.{AllByRecursion}
use Rattle.qe_base.specs.Bytes.{AreBytes}
use Rattle.qe_value.specs.declared.value.Plain.{Plain}
use Rattle.qe_field.specs.declared.field.Field.{Field}
use Rattle.qe_field.specs.declared.field.FieldKind.{FieldKind}
use Rattle.qe_field.specs.declared.field.FieldKind.TheVariants as k
use Rattle.qe_plain.specs.declared.command.PlainCell.{PlainCell}
use Rattle.qe_plain.specs.declared.command.PlainCommand.{PlainCommand}
use Rattle.qe_plain.specs.declared.command.PlainCommand.TheVariants as p
use Rattle.qe_plain.specs.declared.command.Term.{Term}
use Rattle.qe_plain.specs.declared.command.Term.TheVariants as t
use Rattle.qe_plain.specs.Laws.{IsWritable}
use Rattle.qe_schema.specs.Resolved.{IsResolved}
use Rattle.qe_encodes.specs.Fields.{kind_at}
use Rattle.qe_encodes.specs.Items.{bytes_of}

-- a value that BSON has, alone, and its bytes are bytes
pub record IsSpelled (value : Plain) : Type 0 where
  pub writable : IsWritable value
  pub bytes : AreBytes (bytes_of value)

-- a value that a field encrypts is such a one
abbrev pub IsSpelledIn : FieldKind → Plain → Type 0
IsSpelledIn k.Plain value = Unit {0}
IsSpelledIn _ value = IsSpelled value

abbrev pub IsSpelledCell : List Field → PlainCell → Type 0
IsSpelledCell fields cell = IsSpelledIn (kind_at fields cell.field) cell.value

-- .. and so is an id
abbrev pub IsSpelledTerm : Term → Type 0
IsSpelledTerm (t.Id id) = IsSpelled id
IsSpelledTerm _ = Unit {0}

abbrev pub IsSpelledCommand : List Field → PlainCommand → Type 0
IsSpelledCommand fields (p.Insert document) = IsSpelled document.id × AllByRecursion (IsSpelledCell fields) document.cells
IsSpelledCommand fields (p.Find terms ids) = AllByRecursion IsSpelledTerm terms
IsSpelledCommand fields (p.Update terms set) = AllByRecursion IsSpelledTerm terms × AllByRecursion (IsSpelledCell fields) set
IsSpelledCommand fields (p.Delete terms) = AllByRecursion IsSpelledTerm terms
IsSpelledCommand fields _ = Unit {0}

pub record IsMeant (fields : List Field) (plain : PlainCommand) : Type 0 where
  pub resolved : IsResolved fields plain
  pub spelled : IsSpelledCommand fields plain
