-- What the type of a value tells of it: a text is UTF-8, an object id has 12 bytes, and numbers fit their bits.
use Rattle.std.specs.Prelude.{◌≡◌, ◌<◌, true, length, All, List, FitsSigned}
use Rattle.std.specs.Int.{w32, w64}
use Rattle.std.specs.Str.{is_utf8}
use Rattle.qe_base.specs.Bytes.{AreBytes}
use Rattle.qe_value.specs.declared.value.Plain.{Plain}
use Rattle.qe_value.specs.declared.value.Value.{Value}
use Rattle.qe_value.specs.declared.value.Value.TheVariants as v
use Rattle.qe_value.specs.Views.{plain}
use Rattle.qe_plain.specs.declared.command.PlainCell.{PlainCell}
use Rattle.qe_plain.specs.declared.command.PlainCommand.{PlainCommand}
use Rattle.qe_plain.specs.declared.command.PlainCommand.TheVariants as p
use Rattle.qe_plain.specs.declared.command.Term.{Term}
use Rattle.qe_plain.specs.declared.command.Term.TheVariants as t
use Rattle.qe_script.specs.declared.script.Line.{Line}
use Rattle.qe_script.specs.declared.script.Script.{Script}
use Rattle.qe_labels.specs.Under.{Under}

-- of the types that a field or an id may have
abbrev pub IsHeld : Value → Type 0
IsHeld (v.Str text) = (is_utf8 text ≡ true) × AreBytes text
IsHeld (v.Binary subtype bytes) = (subtype < 256) × AreBytes bytes
IsHeld (v.ObjectId bytes) = (length bytes ≡ 12) × AreBytes bytes
IsHeld (v.Date z) = FitsSigned w64 z
IsHeld (v.Int64 z) = FitsSigned w64 z
IsHeld (v.Int32 z) = FitsSigned w32 z
IsHeld _ = Unit {0}

-- a tree is that of such a value
pub record IsHeldTree (tree : Plain) : Type 0 where
  pub value : Value
  pub is : plain value ≡ tree
  pub held : IsHeld value

abbrev pub IsHeldCell : PlainCell → Type 0
IsHeldCell cell = IsHeldTree cell.value

abbrev pub IsHeldTerm : Term → Type 0
IsHeldTerm (t.Id value) = IsHeldTree value
IsHeldTerm _ = Unit {0}

abbrev pub IsHeldCommand : PlainCommand → Type 0
IsHeldCommand (p.Insert document) = IsHeldTree document.id × All IsHeldCell document.cells
IsHeldCommand (p.Find terms ids) = All IsHeldTerm terms
IsHeldCommand (p.Update terms set) = All IsHeldTerm terms × All IsHeldCell set
IsHeldCommand (p.Delete terms) = All IsHeldTerm terms
IsHeldCommand _ = Unit {0}

abbrev pub AreHeldLines : List Line → Type 0
AreHeldLines lines = All (λ (line : Line). IsHeldCommand line.command) lines

-- a script's schema and keys
abbrev pub under_of : Script → Under
under_of script = record { schema = script.schema; keys = script.keys }
