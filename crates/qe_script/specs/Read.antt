-- What a header and a script that were read are.
use Rattle.std.specs.Prelude.{◌≡◌, ℕ, ◌<◌, ◌≤◌, List, length, All, true, false, bytes_eq, Ok}
use Rattle.std.specs.List.{AllByRecursion, AllPairs}
use Rattle.qe_field.specs.declared.field.Field.{Field}
use Rattle.qe_plain.specs.declared.command.RawCommand.{RawCommand}
use Rattle.qe_schema.specs.Fits.{fits}
use Rattle.qe_schema.specs.Lookup.{encrypted_numbers}
use Rattle.qe_schema.specs.Names.{is_path}
use Rattle.qe_schema.specs.Resolve.{resolved}
use Rattle.qe_schema.specs.Schema.{IsSchema}
use Rattle.qe_script.specs.declared.script.Line.{Line}
use Rattle.qe_script.specs.declared.script.Script.{Script}

abbrev pub IsName : List ℕ → Type 0
IsName name = is_path name ≡ true

abbrev pub Differ : List ℕ → List ℕ → Type 0
Differ earlier later = bytes_eq later earlier ≡ false

-- 1 to 16 distinct names
pub record AreCallers (names : List (List ℕ)) : Type 0 where
  pub some : 0 < length names
  pub few : length names ≤ 16
  pub each : All IsName names
  pub apart : AllPairs Differ names

-- a key for each encrypted field
pub record IsHeader (fields : List Field) (keys callers : List (List ℕ)) : Type 0 where
  pub schema : IsSchema fields
  pub keyed : length keys ≡ length (encrypted_numbers fields)
  pub named : AreCallers callers

-- a line's caller is one of the callers; its command was resolved under the fields, and fits
pub record IsRead (fields : List Field) (callers : List (List ℕ)) (line : Line) : Type 0 where
  pub caller : line.caller < length callers
  pub raw : RawCommand
  pub meant : resolved fields raw ≡ Ok line.command
  pub fitting : fits fields line.command ≡ true

pub record IsScript (script : Script) : Type 0 where
  pub header : IsHeader script.schema script.keys script.callers
  pub lines : AllByRecursion (IsRead script.schema script.callers) script.lines
