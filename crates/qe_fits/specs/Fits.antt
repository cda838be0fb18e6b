-- Whether a command's document can be BSON of the profile, by its counted length, its depth and its names; and which
-- value of the command's line is at fault where it can't.
use Rattle.std.specs.Prelude.{ℕ, ◌+◌, ◌^◌, ◌&&◌, ◌||◌, List, Bool, true, false, not, nat_lt, nat_le, is_none, Option, None, Some, slice_get, codes, if◌then◌else◌}
use Rattle.std.specs.List.{list_any}
use Rattle.std.specs.Option.{option_or}
use Rattle.qe_value.specs.declared.value.Plain.{Plain}
use Rattle.qe_value.specs.Limits.{most_bytes, most_levels}
use Rattle.qe_value.specs.Measures.{depth, zero_in}
use Rattle.qe_field.specs.declared.field.Field.{Field}
use Rattle.qe_field.specs.Lookup.{is_encrypted}
use Rattle.qe_plain.specs.declared.command.PlainCell.{PlainCell}
use Rattle.qe_plain.specs.declared.command.PlainCommand.{PlainCommand}
use Rattle.qe_plain.specs.declared.command.PlainCommand.TheVariants as c
use Rattle.qe_fits.specs.declared.part.Part.{Part}
use Rattle.qe_fits.specs.declared.part.Part.TheVariants as p
use Rattle.qe_fits.specs.Sizes.{counted_length}

-- the name of a value of the line
abbrev pub name_of : Part → List ℕ
name_of p.Doc = codes "doc"
name_of p.Filter = codes "filter"
name_of p.Set = codes "set"

abbrev pub is_plain : Option Field → Bool
is_plain None = false
is_plain (Some field) = not (is_encrypted field.kind)

-- a value two levels down that is too deep, or has a name with a byte 0
abbrev pub is_bad_value : Plain → Bool
is_bad_value value = zero_in value || not (nat_le (depth value + 2) most_levels)

-- .. in a plain field; others are sealed
abbrev pub is_bad_cell : List Field → PlainCell → Bool
is_bad_cell fields cell = is_plain (slice_get fields cell.field) && is_bad_value cell.value

abbrev pub bad_part : Part → Bool → Option Part
bad_part part bad = if bad then Some part else None

-- the value of the line that has one
abbrev pub bad_value : List Field → PlainCommand → Option Part
bad_value fields (c.Insert document) = bad_part p.Doc (list_any (is_bad_cell fields) document.cells)
bad_value fields (c.Update terms set) = bad_part p.Set (list_any (is_bad_cell fields) set)
bad_value fields _ = None

-- the value that is at fault where the length alone is
abbrev pub long_part : PlainCommand → Part
long_part (c.Insert document) = p.Doc
long_part _ = p.Filter

abbrev pub long_value : List Field → PlainCommand → Option Part
long_value fields command = if nat_le (counted_length fields command) most_bytes then None else Some (long_part command)

-- the value that is at fault where a command's document is too long or too deep, or has a bad name; a job never is
abbrev pub misfit : List Field → PlainCommand → Option Part
misfit fields command = option_or (bad_value fields command) (long_value fields command)

-- an int64 holds a job's number, as it does of a line that was read
abbrev pub job_fits : PlainCommand → Bool
job_fits (c.Step number limit) = nat_lt number (2 ^ 63)
job_fits (c.End number) = nat_lt number (2 ^ 63)
job_fits (c.Abandon number) = nat_lt number (2 ^ 63)
job_fits _ = true

-- .. of a command that was resolved under these fields
abbrev pub fits : List Field → PlainCommand → Bool
fits fields command = job_fits command && is_none (misfit fields command)
