-- Fields that have to be encrypted.
use Rattle.std.specs.Prelude.{ℕ, List, Result, Ok, Err, if◌then◌else◌}
use Rattle.qe_field.specs.declared.field.Field.{Field}
use Rattle.qe_field.specs.declared.field.FieldKind.{FieldKind}
use Rattle.qe_field.specs.Judgements.{bind, some_or}
use Rattle.qe_field.specs.Lookup.{known, is_encrypted}
use Rattle.qe_filter.specs.declared.fault.PlainFault.{PlainFault}
use Rattle.qe_filter.specs.declared.fault.PlainFault.TheVariants as f

-- a field that has to be there and encrypted
abbrev pub indexed_among : List ℕ → ℕ × FieldKind → Result (ℕ × FieldKind) PlainFault
indexed_among name found = if is_encrypted found.1 then Ok found else Err (f.NotIndexed name)

abbrev pub indexed : List Field → List ℕ → Result (ℕ × FieldKind) PlainFault
indexed fields name = bind (some_or (f.UnknownField name) (known fields name)) (indexed_among name)
