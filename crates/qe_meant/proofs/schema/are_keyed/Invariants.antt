-- The fields so far have keys.
use Rattle.std.proofs.Common.{All, take}
use Rattle.qe_field.specs.declared.field.Field.{Field}
use Rattle.qe_encodes.specs.Fields.{IsKeyed}
use Rattle.qe_meant.proofs.schema.are_keyed.Given as goal

abbrev pub invariant-loop-field : goal.invariant-loop-field
invariant-loop-field l = All (λ (field : Field). IsKeyed field.kind) (take l.field-index l.fields)
