use Rattle.std.specs.Prelude.{take, All}
use Rattle.qe_encodes.specs.Fields.{IsKeyed}
use Rattle.qe_sent_fits.proofs.schema.are_keyed.Given as goal

-- the fields that were read
abbrev pub invariant-loop-field : goal.invariant-loop-field
invariant-loop-field l = All (λ field. IsKeyed field.kind) (take l.field-index l.fields)
