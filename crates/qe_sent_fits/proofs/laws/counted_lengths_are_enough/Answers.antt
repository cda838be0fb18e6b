use Rattle.std.proofs.Common.{◌≤◌, length, sym, subst, ◌∙◌}
use Rattle.std.specs.Prelude.{List, All}
use Rattle.qe_value.specs.Spelling.{document_bytes}
use Rattle.qe_field.specs.declared.field.Field.{Field}
use Rattle.qe_fits.specs.Sizes.{counted_length}
use Rattle.qe_schema.specs.Resolved.{IsResolved}
use Rattle.qe_command_written.specs.Written.{command_elements}
use Rattle.qe_encodes.specs.Fields.{IsKeyed}
use Rattle.qe_sent_fits.proofs.CountedLemmas.{encodes_short}
use Rattle.qe_sent_fits.proofs.laws.counted_lengths_are_enough.Goals as goal

pub returns : goal.returns
returns c = λ u leaves contentions plain command same resolved encodes.
    let back = sym same in
    let keyed = subst (λ (fields : List Field). All (λ (f : Field). IsKeyed f.kind) fields) (c.fields.ensures.all ∙ back) c.are_keyed.ensures in
    subst (λ (fields : List Field). length (document_bytes (command_elements fields command)) ≤ counted_length fields plain) same
    (encodes_short u leaves contentions keyed plain command (subst (λ fields. IsResolved fields plain) back resolved) encodes)
