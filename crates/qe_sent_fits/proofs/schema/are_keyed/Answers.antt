use Rattle.std.proofs.Common.{All, subst, take_all}
use Rattle.std.proofs.lemmas.List.Elements.{All-more}
use Rattle.qe_field.specs.declared.field.Field.{Field}
use Rattle.qe_encodes.specs.Fields.{IsKeyed}
use Rattle.qe_sent_fits.proofs.schema.are_keyed.Goals as goal

pub loop-field-preserved : goal.loop-field-preserved
loop-field-preserved c =
    All-more (λ (field : Field). IsKeyed field.kind) c.args.fields.now c.loop-field.field-index c.field-item.result c.loop-field-test.true c.loop-field.invariant
    (subst (λ (field : Field). IsKeyed field.kind) c.field-item.is c.is_keyed.ensures)

pub returns : goal.returns
returns c = subst (All (λ (field : Field). IsKeyed field.kind)) (take_all c.loop-field.field-index c.args.fields.now c.loop-field-test.false) c.loop-field.invariant
