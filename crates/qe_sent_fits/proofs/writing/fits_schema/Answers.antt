use Rattle.std.proofs.Common.{subst}
use Rattle.std.specs.Prelude.{List, All}
use Rattle.qe_field.specs.declared.field.Field.{Field}
use Rattle.qe_encodes.specs.Fields.{IsKeyed}
use Rattle.qe_sent_fits.proofs.SentWhole.{sent_fits}
use Rattle.qe_sent_fits.proofs.writing.fits_schema.Goals as goal

pub returns : goal.returns
returns c =
    let keyed = subst (λ (fields : List Field). All (λ (f : Field). IsKeyed f.kind) fields) c.fields.ensures.all c.are_keyed.ensures in
    sent_fits c.args.schema.now c.args.plain.now c.args.command.now c.requires.sent c.fields.ensures.schema keyed c.requires.covers c.command_held.ensures
