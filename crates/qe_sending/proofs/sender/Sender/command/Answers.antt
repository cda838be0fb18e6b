use Rattle.std.proofs.Common.{ap, subst, ◌∙◌}
use Rattle.qe_field.specs.Schema.{IsSchema}
use Rattle.qe_labels.specs.Under.{Under}
use Rattle.qe_sending.proofs.SendableLemmas.{are_limited, can_send}
use Rattle.qe_sending.proofs.sender.Sender.command.Goals as goal

pub command_made-requires-clause-can : goal.command_made-requires-clause-can
command_made-requires-clause-can c =
    let schema = subst IsSchema (c.schema.ensures ∙ ap (λ (u : Under). u.schema) c.keyring.ensures) c.fields-fields.ensures.schema in
    can_send c.args.self.now.under.schema c.args.plain.now schema c.requires.resolved c.requires.fits

pub command_made-requires-clause-limited : goal.command_made-requires-clause-limited
command_made-requires-clause-limited c =
    let schema = subst IsSchema (c.schema.ensures ∙ ap (λ (u : Under). u.schema) c.keyring.ensures) c.fields-fields.ensures.schema in
    are_limited c.args.self.now.under.schema c.args.contentions.now schema c.requires.within
