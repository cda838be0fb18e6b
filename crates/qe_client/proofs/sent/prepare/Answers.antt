use Rattle.qe_client.proofs.ClientLemmas.{can_send_under}
use Rattle.qe_client.proofs.sent.prepare.Goals as goal

pub stored_words-requires : goal.stored_words-requires
stored_words-requires c =
    can_send_under c.args.sender.now.under c.keyring-keyring.result.now c.schema-schema.result.now c.args.plain.now c.keyring-keyring.ensures
    c.schema-schema.ensures c.fields-fields.ensures.schema c.requires.resolved c.requires.fits

pub sought_words-requires : goal.sought_words-requires
sought_words-requires c =
    can_send_under c.args.sender.now.under c.keyring-keyring.result.now c.schema-schema.result.now c.args.plain.now c.keyring-keyring.ensures
    c.schema-schema.ensures c.fields-fields.ensures.schema c.requires.resolved c.requires.fits
