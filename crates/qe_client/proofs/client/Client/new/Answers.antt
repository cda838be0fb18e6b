use Rattle.std.proofs.Common.{ap, ◌∙◌}
use Rattle.qe_encodes.specs.Sending.{Sender}
use Rattle.qe_client.proofs.ClientLemmas.{whole_at_first}
use Rattle.qe_client.proofs.client.Client.new.Goals as goal

pub invariant_of-result : goal.invariant_of-result
invariant_of-result c =
    whole_at_first c.new-2.result.under c.args.schema c.fields.result.now c.args.keys c.in_ok-openers.openers c.in_ok-contentions.contentions.items
    (ap (λ (s : Sender). s.under) c.new-2.ensures ∙ c.in_ok-keyring.ensures) c.fields.ensures.all c.requires c.fields.ensures.schema c.in_ok-openers.ensures
    c.in_ok-contentions.ensures
