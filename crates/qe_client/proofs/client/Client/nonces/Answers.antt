use Rattle.std.proofs.Common.{◌≡◌, length, ap, ◌∙◌}
use Rattle.qe_client.proofs.ClientLemmas.{nonces_many}
use Rattle.qe_client.proofs.client.Client.nonces.Goals as goal

pub returns-clause-many : goal.returns-clause-many
returns-clause-many c =
    ap length c.in_ok-nonces.ensures ∙ nonces_many c.self.inside.sender c.self.inside.begun c.self.inside.used c.args.number
