use Rattle.qe_seal.proofs.SealLawLemmas.{opened_value-Seals, Seals-opened_value}
use Rattle.qe_seal.proofs.laws.seal_laws.Goals as goal

pub returns : goal.returns
returns c = record { back = opened_value-Seals; forth = Seals-opened_value }
