use Rattle.qe_aes.proofs.FieldLemmas.{product-inverse}
use Rattle.qe_aes.proofs.laws.finds_inverses.Goals as goal

pub returns : goal.returns
returns c = product-inverse
