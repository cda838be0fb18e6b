use Rattle.std.proofs.Common.{subst}
use Rattle.qe_value.specs.Spelling.{IsAlone}
use Rattle.qe_value.specs.Views.{plain}
use Rattle.qe_value.proofs.AloneLemmas.{alone_one}
use Rattle.qe_value.proofs.EqualLemmas.{plain_one}
use Rattle.qe_value.proofs.value.Value.equals.Goals as goal

pub returns-clause-bytes : goal.returns-clause-bytes
returns-clause-bytes c = λ kind bytes known. (
  λ same. subst (λ v. IsAlone kind bytes (plain v)) (c.is_same.ensures.0 same) known,
  λ other. c.is_same.ensures.1 (plain_one c.args.self.now c.args.other.now (alone_one kind bytes _ _ known other)),
)
