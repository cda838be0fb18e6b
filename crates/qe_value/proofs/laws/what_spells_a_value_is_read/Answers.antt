use Rattle.qe_value.proofs.AloneLemmas.{alone_takes, alone_again, alone_one}
use Rattle.qe_value.proofs.laws.what_spells_a_value_is_read.Goals as goal

pub returns-clause-read : goal.returns-clause-read
returns-clause-read c = λ kind bytes v fits. (alone_takes kind bytes v fits, alone_again kind bytes v)

pub returns-clause-one : goal.returns-clause-one
returns-clause-one c = alone_one
