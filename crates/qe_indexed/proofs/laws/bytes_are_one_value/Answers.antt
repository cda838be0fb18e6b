use Rattle.qe_indexed.proofs.SpellingLemmas.{IsLaidOut-one}
use Rattle.qe_indexed.proofs.LawLemmas as law
use Rattle.qe_indexed.proofs.laws.bytes_are_one_value.Goals as goal

pub returns : goal.returns
returns c = record { one = IsLaidOut-one; accepted = law.accepted; found = law.found }
