use Rattle.qe_meant.proofs.values.carried.Goals as goal

pub returns : goal.returns
returns c = record { value = c.value.result.now; is = c.value.ensures; held = c.held.ensures }
