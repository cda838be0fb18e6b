use Rattle.std.proofs.Common.{◌≡◌, ◌≢◌, inl, inr, arith}
use Rattle.std.proofs.lemmas.Bool.{cases_lt}
use Rattle.qe_label_rows.proofs.KeyLemmas.{keyed_at}
use Rattle.qe_label_rows.proofs.batch.put_keys.Goals as goal

pub loop-lane-preserved : goal.loop-lane-preserved
loop-lane-preserved c = λ lane d e key below keyed. elim (cases_lt lane c.loop-lane.lane) [
  | inl lt ↦
      let ne : lane ≢ c.loop-lane.lane = omega arith in
      c.set.ensures.kept lane key ne (c.loop-lane.invariant lane d e key lt keyed)
  | inr ge ↦
      let e' : lane ≡ c.loop-lane.lane = omega arith in
      rw e' (c.set.ensures.put key (keyed_at c.args.keys.now c.args.rows.now lane c.loop-lane.lane d _ e _ key c.requires (omega arith) e' keyed))
]

pub returns : goal.returns
returns c = λ lane d e key low within keyed. c.loop-lane.invariant lane d e key (omega arith) keyed
