use Rattle.std.proofs.Common.{rules, ◌≡◌, refl, arith}
use Rattle.sha2.specs.Sha256.{rounds}
use Rattle.qe_lanes.proofs.RowLemmas.{rounds_row}
use Rattle.qe_lanes.proofs.compression.worked.Goals as goal

pub loop-t-init : goal.loop-t-init
unfolding rounds
loop-t-init c = record {
  a_long = search rules;
  e_long = search rules;
  rounds_done = λ lane bytes lt has. rw (c.history-a.ensures, c.history-e.ensures) refl;
}

pub loop-t-preserved : goal.loop-t-preserved
loop-t-preserved c = record {
  a_long = search rules;
  e_long = search rules;
  rounds_done = λ lane bytes lt has.
      rounds_row c.loop-t.a c.loop-t.e _ _ _ _ c.loop-t.t lane _ _ (omega arith) c.loop-t.invariant.a_long c.loop-t.invariant.e_long
      (c.loop-t.invariant.rounds_done lane bytes lt has) refl (has.words c.loop-t.t (omega arith)) (c.round.ensures.a lane lt) (c.round.ensures.e lane lt);
}

pub returns : goal.returns
returns c = λ lane bytes lt has.
    let done : c.loop-t.t ≡ 64 = omega arith in
    rw done at (c.loop-t.invariant.rounds_done lane bytes lt has)
