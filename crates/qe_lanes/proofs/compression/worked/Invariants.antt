use Rattle.std.proofs.Common.{◌≡◌, ℕ, ◌<◌, List, length}
use Rattle.sha2.specs.Sha256.{rounds, schedule}
use Rattle.qe_lanes.specs.Lanes.{state_in, working, HasSchedule}
use Rattle.qe_lanes.proofs.compression.worked.Given as goal

abbrev pub invariant-loop-t : goal.invariant-loop-t
invariant-loop-t l = record {
  a_long : length l.a ≡ 68;
  e_long : length l.e ≡ 68;
  rounds_done : (lane : ℕ) (bytes : List ℕ) → lane < 16 → HasSchedule l.w lane bytes
      → working l.a l.e l.t lane ≡ rounds (state_in l.state lane) (schedule bytes 48) l.t;
}
