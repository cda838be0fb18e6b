use Rattle.std.proofs.Common.{◌≡◌, ℕ, ◌<◌, slice_index, length}
use Rattle.sha2.specs.Sha256.{add32, temp1, temp2}
use Rattle.qe_lanes.specs.Lanes.{word_in, working}
use Rattle.qe_lanes.proofs.compression.round.Given as goal

abbrev pub invariant-loop-i : goal.invariant-loop-i
invariant-loop-i l = record {
  a_long : length l.next_a ≡ 16;
  e_long : length l.next_e ≡ 16;
  a : (lane : ℕ) → lane < l.i → slice_index l.next_a lane
      ≡ add32 (temp1 (working l.a l.e l.t lane) l.k (slice_index l.words lane)) (temp2 (working l.a l.e l.t lane));
  e : (lane : ℕ) → lane < l.i → slice_index l.next_e lane
      ≡ add32 (word_in l.a l.t lane) (temp1 (working l.a l.e l.t lane) l.k (slice_index l.words lane));
}
