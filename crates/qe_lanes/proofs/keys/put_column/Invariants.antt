use Rattle.std.proofs.Common.{◌≡◌, ◌≢◌, ℕ, ◌<◌, length, slice_index}
use Rattle.qe_lanes.specs.Lanes.{word_in}
use Rattle.qe_lanes.proofs.keys.put_column.Given as goal

abbrev pub invariant-loop-k : goal.invariant-loop-k
invariant-loop-k l = record {
  long : length l.rows ≡ 8;
  done : (k : ℕ) → k < l.k → word_in l.rows k l.lane ≡ slice_index l.state k;
  others : (other : ℕ) → other ≢ l.lane → (k : ℕ) → word_in l.rows k other ≡ word_in l.fn.rows k other;
}
