use Rattle.std.proofs.Common.{◌≡◌, ◌*◌, length, take, drop, map}
use Rattle.std.specs.List.{range_with_len}
use Rattle.qe_aes.specs.Words.{words_of}
use Rattle.qe_aes.proofs.schedule.load_key.Given as goal

abbrev pub invariant-loop-i : goal.invariant-loop-i
invariant-loop-i l = record {
  long : length l.words ≡ 60;
  front : words_of (take l.i l.words) ≡ map (λ k. take 4 (drop (4 * k) l.key)) (range_with_len 0 l.i);
}
