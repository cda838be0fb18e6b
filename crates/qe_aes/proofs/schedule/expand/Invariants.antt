use Rattle.std.proofs.Common.{◌≡◌, ◌-◌, length, take}
use Rattle.qe_aes.specs.KeySchedule.{expansion}
use Rattle.qe_aes.specs.Words.{words_of}
use Rattle.qe_aes.proofs.schedule.expand.Given as goal

abbrev pub invariant-loop-i : goal.invariant-loop-i
invariant-loop-i l = record {
  long : length l.words ≡ 60;
  front : words_of (take l.i l.words) ≡ expansion l.key (l.i - 8);
}
