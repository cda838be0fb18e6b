use Rattle.std.proofs.Common.{◌≡◌, ◌-◌, ◌*◌, ◌++◌}
use Rattle.qe_encodes.specs.Draws.{ivs_from}
use Rattle.qe_keyring.specs.Drawing.{further}
use Rattle.qe_keyring.proofs.draws.Draws.ivs.Given as goal

abbrev pub invariant-loop : goal.invariant-loop
invariant-loop l = record {
  so_far : l.ivs ++ ivs_from l.fn.self.stream (l.count - l.counter) l.self.place ≡ ivs_from l.fn.self.stream l.count l.fn.self.place;
  place : l.self ≡ further l.fn.self (4 * l.counter);
}
