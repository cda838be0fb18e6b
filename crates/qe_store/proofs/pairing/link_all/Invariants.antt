use Rattle.std.proofs.Common.{◌≡◌, ◌+◌, ◌≤◌, ◌++◌, map, take}
use Rattle.qe_store.specs.Parts.{paired}
use Rattle.qe_store.proofs.pairing.link_all.Given as goal

abbrev pub invariant-loop-tag : goal.invariant-loop-tag
invariant-loop-tag l = record {
  pairs : l.chains.pairs ≡ l.initial.chains.pairs ++ map (paired l.number) (take l.tag-index l.tags);
  room : l.initial.chains.room ≤ l.chains.room + l.tag-index;
}
