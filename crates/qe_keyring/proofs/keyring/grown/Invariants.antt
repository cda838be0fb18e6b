use Rattle.std.proofs.Common.{◌≡◌, take}
use Rattle.qe_keyring.proofs.keyring.grown.Given as goal

abbrev pub invariant-loop-place : goal.invariant-loop-place
invariant-loop-place l = l.grown ≡ take l.place l.keys
