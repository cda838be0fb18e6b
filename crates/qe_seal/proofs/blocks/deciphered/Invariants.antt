use Rattle.std.proofs.Common.{◌≡◌, ◌/◌, ◌++◌, length}
use Rattle.qe_seal.specs.Cbc.{cbc_plain}
use Rattle.qe_seal.proofs.CbcLemmas.{plain_from}
use Rattle.qe_seal.proofs.blocks.deciphered.Given as goal

abbrev pub invariant-loop-i : goal.invariant-loop-i
invariant-loop-i l =
    l.plain.items ++ plain_from l.key l.before l.bytes l.i ≡ cbc_plain l.key l.iv (length l.bytes / 16) l.bytes
