use Rattle.std.proofs.Common.{◌≡◌, ◌++◌}
use Rattle.qe_seal.specs.Cbc.{cbc_encryption}
use Rattle.qe_seal.proofs.CbcLemmas.{cipher_from}
use Rattle.qe_seal.proofs.blocks.push_cipher.Given as goal

abbrev pub invariant-loop-i : goal.invariant-loop-i
invariant-loop-i l =
    l.bytes.items ++ cipher_from l.key l.before l.plain l.i ≡ l.initial.bytes.items ++ cbc_encryption l.key l.iv l.plain
