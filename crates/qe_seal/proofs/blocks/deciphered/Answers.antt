use Rattle.std.proofs.Common.{◌≡◌, ◌+◌, ◌++◌, ap, sym, ◌∙◌, arith}
use Rattle.qe_aes.specs.Field.{xor_bytes}
use Rattle.qe_aes.specs.Cipher.{inv_aes_256}
use Rattle.qe_seal.proofs.CbcLemmas.{plain_from, plain_from-next, plain_from-end}
use Rattle.qe_seal.proofs.blocks.deciphered.Goals as goal

pub loop-i-preserved : goal.loop-i-preserved
loop-i-preserved c =
    let sum_is : c.combined.result ≡ xor_bytes (inv_aes_256 c.args.key.now c.array_at-enciphered.result) c.loop-i.before = cc in
    ap (λ done. done ++ plain_from c.args.key.now c.array_at-enciphered.result c.args.bytes.now (c.loop-i.i + 1)) c.in_ok-extend_from_slice.ensures.items
    ∙ plain_from-next c.args.key.now c.loop-i.before c.args.bytes.now c.array_at-enciphered.result c.combined.result c.loop-i.plain.items c.loop-i.i
    (omega arith) c.array_at-enciphered.ensures sum_is
    ∙ c.loop-i.invariant

pub returns : goal.returns
returns c =
    sym (plain_from-end c.args.key.now c.loop-i.before c.args.bytes.now c.loop-i.plain.items c.loop-i.i (omega arith)) ∙ c.loop-i.invariant
