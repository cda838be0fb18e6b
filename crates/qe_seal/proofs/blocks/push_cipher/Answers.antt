use Rattle.std.proofs.Common.{◌≡◌, ◌+◌, ◌*◌, ◌/◌, ◌++◌, length, take, drop, ap, sym, ◌∙◌, arith}
use Rattle.qe_aes.specs.Field.{xor_bytes}
use Rattle.qe_aes.specs.Cipher.{aes_256}
use Rattle.qe_seal.specs.Cbc.{padded_bytes}
use Rattle.qe_seal.proofs.CbcLemmas.{cipher_from, cipher_from-start, cipher_from-next, cipher_from-end}
use Rattle.qe_seal.proofs.blocks.push_cipher.Goals as goal

pub loop-i-init : goal.loop-i-init
loop-i-init c = ap (λ xs. c.args.bytes.now.items ++ xs) (cipher_from-start c.args.key.now c.args.iv.now c.args.plain.now)

pub loop-i-preserved : goal.loop-i-preserved
loop-i-preserved c =
    let block_is : c.encrypt-block.result ≡ aes_256 c.args.key.now (xor_bytes (take 16 (drop (16 * c.loop-i.i) c.args.plain.now)) c.loop-i.before) = cc in
    ap (λ done. done ++ cipher_from c.args.key.now c.encrypt-block.result c.args.plain.now (c.loop-i.i + 1)) c.in_ok-extend_from_slice.ensures.items
    ∙ cipher_from-next c.args.key.now c.loop-i.before c.args.plain.now c.encrypt-block.result c.loop-i.bytes.items c.loop-i.i (omega arith) block_is
    ∙ c.loop-i.invariant

pub returns : goal.returns
returns c =
    let plain = c.args.plain.now in
    let all : c.loop-i.i ≡ length plain / 16 = omega arith in
    let last_is : c.encrypt-last.result ≡ aes_256 c.args.key.now (xor_bytes (drop (16 * (length plain / 16)) (padded_bytes plain)) c.loop-i.before) = cc in
    c.in_ok-extend_from_slice-2.ensures.items
    ∙ cipher_from-end c.args.key.now c.loop-i.before plain c.encrypt-last.result c.loop-i.bytes.items last_is
    ∙ ap (λ i. c.loop-i.bytes.items ++ cipher_from c.args.key.now c.loop-i.before plain i) (sym all)
    ∙ c.loop-i.invariant
