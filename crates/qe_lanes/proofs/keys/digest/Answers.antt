use Rattle.std.proofs.Common.{rules, ◌≡◌, ℕ, ◌+◌, ◌*◌, ◌++◌, length, take, sym, ap, ◌∙◌, arith}
use Rattle.std.proofs.lemmas.List.{take_all}
use Rattle.sha2.specs.Sha256.{digest_bytes}
use Rattle.qe_seal.proofs.ArrayLemmas.{front-write_at}
use Rattle.qe_lanes.proofs.BlockLemmas.{digest_next}
use Rattle.qe_lanes.proofs.keys.digest.Goals as goal

pub loop-i-init : goal.loop-i-init
unfolding digest_bytes
loop-i-init c = search rules

pub loop-i-preserved : goal.loop-i-preserved
loop-i-preserved c =
    let at = 4 * c.loop-i.i in
    let four : length c.to_be_bytes.result ≡ 4 = ap length c.to_be_bytes.ensures in
    let long = c.loop-i.invariant.0 in
    let next : 4 * (c.loop-i.i + 1) ≡ at + length c.to_be_bytes.result = omega arith in (
      omega (arith, c.write_at.auto.bytes),
      ap (λ (n : ℕ). take n c.write_at.new.bytes) next
          ∙ front-write_at c.loop-i.bytes c.write_at.new.bytes c.to_be_bytes.result at (omega arith) c.write_at.ensures
          ∙ (λ i. c.loop-i.invariant.1 i ++ c.to_be_bytes.ensures i) ∙ sym (digest_next c.args.state.now c.loop-i.i),
    )

pub returns : goal.returns
returns c =
    let done : c.loop-i.i ≡ 8 = omega arith in
    let long = c.loop-i.invariant.0 in
    sym (take_all 32 c.loop-i.bytes (omega arith)) ∙ rw done at c.loop-i.invariant.1
