use Rattle.std.proofs.Common.{◌≡◌, ◌++◌, [], length, take, get_or, ap, sym, ◌∙◌, arith}
use Rattle.std.proofs.lemmas.List.{append-nil}
use Rattle.qe_indexed.specs.declared.block.Block.{Block}
use Rattle.qe_indexed.specs.Spelling.{joined}
use Rattle.qe_indexed.proofs.JoinLemmas.{joined-nil, append-joined-more, AreLong-more}
use Rattle.qe_indexed.proofs.writing.push_blocks.Goals as goal

pub loop-block-init : goal.loop-block-init
loop-block-init c = (sym (ap (λ bs. c.args.bytes.now ++ bs) joined-nil ∙ append-nil c.args.bytes.now), λ k d lt. absurd (omega arith))

pub loop-block-preserved : goal.loop-block-preserved
loop-block-preserved c =
    let blocks = c.args.blocks.now in
    let i = c.loop-block.block-index in
    let none : Block = record { 0 = [] } in
    let piece : c.bytes_of.result.now ≡ (get_or blocks i none).0 = c.bytes_of.ensures.same in (
      c.in_ok-extend.ensures.ok ∙ ap (λ bs. bs ++ c.bytes_of.result.now) c.loop-block.invariant.0
          ∙ ap (λ bs. (c.args.bytes.now ++ joined (take i blocks)) ++ bs) piece
          ∙ append-joined-more c.args.bytes.now blocks i none c.loop-block-test.true,
      AreLong-more blocks i none c.loop-block-test.true c.loop-block.invariant.1 (sym (ap length piece) ∙ c.bytes_of.ensures.long),
    )
