use Rattle.std.proofs.Common.{rules, ◌≡◌, ◌≢◌, ◌∙◌, arith, inl, inr}
use Rattle.std.proofs.lemmas.Bool.{cases_lt}
use Rattle.qe_lanes.proofs.RowLemmas.{word_in-set_same, word_in-set_other}
use Rattle.qe_lanes.proofs.blocks.pad_block.Goals as goal

pub loop-k-preserved : goal.loop-k-preserved
loop-k-preserved c = (
  search rules,
  λ lane lt k below. elim (cases_lt k c.loop-k.k) [
    | inl less ↦
        let ne : k ≢ c.loop-k.k = omega arith in
        word_in-set_other c.loop-k.block c.loop-k.k k lane _ ne ∙ c.loop-k.invariant.1 lane lt k less
    | inr ge ↦
        let e : k ≡ c.loop-k.k = omega arith in
        rw e (word_in-set_same c.loop-k.block c.loop-k.k lane _ (omega arith) ∙ c.pad_row.ensures lane lt)
  ],
)

pub returns : goal.returns
returns c = λ lane lt. record { words = λ k below. c.loop-k.invariant.1 lane lt k (omega arith) }
