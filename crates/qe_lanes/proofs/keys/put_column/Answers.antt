use Rattle.std.proofs.Common.{◌≡◌, ◌≢◌, ◌∷◌, [], inl, inr, ◌∙◌, arith}
use Rattle.std.proofs.lemmas.List.{length-set}
use Rattle.std.proofs.lemmas.Bool.{cases_lt, cases_eq}
use Rattle.qe_lanes.proofs.BlockLemmas.{eight_words}
use Rattle.qe_lanes.proofs.RowLemmas.{word_in-set_same, word_in-set_other}
use Rattle.qe_lanes.proofs.keys.put_column.Goals as goal

pub loop-k-preserved : goal.loop-k-preserved
loop-k-preserved c =
    let long = c.loop-k.invariant.long in record {
      long = length-set c.loop-k.rows c.loop-k.k c.put.new.row ∙ long;
      done = λ k below. elim (cases_lt k c.loop-k.k) [
        | inl less ↦
            let ne : k ≢ c.loop-k.k = omega arith in
            word_in-set_other c.loop-k.rows c.loop-k.k k c.args.lane c.put.new.row ne ∙ c.loop-k.invariant.done k less
        | inr ge ↦
            let e : k ≡ c.loop-k.k = omega arith in
            rw e (word_in-set_same c.loop-k.rows c.loop-k.k c.args.lane c.put.new.row (omega arith) ∙ c.put.ensures.put)
      ];
      others = λ other ne k. elim (cases_eq k c.loop-k.k) [
        | inl e ↦
            rw e (word_in-set_same c.loop-k.rows c.loop-k.k other c.put.new.row (omega arith) ∙ c.put.ensures.kept other ne
            ∙ c.loop-k.invariant.others other ne c.loop-k.k)
        | inr differs ↦ word_in-set_other c.loop-k.rows c.loop-k.k k other c.put.new.row differs ∙ c.loop-k.invariant.others other ne k
      ];
    }

pub returns : goal.returns
returns c = record {
  put =
      let all : c.loop-k.k ≡ 8 = omega arith in
      (λ i. c.loop-k.invariant.done 0 (omega arith) i ∷ c.loop-k.invariant.done 1 (omega arith) i
      ∷ c.loop-k.invariant.done 2 (omega arith) i ∷ c.loop-k.invariant.done 3 (omega arith) i
      ∷ c.loop-k.invariant.done 4 (omega arith) i ∷ c.loop-k.invariant.done 5 (omega arith) i
      ∷ c.loop-k.invariant.done 6 (omega arith) i ∷ c.loop-k.invariant.done 7 (omega arith) i ∷ [])
      ∙ eight_words c.args.state.now c.told-state;
  kept = λ other ne.
      let same = c.loop-k.invariant.others other ne in
      λ i. same 0 i ∷ same 1 i ∷ same 2 i ∷ same 3 i ∷ same 4 i ∷ same 5 i ∷ same 6 i ∷ same 7 i ∷ [];
}
