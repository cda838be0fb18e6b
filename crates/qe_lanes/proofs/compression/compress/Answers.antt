use Rattle.std.proofs.Common.{ap, ◌∙◌, ◌∷◌, []}
use Rattle.sha2.specs.Sha256.{add_state, compress}
use Rattle.qe_lanes.specs.Lanes.{state_in}
use Rattle.qe_lanes.proofs.compression.compress.Goals as goal

pub returns : goal.returns
unfolding compress
returns c = λ lane bytes lt has.
    let v = c.worked-v.ensures lane bytes lt (c.write_schedule.ensures lane bytes lt has) in
    (λ i. c.sums.ensures lane lt i ∷ c.sums-2.ensures lane lt i ∷ c.sums-3.ensures lane lt i ∷ c.sums-4.ensures lane lt i
    ∷ c.sums-5.ensures lane lt i ∷ c.sums-6.ensures lane lt i ∷ c.sums-7.ensures lane lt i ∷ c.sums-8.ensures lane lt i ∷ [])
    ∙ ap (add_state (state_in c.args.state.now lane)) v
