use Rattle.std.proofs.Common.{rules, ◌∙◌}
use Rattle.qe_aes.proofs.WordLemmas.{quarters, state_bytes-columns}
use Rattle.qe_aes.proofs.state.State.load.Goals as goal

pub returns : goal.returns
returns c =
    state_bytes-columns _ _ _ _ _ _ _ _ c.word_at.ensures c.word_at-2.ensures c.word_at-3.ensures c.word_at-4.ensures
    ∙ quarters c.args.block (search rules)
