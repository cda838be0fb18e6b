use Rattle.std.proofs.Common.{arith}
use Rattle.qe_aes.proofs.WordLemmas.{state_bytes-add_round_key}
use Rattle.qe_aes.proofs.state.State.add_round_key.Goals as goal

pub returns : goal.returns
returns c = state_bytes-add_round_key _ _ _ _ c.args.n c.args.words.now (omega arith)
