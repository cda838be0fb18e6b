use Rattle.std.specs.Prelude.{take}
use Rattle.qe_held.specs.Held.{AreHeldTokens}
use Rattle.qe_held.proofs.held.tokens_held.Given as goal

-- the tokens that were read
abbrev pub invariant-loop-token : goal.invariant-loop-token
invariant-loop-token l = AreHeldTokens (take l.token-index l.tokens)
