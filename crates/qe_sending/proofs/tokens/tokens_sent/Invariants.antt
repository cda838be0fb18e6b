use Rattle.std.proofs.Common.{◌≡◌, take}
use Rattle.qe_encodes.specs.Payloads.{sent_tokens}
use Rattle.qe_sending.proofs.tokens.tokens_sent.Given as goal

abbrev pub invariant-loop-pair : goal.invariant-loop-pair
invariant-loop-pair l = l.tokens ≡ sent_tokens l.keyring (take l.pair-index l.pairs)
