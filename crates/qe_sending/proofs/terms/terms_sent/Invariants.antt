use Rattle.std.proofs.Common.{◌≡◌, ◌++◌, drop}
use Rattle.qe_encodes.specs.Payloads.{sent_filter}
use Rattle.qe_sending.proofs.terms.terms_sent.Given as goal

abbrev pub invariant-loop-place : goal.invariant-loop-place
invariant-loop-place l =
    l.filter ++ sent_filter l.keyring l.contentions (drop l.place l.terms) l.place ≡ sent_filter l.keyring l.contentions l.terms 0
