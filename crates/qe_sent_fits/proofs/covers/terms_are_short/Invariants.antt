use Rattle.std.specs.Prelude.{take, All}
use Rattle.qe_sent_fits.specs.Covers.{HasShortCover}
use Rattle.qe_sent_fits.proofs.covers.terms_are_short.Given as goal

-- the terms that were seen
abbrev pub invariant-loop-term : goal.invariant-loop-term
invariant-loop-term l = All (HasShortCover l.fields) (take l.term-index l.terms)
