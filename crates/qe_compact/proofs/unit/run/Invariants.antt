use Rattle.std.proofs.Common.{drop}
use Rattle.qe_compact.specs.Drafts.{drafted, IsWithin}
use Rattle.qe_compact.proofs.RunLemmas.{Going}
use Rattle.qe_compact.proofs.unit.run.Given as goal

abbrev pub invariant-loop-nonce : goal.invariant-loop-nonce
invariant-loop-nonce l = record {
  going : Going l.standing.job.now.kind l.standing.job.now.tokens l.nonces (drafted l.standing.esc.now.rows l.standing.upkeep.now l.fn.draft)
      l.fn.draft.counts l.draft.counts l.fn.draft.opened l.draft.opened (drop l.nonce-index l.nonces) (drafted l.standing.esc.now.rows l.standing.upkeep.now l.draft);
  within : IsWithin l.standing.upkeep.now l.draft.plan l.draft.taken;
}
