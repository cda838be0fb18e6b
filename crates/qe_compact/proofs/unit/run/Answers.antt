use Rattle.std.proofs.Common.{◌+◌, ◌<◌, ◌≤◌, length, List, ℕ, drop, subst, arith}
use Rattle.std.proofs.lemmas.List.{drop_more, drop_all}
use Rattle.qe_compact.specs.Drafts.{drafted}
use Rattle.qe_compact.proofs.RunLemmas.{Going, starts, ends, goes_by}
use Rattle.qe_compact.proofs.unit.run.Goals as goal

pub loop-nonce-init : goal.loop-nonce-init
loop-nonce-init c =
    let standing = c.args.standing.now in
    let draft = c.args.draft.now in
    record {
      going = starts standing.job.now.kind standing.job.now.tokens c.args.nonces.now (drafted standing.esc.now.rows standing.upkeep.now draft) draft.counts draft.opened;
      within = c.requires;
    }

pub loop-nonce-preserved : goal.loop-nonce-preserved
loop-nonce-preserved c =
    let standing = c.args.standing.now in
    let draft = c.args.draft.now in
    let there : c.loop-nonce.nonce-index < length c.args.nonces.now = omega arith in
    record {
      going = goes_by standing.job.now.kind standing.job.now.tokens c.args.nonces.now (drafted standing.esc.now.rows standing.upkeep.now draft)
          draft.counts c.loop-nonce.draft.counts c.unit.new.draft.counts draft.opened c.loop-nonce.draft.opened c.unit.new.draft.opened
          (drop c.loop-nonce.nonce-index c.args.nonces.now) _ (drop (c.loop-nonce.nonce-index + 1) c.args.nonces.now)
          (drafted standing.esc.now.rows standing.upkeep.now c.loop-nonce.draft) (drafted standing.esc.now.rows standing.upkeep.now c.unit.new.draft) c.in_ok-unit.field-0
          c.loop-nonce.invariant.going (drop_more c.args.nonces.now c.loop-nonce.nonce-index _ there) c.in_ok-unit.ensures.unit c.in-On.is;
      within = c.in_ok-unit.ensures.within;
    }

pub returns-clause-run : goal.returns-clause-run
returns-clause-run c =
    let standing = c.args.standing.now in
    let draft = c.args.draft.now in
    let past : length c.args.nonces.now ≤ c.loop-nonce.nonce-index = omega arith in
    ends standing.job.now.kind standing.job.now.tokens c.args.nonces.now (drafted standing.esc.now.rows standing.upkeep.now draft)
    (drafted standing.esc.now.rows standing.upkeep.now c.loop-nonce.draft) draft.counts c.loop-nonce.draft.counts draft.opened c.loop-nonce.draft.opened
    (subst (λ (left : List (List ℕ)). Going standing.job.now.kind standing.job.now.tokens c.args.nonces.now (drafted standing.esc.now.rows standing.upkeep.now draft)
    draft.counts c.loop-nonce.draft.counts draft.opened c.loop-nonce.draft.opened left (drafted standing.esc.now.rows standing.upkeep.now c.loop-nonce.draft))
    (drop_all c.loop-nonce.nonce-index c.args.nonces.now past) c.loop-nonce.invariant.going)
