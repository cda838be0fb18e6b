use Rattle.std.proofs.Common.{[], sym, subst, drop, ◌+◌, ◌++◌, arith}
use Rattle.qe_protocol.specs.Units.{Work}
use Rattle.qe_compact.specs.Drafts.{drafted}
use Rattle.qe_compact.specs.Turns.{GoesOn}
use Rattle.qe_compact.proofs.DraftLemmas.{doomed_taken, captured_taken}
use Rattle.qe_compact.proofs.RunLemmas.{noted_nothing}
use Rattle.qe_compact.proofs.TurnLemmas.{doomed_goes, captured_goes, nothing_stops}
use Rattle.qe_compact.proofs.unit.unit.Goals as goal

pub overflow_add-draft : goal.overflow_add-draft
overflow_add-draft c = omega (arith, c.in-Doomed.ensures.small)

pub overflow_add-draft-in-Captured : goal.overflow_add-draft-in-Captured
overflow_add-draft-in-Captured c = omega (arith, c.in-Captured.ensures.small)

pub returns-in_ok-write-in-Doomed-clause-unit : goal.returns-in_ok-write-in-Doomed-clause-unit
returns-in_ok-write-in-Doomed-clause-unit c =
    let standing = c.args.standing.now in
    let draft = c.args.draft.now in
    let jobs = standing.upkeep.now in
    let job = standing.job.now in
    let before = drafted standing.esc.now.rows jobs draft in
    let is = c.in-Doomed.ensures.subject in
    record {
      searched = [];
      rows = [];
      noted = noted_nothing draft.counts draft.opened;
      turn_is = subst (λ (after : Work). GoesOn job.kind job.tokens c.args.nonce.now before after [] [])
          (sym (doomed_taken standing.esc.now.rows jobs draft.plan draft.taken c.write.new.self c.in-Doomed.id c.in_ok-write-in-Doomed.ensures.ok))
          (doomed_goes job.kind job.tokens c.args.nonce.now before c.in-Doomed.id (drop (draft.taken.doomed + 1) (jobs.doomed ++ draft.plan.doomed)) is.0 is.1);
    }

pub returns-in_ok-write-in-Captured-clause-unit : goal.returns-in_ok-write-in-Captured-clause-unit
returns-in_ok-write-in-Captured-clause-unit c =
    let standing = c.args.standing.now in
    let draft = c.args.draft.now in
    let jobs = standing.upkeep.now in
    let job = standing.job.now in
    let before = drafted standing.esc.now.rows jobs draft in
    let is = c.in-Captured.ensures.subject in
    record {
      searched = [];
      rows = [];
      noted = noted_nothing draft.counts draft.opened;
      turn_is = subst (λ (after : Work). GoesOn job.kind job.tokens c.args.nonce.now before after [] [])
          (sym (captured_taken standing.esc.now.rows jobs draft.plan draft.taken c.write-in-Captured.new.self c.in-Captured.id c.in_ok-write-in-Captured.ensures.ok))
          (captured_goes job.kind job.tokens c.args.nonce.now before c.in-Captured.id (drop (draft.taken.captured + 1) jobs.captured) is.0 is.1 is.2);
    }

pub returns-in-Nothing-clause-unit : goal.returns-in-Nothing-clause-unit
returns-in-Nothing-clause-unit c =
    let standing = c.args.standing.now in
    let draft = c.args.draft.now in
    let job = standing.job.now in
    let is = c.in-Nothing.ensures.subject in
    record {
      searched = [];
      rows = [];
      noted = noted_nothing draft.counts draft.opened;
      turn_is = nothing_stops job.kind job.tokens c.args.nonce.now (drafted standing.esc.now.rows standing.upkeep.now draft) is.0 is.1 is.2;
    }
