use Rattle.std.proofs.Common.{ℕ, List, sym, ap, ◌∙◌, subst}
use Rattle.qe_base.specs.declared.maintenance.Count.{Count}
use Rattle.qe_protocol.specs.State.{Job, Jobs}
use Rattle.qe_protocol.specs.Units.{Work}
use Rattle.qe_compact.specs.declared.draft.Draft.{Draft}
use Rattle.qe_compact.specs.Parts.{job_of}
use Rattle.qe_compact.specs.Drafts.{drafted}
use Rattle.qe_compact.specs.Turns.{IsRun}
use Rattle.qe_compact.proofs.DraftLemmas.{worked_start}
use Rattle.qe_compact.proofs.upkeep.Upkeep.plan.Goals as goal

pub returns : goal.returns
returns c =
    let rows = c.args.esc.now.rows in
    let jobs = c.args.self.now in
    let job : Job = record { number = c.in-Some.job.number; kind = c.in-Some.job.kind; tokens = c.in-Some.job.tokens; leaves = c.self.inside.leaves } in
    record {
      job = job;
      runs = sym (ap (λ (j : Jobs). j.job) c.self.view_is) ∙ ap (λ running. job_of running c.self.inside.leaves) c.in-Some.is;
      within = c.in_ok-mismatch.ensures.within;
      run = subst (λ (start : Work × List Count × List ℕ). IsRun job.kind job.tokens c.args.nonces.now start.0 (drafted rows jobs c.run.new.draft) start.1 c.run.new.draft.counts start.2 c.run.new.draft.opened c.in_ok-mismatch.mismatch)
          (λ i. ((ap (drafted rows jobs) c.new-draft.ensures ∙ worked_start rows jobs c.self.inside.leaves) i, ap (λ (d : Draft). d.counts) c.new-draft.ensures i, ap (λ (d : Draft). d.opened) c.new-draft.ensures i))
          c.in_ok-mismatch.ensures.run;
    }
