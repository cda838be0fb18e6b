use Rattle.std.proofs.Common.{◌∷◌, [], rules}
use Rattle.std.specs.Prelude.{nat_le}
use Rattle.std.proofs.lemmas.Result.{on_ok_weaker}
use Rattle.qe_make.specs.Rules.{in_turn, job_at, maintenance}
use Rattle.qe_make.proofs.DraftLemmas.{skipped, due, then, last}
use Rattle.qe_make.proofs.rules.Draft.maintain.Goals as goal

pub returns-then-documents-lt4 : goal.returns-then-documents-lt4
unfolding maintenance
returns-then-documents-lt4 c = skipped (nat_le 4 c.args.documents) _ c.args.self.now (search rules)

pub returns : goal.returns
unfolding maintenance
returns c =
    let n = c.args.documents in
    let i = c.args.i in
    let d0 = c.args.self.now in
    let d1 = c.run_job.new.self in
    let d2 = c.run_job-2.new.self in
    let d3 = c.run_job-3.new.self in
    let d4 = c.run_job-4.new.self in
    on_ok_weaker c.run_job-4.result
    (λ adds. due (nat_le 4 n) (in_turn (job_at n i 1 ∷ job_at n i 2 ∷ job_at n i 3 ∷ job_at n i 4 ∷ [])) d0 d4 (search rules)
    (then (job_at n i 1) _ d0 d1 d4 c.in_ok-run_job.ensures
    (then (job_at n i 2) _ d1 d2 d4 c.in_ok-run_job-2.ensures
    (then (job_at n i 3) _ d2 d3 d4 c.in_ok-run_job-3.ensures (last (job_at n i 4) d3 d4 adds)))))
    c.run_job-4.ensures
