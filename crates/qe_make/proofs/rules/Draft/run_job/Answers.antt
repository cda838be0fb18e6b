use Rattle.std.proofs.Common.{◌≡◌, ◌==◌, ◌*◌, ◌/◌, ◌∷◌, [], ap, subst, ◌∙◌, rules}
use Rattle.std.proofs.lemmas.Result.{on_ok_weaker}
use Rattle.serde_json.specs.Data.{Data}
use Rattle.serde_json.specs.View.{view}
use Rattle.serde_json.specs.Written.{has_float}
use Rattle.qe_make.specs.Commands as command
use Rattle.qe_make.specs.Draft.{Adds}
use Rattle.qe_make.specs.Rules.{plainly, kind_of, job_of, job_at}
use Rattle.qe_make.proofs.DraftLemmas.{skipped, due, one_by_one}
use Rattle.qe_make.proofs.FloatLemmas.{begin_is_whole, end_job_is_whole}
use Rattle.qe_make.proofs.rules.Draft.run_job.Goals as goal

pub returns-then-i-job : goal.returns-then-i-job
unfolding job_at
returns-then-i-job c = skipped (c.args.i == c.args.job * c.args.documents / 4) _ c.args.self.now (search rules)

pub add-requires : goal.add-requires
add-requires c = ap has_float c.in_ok-begin.ensures ∙ begin_is_whole _

pub add-requires-2 : goal.add-requires-2
add-requires-2 c = ap has_float c.in_ok-end.ensures ∙ end_job_is_whole _

pub returns : goal.returns
unfolding job_at
returns c =
    let job = c.args.job in
    let d0 = c.args.self.now in
    let d1 = c.add.new.self in
    let d2 = c.step.new.self in
    let d3 = c.step-2.new.self in
    let d4 = c.add-2.new.self in
    let begun : view c.in_ok-begin.begin ≡ command.begin (kind_of job) = c.in_ok-begin.ensures ∙ ap command.begin c.kind_of.ensures in
    let first = subst (λ (made : Data). Adds (plainly (made ∷ [])) d0 d1) begun c.in_ok-add.ensures in
    on_ok_weaker c.add-2.result
    (λ adds. due (c.args.i == job * c.args.documents / 4) (plainly (job_of job)) d0 d4 (search rules)
    (one_by_one (command.begin (kind_of job)) (command.step job) (command.step job) (command.end_job job) d0 d1 d2 d3 d4
    first c.in_ok-step.ensures c.in_ok-step-2.ensures (subst (λ (made : Data). Adds (plainly (made ∷ [])) d3 d4) c.in_ok-end.ensures adds)))
    c.add-2.ensures
