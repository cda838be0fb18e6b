use Rattle.qe_play.proofs.DueLemmas.{due_verdict, if_ok}
use Rattle.qe_play.proofs.due.script_due.Goals as goal

pub returns-clause-verdict : goal.returns-clause-verdict
returns-clause-verdict c =
    if_ok c.due_of_run.result _ _ (λ due. due_verdict c.args.script.now due.verdict due.text) c.due_of_run.ensures
