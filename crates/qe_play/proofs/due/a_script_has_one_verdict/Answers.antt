use Rattle.qe_runs.specs.Runs.{setting_of}
use Rattle.qe_play.proofs.DueLemmas.{one_verdict}
use Rattle.qe_play.proofs.due.a_script_has_one_verdict.Goals as goal

pub returns : goal.returns
returns c =
    let script = c.args.script.now in
    let meant = c.a_script_is_meant.ensures in
    one_verdict script (c.a_run_without_a_clash_is_the_only_one.ensures (setting_of script) meant.under) meant.meant
