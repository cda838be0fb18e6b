use Rattle.qe_runs.specs.Runs.{setting_of}
use Rattle.qe_play.proofs.DueLemmas.{only_run}
use Rattle.qe_play.proofs.clear.a_clear_run_is_the_only_one.Goals as goal

pub returns : goal.returns
returns c =
    let script = c.args.script.now in
    let meant = c.a_script_is_meant.ensures in
    only_run script (c.a_run_without_a_clash_is_the_only_one.ensures (setting_of script) meant.under) meant.meant c.args.journal.now c.requires.run
    c.requires.clear
