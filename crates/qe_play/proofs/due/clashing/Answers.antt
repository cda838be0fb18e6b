use Rattle.qe_runs.specs.Runs.{setting_of}
use Rattle.qe_play.proofs.DueLemmas.{clash_clashes, each_clashes}
use Rattle.qe_play.proofs.due.clashing.Goals as goal

pub returns : goal.returns
returns c =
    let script = c.args.script.now in
    let journal = c.args.journal.now in
    let meant = c.a_script_is_meant.ensures in
    let one = c.a_run_without_a_clash_is_the_only_one.ensures (setting_of script) meant.under in
    record {
      journal = journal;
      run = c.requires.run;
      first = c.args.first.now;
      second = c.args.second.now;
      clash = c.requires.clash;
      every = each_clashes script one meant.meant journal c.requires.run
          (clash_clashes c.clashes_are_tested.ensures script journal (c.args.first.now, c.args.second.now) c.requires.clash);
      printed = c.in_ok-text.ensures;
    }
