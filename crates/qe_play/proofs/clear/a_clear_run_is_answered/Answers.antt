use Rattle.std.proofs.Common.{sym, subst}
use Rattle.qe_encodes.specs.Kept.{outcomes_of}
use Rattle.qe_laws.specs.Journals.{IsAnsweredPlainly}
use Rattle.qe_meant.specs.Held.{under_of}
use Rattle.qe_runs.specs.Runs.{commands_of, setting_of}
use Rattle.qe_play.specs.Runs.{ArePrinted}
use Rattle.qe_play.proofs.DueLemmas.{due_replies}
use Rattle.qe_play.proofs.PrintedLemmas.{due_printed}
use Rattle.qe_play.proofs.clear.a_clear_run_is_answered.Goals as goal

pub returns : goal.returns
returns c =
    let script = c.args.script.now in
    let journal = c.args.journal.now in
    let meant = c.a_script_is_meant.ensures in
    let plainly : IsAnsweredPlainly (under_of script) (commands_of script.lines) journal =
    c.a_run_is_answered_plainly.ensures (setting_of script) meant.under script.lines journal meant.meant c.requires.run c.requires.clear in
    let due = due_replies script journal c.args.replies.now (c.a_reply_is_read_where_it_means_something.ensures (under_of script) meant.under) plainly
    c.requires.answers in
    record {
      due = due;
      printed = subst (ArePrinted script.schema) (sym due)
          (due_printed c.what_is_unprintable_in_a_reply.ensures c.what_a_script_holds_is_printed.ensures.replies script c.requires.read
          (outcomes_of journal) (plainly.last, plainly.replies) plainly.plainly);
    }
