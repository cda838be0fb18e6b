use Rattle.std.proofs.Common.{◌∙◌}
use Rattle.qe_runs.specs.Runs.{setting_of}
use Rattle.qe_play.proofs.DueLemmas.{if_ok}
use Rattle.qe_play.proofs.LabelLemmas.{census_fields, run_labels}
use Rattle.qe_play.proofs.labels.labels_of_run.Goals as goal

pub labels-requires : goal.labels-requires
labels-requires c =
    let script = c.args.script.now in
    census_fields script c.args.client.now.sender.under c.args.journal.now _ _ c.requires.client c.requires.words c.in_ok-strays.ensures.ok
    c.requires.run c.strays_are_the_words_of_a_journal.ensures (c.runs_grow_by_lines.ensures (setting_of script))
    (c.a_run_is_encoded.ensures (setting_of script)) c.the_items_of_a_journal_are_of_encrypted_fields.ensures c.a_script_is_meant.ensures.meant

pub returns : goal.returns
returns c =
    let script = c.args.script.now in
    let are = run_labels script c.args.client.now.sender.under c.args.journal.now _ _ c.requires.client c.requires.words c.in_ok-strays.ensures.ok
    c.requires.run c.strays_are_the_words_of_a_journal.ensures (c.runs_grow_by_lines.ensures (setting_of script)) in
    if_ok c.labels.result _ _ (λ labels is. is ∙ are) c.labels.ensures
