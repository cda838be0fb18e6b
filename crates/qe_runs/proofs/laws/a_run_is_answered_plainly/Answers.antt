use Rattle.qe_encodes.specs.Laws.{EdgeLaws}
use Rattle.qe_laws.proofs.TheoremLemmas.{answers_plainly}
use Rattle.qe_runs.specs.Runs.{commands_of}
use Rattle.qe_runs.proofs.RunLemmas.{run_encoded}
use Rattle.qe_runs.proofs.laws.a_run_is_answered_plainly.Goals as goal

pub returns : goal.returns
returns c setting is lines journal meant run free =
    let laws : EdgeLaws = record {
      meet = c.meet_once.ensures.meets;
      edges = c.lists_are_the_sets.ensures.edges;
      cover = c.lists_are_the_sets.ensures.cover;
      texts = c.texts_differ.ensures;
    } in
    let commands = commands_of lines in
    answers_plainly laws c.a_step_keeps_a_collection.ensures.step setting.under commands journal is (run_encoded setting lines journal meant run) free
