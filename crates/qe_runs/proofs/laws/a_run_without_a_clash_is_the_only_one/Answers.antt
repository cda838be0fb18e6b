use Rattle.qe_runs.proofs.OnlyLemmas.{only_run}
use Rattle.qe_runs.proofs.laws.a_run_without_a_clash_is_the_only_one.Goals as goal

pub returns : goal.returns
returns c = only_run (record {
  meet = c.meet_once.ensures.meets;
  edges = c.lists_are_the_sets.ensures.edges;
  cover = c.lists_are_the_sets.ensures.cover;
  texts = c.texts_differ.ensures;
}) c.a_step_keeps_a_collection.ensures.step
