use Rattle.qe_laws.proofs.TheoremLemmas.{answers_plainly}
use Rattle.qe_laws.proofs.laws.maintenance_beside_writers.Goals as goal

pub returns : goal.returns
returns c = answers_plainly (record {
  meet = c.meet_once.ensures.meets;
  edges = c.lists_are_the_sets.ensures.edges;
  cover = c.lists_are_the_sets.ensures.cover;
  texts = c.texts_differ.ensures;
}) c.a_step_keeps_a_collection.ensures.step
