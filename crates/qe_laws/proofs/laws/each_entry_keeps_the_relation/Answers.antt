use Rattle.qe_laws.proofs.TheoremLemmas.{each_kept}
use Rattle.qe_laws.proofs.laws.each_entry_keeps_the_relation.Goals as goal

pub returns : goal.returns
returns c = each_kept (record {
  meet = c.meet_once.ensures.meets;
  edges = c.lists_are_the_sets.ensures.edges;
  cover = c.lists_are_the_sets.ensures.cover;
  texts = c.texts_differ.ensures;
}) c.a_step_keeps_a_collection.ensures.step
