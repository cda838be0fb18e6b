use Rattle.qe_encodes.proofs.RangeLemmas.{items_meet}
use Rattle.qe_encodes.proofs.laws.items_meet_where_terms_hold.Goals as goal

pub returns : goal.returns
returns c = items_meet (record {
  meet = c.meet_once.ensures.meets;
  edges = c.lists_are_the_sets.ensures.edges;
  cover = c.lists_are_the_sets.ensures.cover;
  texts = c.texts_differ.ensures;
})
