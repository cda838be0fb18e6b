use Rattle.qe_standing.proofs.MatchLemmas.{filters_hold}
use Rattle.qe_standing.proofs.laws.a_filter_finds_what_it_means.Goals as goal

pub returns : goal.returns
returns c = filters_hold (record {
  meet = c.meet_once.ensures.meets;
  edges = c.lists_are_the_sets.ensures.edges;
  cover = c.lists_are_the_sets.ensures.cover;
  texts = c.texts_differ.ensures;
})
