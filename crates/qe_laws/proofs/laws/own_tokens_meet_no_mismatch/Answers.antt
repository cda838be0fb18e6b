use Rattle.qe_labels.specs.Under.{Under}
use Rattle.qe_encodes.specs.Fields.{IsUnder}
use Rattle.qe_encodes.specs.Laws.{EdgeLaws}
use Rattle.qe_laws.specs.Journals.{KeepsEntries}
use Rattle.qe_laws.proofs.OwnLemmas.{own_tokens_serve}
use Rattle.qe_laws.proofs.TheoremLemmas.{each_kept}
use Rattle.qe_laws.proofs.laws.own_tokens_meet_no_mismatch.Goals as goal

pub returns : goal.returns
returns c =
    let laws : EdgeLaws = record {
      meet = c.meet_once.ensures.meets;
      edges = c.lists_are_the_sets.ensures.edges;
      cover = c.lists_are_the_sets.ensures.cover;
      texts = c.texts_differ.ensures;
    } in
    let keeps : (u : Under) → IsUnder u → KeepsEntries u = each_kept laws c.a_step_keeps_a_collection.ensures.step in
    own_tokens_serve keeps
