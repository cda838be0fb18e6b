use Rattle.qe_labels.specs.Under.{Under}
use Rattle.qe_encodes.specs.Fields.{IsUnder}
use Rattle.qe_encodes.specs.Laws.{EdgeLaws}
use Rattle.qe_laws.specs.Journals.{KeepsEntries}
use Rattle.qe_laws.proofs.MismatchLemmas.{mismatch_tells}
use Rattle.qe_laws.proofs.TheoremLemmas.{each_kept}
use Rattle.qe_laws.proofs.laws.each_mismatch_tells_of_another_token.Goals as goal

pub returns : goal.returns
returns c =
    let laws : EdgeLaws = record {
      meet = c.meet_once.ensures.meets;
      edges = c.lists_are_the_sets.ensures.edges;
      cover = c.lists_are_the_sets.ensures.cover;
      texts = c.texts_differ.ensures;
    } in
    let keeps : (u : Under) → IsUnder u → KeepsEntries u = each_kept laws c.a_step_keeps_a_collection.ensures.step in
    mismatch_tells keeps
