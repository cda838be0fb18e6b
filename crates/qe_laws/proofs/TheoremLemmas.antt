-- Maintenance beside writers: the theorem, of its parts.
use Rattle.qe_plain.specs.Laws.{StepsKeepCollections}
use Rattle.qe_labels.specs.Under.{Under}
use Rattle.qe_encodes.specs.Fields.{IsUnder}
use Rattle.qe_encodes.specs.Laws.{EdgeLaws}
use Rattle.qe_standing.proofs.ServeLemmas.{act_kept}
use Rattle.qe_laws.specs.Journals.{AnswersPlainly, KeepsEntries}
use Rattle.qe_laws.proofs.EntryLemmas.{KeepsDocuments, entries_kept}
use Rattle.qe_laws.proofs.JournalLemmas.{all_kept}

module _ (laws : EdgeLaws) (steps : StepsKeepCollections) where
  documents_kept : (u : Under) (is : IsUnder u) → KeepsDocuments u is
  documents_kept u is numbers state documents contentions plain command nonces counts outcome stands is_doc sent =
      let kept = act_kept u is laws steps sent.leaves contentions state sent.within documents numbers stands nonces sent.long counts outcome plain command is_doc sent.meant
      sent.encodes sent.fits sent.many sent.allowed sent.outcome_is sent.free in
      record { later = kept.later; reply = kept.reply; stands = kept.acted.stands; answers = kept.acted.answers; due = kept.due }

  pub each_kept : (u : Under) → IsUnder u → KeepsEntries u
  each_kept u is = entries_kept u is (documents_kept u is)

  pub answers_plainly : AnswersPlainly
  answers_plainly u plains journal is encoded free = all_kept u (each_kept u is) plains journal encoded free
