-- The laws of what is read, put together.
use Rattle.qe_protocol.specs.Journal.{done, state_of}
use Rattle.qe_labels.specs.Under.{Under}
use Rattle.qe_encodes.specs.Fields.{IsUnder}
use Rattle.qe_standing.proofs.ReadLemmas.{replies_are_read}
use Rattle.qe_opening.specs.Laws.{JournalsAreRead, ReadsWhatIsMeant}
use Rattle.qe_opening.proofs.AnswerLemmas.{answer_from, answer_to, answers_from}

pub reads_what_is_meant : (u : Under) → IsUnder u → ReadsWhatIsMeant u
reads_what_is_meant u is = record {
  one = λ reply plain are. (answer_to u is reply plain are, answer_from u is reply plain);
  all = answers_from u is;
}

pub journals_are_read : (u : Under) → IsUnder u → JournalsAreRead u
journals_are_read u is = λ plains journal entry encoded.
    let last = (replies_are_read u is).last plains journal entry encoded in
    record { plain = last.plain; is = answer_from u is (done (state_of u.schema journal) entry).reply last.plain last.answers }
