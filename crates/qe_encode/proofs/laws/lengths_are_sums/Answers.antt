use Rattle.qe_encode.proofs.SizeLemmas.{lengths, document_lengths}
use Rattle.qe_encode.proofs.laws.lengths_are_sums.Goals as goal

pub returns-clause-value : goal.returns-clause-value
returns-clause-value c = lengths

pub returns-clause-document : goal.returns-clause-document
returns-clause-document c = document_lengths
