use Rattle.qe_value.proofs.DocumentLemmas.{document_takes, begins_again}
use Rattle.qe_value.proofs.laws.what_begins_bytes_is_read.Goals as goal

pub returns : goal.returns
returns c = λ bytes fields n fits. (document_takes bytes (fields, n) fits, begins_again bytes fields n)
