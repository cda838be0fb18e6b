-- What was read, and what the rows to come give, is all.
use Rattle.std.proofs.Common.{◌≡◌, drop}
use Rattle.qe_field.specs.Judgements.{ahead}
use Rattle.qe_opening.specs.Answer.{documents_of}
use Rattle.qe_opening.proofs.replies.read_documents.Given as goal

abbrev pub invariant-loop-row : goal.invariant-loop-row
invariant-loop-row l = ahead l.documents (documents_of l.keys (drop l.row-index l.rows)) ≡ documents_of l.keys l.rows
