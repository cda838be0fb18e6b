-- What stands in the text, and the documents to come, are the whole line.
use Rattle.std.proofs.Common.{◌≡◌, drop, length, string_bytes}
use Rattle.std.specs.Prelude.{codes}
use Rattle.qe_schema.specs.Judgements.{ahead, gather}
use Rattle.qe_texts.specs.Replies.{spaced_document}
use Rattle.qe_texts.specs.Phrases.{counted}
use Rattle.qe_texts.proofs.reply.found_line.Given as goal

abbrev pub invariant-loop-document : goal.invariant-loop-document
invariant-loop-document l =
    ahead (string_bytes l.text) (gather (spaced_document l.fields) (drop l.document-index l.documents))
    ≡ ahead (counted (codes "found") (length l.documents)) (gather (spaced_document l.fields) l.documents)
