-- The line of a reply, without its end.
use Rattle.std.specs.Prelude.{ℕ, List, ◌∷◌, length, codes, Result, Ok, if◌then◌else◌, ◌==◌}
use Rattle.qe_value.specs.declared.value.Plain.{Plain}
use Rattle.qe_plain.specs.declared.command.PlainDocument.{PlainDocument}
use Rattle.qe_plain.specs.declared.command.PlainReply.{PlainReply}
use Rattle.qe_plain.specs.declared.command.PlainReply.TheVariants as r
use Rattle.qe_field.specs.declared.field.Field.{Field}
use Rattle.qe_schema.specs.Judgements.{bind, gather, ahead}
use Rattle.qe_texts.specs.declared.fault.PrintFault.{PrintFault}
use Rattle.qe_field.specs.Lookup.{path_of}
use Rattle.qe_texts.specs.Documents.{value_text, document_text}
use Rattle.qe_texts.specs.Phrases.{counted, named, twice_counted}

-- a text after a space
abbrev pub spaced : Result (List ℕ) PrintFault → Result (List ℕ) PrintFault
spaced text = bind text (λ bytes. Ok (32 ∷ bytes))

unfoldable pub spaced_document : List Field → PlainDocument → Result (List ℕ) PrintFault
spaced_document fields document = spaced (document_text fields document)

abbrev pub spaced_value : Plain → Result (List ℕ) PrintFault
spaced_value value = spaced (value_text value)

-- the number of documents, and each one's JSON
abbrev pub found_line : List Field → List PlainDocument → Result (List ℕ) PrintFault
found_line fields documents = ahead (counted (codes "found") (length documents)) (gather (spaced_document fields) documents)

-- each id's JSON
abbrev pub ids_line : List Plain → Result (List ℕ) PrintFault
ids_line ids = ahead (codes "ids") (gather spaced_value ids)

abbrev pub ended_line : ℕ → List ℕ
ended_line leaves = if leaves == 0 then codes "ended" else counted (codes "ended leaves") leaves

unfoldable pub reply_line : List Field → PlainReply → Result (List ℕ) PrintFault
reply_line fields r.Inserted = Ok (codes "inserted")
reply_line fields r.DuplicateId = Ok (codes "duplicate")
reply_line fields (r.Updated n) = Ok (counted (codes "updated") n)
reply_line fields (r.Deleted n) = Ok (counted (codes "deleted") n)
reply_line fields (r.Found documents) = found_line fields documents
reply_line fields (r.Ids ids) = ids_line ids
reply_line fields (r.Begun job) = Ok (counted (codes "begun") job)
reply_line fields (r.Stepped left) = Ok (counted (codes "stepped") left)
reply_line fields (r.Ended leaves) = Ok (ended_line leaves)
reply_line fields r.Abandoned = Ok (codes "abandoned")
reply_line fields (r.JobRunning job) = Ok (counted (codes "job running") job)
reply_line fields (r.NoJob asked running) = Ok (twice_counted (codes "no job") asked running)
reply_line fields (r.TokenMissing field) = Ok (named (codes "token missing") (path_of fields field))
reply_line fields (r.TokenMismatch field) = Ok (named (codes "token mismatch") (path_of fields field))
reply_line fields (r.NotDone left) = Ok (counted (codes "not done") left)
reply_line fields (r.Raised contention) = Ok (counted (codes "raised") contention)
reply_line fields (r.NotRaised asked current) = Ok (twice_counted (codes "not raised") asked current)
reply_line fields (r.ContentionBelow field got current) =
    Ok (twice_counted (named (codes "contention below") (path_of fields field)) got current)
reply_line fields (r.ContentionOver field got current) =
    Ok (twice_counted (named (codes "contention over") (path_of fields field)) got current)
