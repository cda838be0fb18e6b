-- What stands in the text, and the ids to come, are the whole line.
use Rattle.std.proofs.Common.{◌≡◌, drop, map, string_bytes}
use Rattle.std.specs.Prelude.{codes}
use Rattle.qe_value.specs.Views.{plain}
use Rattle.qe_schema.specs.Judgements.{ahead, gather}
use Rattle.qe_texts.specs.Replies.{spaced_value}
use Rattle.qe_texts.proofs.reply.ids_line.Given as goal

abbrev pub invariant-loop-id : goal.invariant-loop-id
invariant-loop-id l =
    ahead (string_bytes l.text) (gather spaced_value (map plain (drop l.id-index l.ids)))
    ≡ ahead (codes "ids") (gather spaced_value (map plain l.ids))
