-- What stands in the text, and the lines to come, are all lines.
use Rattle.std.proofs.Common.{◌≡◌, drop}
use Rattle.qe_field.specs.Judgements.{ahead, gather}
use Rattle.qe_runs.specs.Texts.{reply_text}
use Rattle.qe_run_texts.proofs.replies.reply_lines.Given as goal

abbrev pub invariant-loop-reply : goal.invariant-loop-reply
invariant-loop-reply l = ahead l.text (gather (reply_text l.schema) (drop l.reply-index l.replies)) ≡ gather (reply_text l.schema) l.replies
