use Rattle.std.proofs.Common.{◌∙◌, ap, sym, Ok}
use Rattle.qe_play.proofs.DueLemmas.{text_is}
use Rattle.qe_play.proofs.text.text_of_run.Goals as goal

pub returns : goal.returns
returns c =
    text_is c.args.script.now c.args.engine.now.schema c.args.engine.now.journal c.args.replies.now c.args.labels c.in_ok-text.text c.slice.result.now
    c.requires.schema c.requires.due c.requires.labels c.in_ok-text.ensures (c.slice.ensures ∙ c.in_ok-closing.ensures)
    ∙ ap Ok (sym c.in_ok-extend.ensures.ok)
