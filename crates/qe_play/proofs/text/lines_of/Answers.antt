use Rattle.std.proofs.Common.{subst}
use Rattle.qe_base.specs.Answers.{Refuses}
use Rattle.qe_texts.specs.declared.fault.PrintFault.{PrintFault}
use Rattle.qe_texts.specs.Faults.{print_refusal}
use Rattle.qe_runs.specs.Texts.{replies_text}
use Rattle.qe_play.proofs.PrintedLemmas.{text_printed}
use Rattle.qe_play.proofs.text.lines_of.Goals as goal

pub unreachable-requires : goal.unreachable-requires
unreachable-requires c =
    text_printed c.args.schema.now c.args.brief c.args.replies.now c.requires
    (subst (λ (fault : PrintFault). Refuses (print_refusal fault) (replies_text c.args.schema.now c.args.brief c.args.replies.now))
    c.in-Err-Unprintable.field-0-is c.in-Err-Unprintable.ensures.exact)
