use Rattle.qe_script.proofs.PrintedLemmas.{lines_bring_none, replies_are_printed}
use Rattle.qe_script.proofs.laws.what_a_script_holds_is_printed.Goals as goal

pub returns-clause-lines : goal.returns-clause-lines
returns-clause-lines c = lines_bring_none

pub returns-clause-replies : goal.returns-clause-replies
returns-clause-replies c = replies_are_printed
