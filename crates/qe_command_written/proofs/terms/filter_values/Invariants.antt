use Rattle.std.proofs.Common.{[]}
use Rattle.qe_command_written.specs.Faults.{term_fault}
use Rattle.qe_command_written.specs.Parts.{FitsTerm, TermAgain}
use Rattle.qe_command_written.specs.Written.{term_value}
use Rattle.qe_command_written.proofs.PutLemmas.{Put}
use Rattle.qe_command_written.proofs.terms.filter_values.Given as goal

abbrev pub invariant-loop-term : goal.invariant-loop-term
invariant-loop-term l = Put (term_value l.fields) term_fault FitsTerm TermAgain [] l.terms l.term-index l.items
