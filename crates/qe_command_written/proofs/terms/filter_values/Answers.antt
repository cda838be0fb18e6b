use Rattle.std.proofs.Common.{[], ap, ◌∙◌, ◌++◌, ◌∷◌}
use Rattle.qe_document.specs.Views.{plain}
use Rattle.qe_command_written.specs.Faults.{term_fault}
use Rattle.qe_command_written.specs.Parts.{FitsTerm, TermAgain}
use Rattle.qe_command_written.specs.Written.{term_value}
use Rattle.qe_command_written.proofs.DueLemmas.{unless_ok}
use Rattle.qe_command_written.proofs.PutLemmas.{put_goes_on}
use Rattle.qe_command_written.proofs.terms.filter_values.Goals as goal

pub loop-term-preserved : goal.loop-term-preserved
loop-term-preserved c =
    let fields = c.args.fields.now in
    let item = c.term-item.result in
    let made = unless_ok (term_fault item) (term_value fields item) (plain c.in_ok-value.value) c.in_ok-value.ensures.exact in
    put_goes_on (term_value fields) term_fault FitsTerm TermAgain [] c.loop-term.items c.push.new.self c.args.terms.now c.loop-term.term-index item c.loop-term.invariant
    c.loop-term-test.true c.term-item.is made.0 (c.in-Ok.ensures.ok ∙ ap (λ tree. c.loop-term.items ++ tree ∷ []) made.1) c.in_ok-value.ensures.again
