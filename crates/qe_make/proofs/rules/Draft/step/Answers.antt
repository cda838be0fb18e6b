use Rattle.std.proofs.Common.{◌∷◌, [], refl, sym, ap, ◌∙◌}
use Rattle.std.proofs.lemmas.Result.{on_ok_weaker}
use Rattle.serde_json.specs.Data.{Data}
use Rattle.serde_json.specs.View.{view}
use Rattle.serde_json.specs.Written.{has_float}
use Rattle.qe_make.specs.Commands as command
use Rattle.qe_make.specs.Rules.{plainly}
use Rattle.qe_make.proofs.DraftLemmas.{behind_draws}
use Rattle.qe_make.proofs.FloatLemmas.{step_is_whole}
use Rattle.qe_make.proofs.rules.Draft.step.Goals as goal

pub add-requires : goal.add-requires
add-requires c = ap has_float c.in_ok-step.ensures ∙ step_is_whole _

pub returns : goal.returns
returns c =
    on_ok_weaker c.add.result
    (λ adds. behind_draws (plainly (command.step c.args.job ∷ [])) (view c.in_ok-step.step) c.args.self.now c.args.self.now c.add.new.self refl
    (ap (λ (d : Data). d ∷ []) (sym c.in_ok-step.ensures)) refl adds)
    c.add.ensures
