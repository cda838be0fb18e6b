use Rattle.std.proofs.Common.{◌-◌, ◌∷◌, [], refl, sym, ap, ◌∙◌, rules}
use Rattle.std.proofs.lemmas.Result.{on_ok_weaker}
use Rattle.serde_json.specs.Data.{Data}
use Rattle.serde_json.specs.View.{view}
use Rattle.serde_json.specs.Written.{has_float}
use Rattle.qe_make.specs.Commands as command
use Rattle.qe_make.specs.Rules.{plainly, delete, divides}
use Rattle.qe_make.proofs.DraftLemmas.{skipped, due, behind_draws}
use Rattle.qe_make.proofs.FloatLemmas.{delete_is_whole}
use Rattle.qe_make.proofs.rules.Draft.delete.Goals as goal

pub returns-then-i-ne0 : goal.returns-then-i-ne0
unfolding delete
returns-then-i-ne0 c = skipped (divides 25 c.args.i) _ c.args.self.now (search rules)

pub add-requires : goal.add-requires
add-requires c = ap has_float c.in_ok-command.ensures ∙ delete_is_whole _

pub returns : goal.returns
unfolding delete
returns c =
    on_ok_weaker c.add.result
    (λ adds. due (divides 25 c.args.i) (plainly (command.delete (c.args.i - 3) ∷ [])) c.args.self.now c.add.new.self (search rules)
    (behind_draws (plainly (command.delete (c.args.i - 3) ∷ [])) (view c.in_ok-command.command) c.args.self.now c.args.self.now c.add.new.self refl (ap (λ (d : Data). d ∷ []) (sym c.in_ok-command.ensures)) refl adds))
    c.add.ensures
