use Rattle.std.proofs.Common.{◌≡◌, ◌∷◌, [], sym, ap, ◌∙◌, rules}
use Rattle.std.proofs.lemmas.Result.{on_ok_weaker}
use Rattle.serde_json.specs.Data.{Data}
use Rattle.serde_json.specs.View.{view}
use Rattle.serde_json.specs.Written.{has_float}
use Rattle.qe_make.specs.Generator.{next_state}
use Rattle.qe_make.specs.Commands as command
use Rattle.qe_make.specs.Rules.{Rule, find_age, divides, age_at}
use Rattle.qe_make.specs.declared.rules.Draft.{Draft}
use Rattle.qe_make.proofs.DraftLemmas.{skipped, due, behind_draws}
use Rattle.qe_make.proofs.FloatLemmas.{ids_of_age_is_whole}
use Rattle.qe_make.proofs.rules.Draft.find_age.Goals as goal

pub returns-then-i-ne0 : goal.returns-then-i-ne0
unfolding find_age
returns-then-i-ne0 c = skipped (divides 20 c.args.i) _ c.args.self.now (search rules)

pub add-requires : goal.add-requires
add-requires c = ap has_float c.in_ok-command.ensures ∙ ids_of_age_is_whole _

pub returns : goal.returns
unfolding find_age
returns c =
    let x = c.args.self.now.state in
    let made = view c.in_ok-command.command in
    let rule : Rule = λ y. record { commands = command.ids_of_age (age_at y) ∷ []; state = next_state y } in
    let next = c.age-age.ensures.next in
    let is : made ≡ command.ids_of_age (age_at x) = c.in_ok-command.ensures ∙ ap (λ value. command.ids_of_age value) c.age-age.ensures.value in
    on_ok_weaker c.add.result
    (λ adds. due (divides 20 c.args.i) rule c.args.self.now c.add.new.self (search rules)
    (behind_draws rule made c.args.self.now c.age-age.new.self c.add.new.self (ap (λ (d : Draft). d.text) next) (ap (λ (d : Data). d ∷ []) (sym is))
    (sym (ap (λ (d : Draft). d.state) next)) adds))
    c.add.ensures
