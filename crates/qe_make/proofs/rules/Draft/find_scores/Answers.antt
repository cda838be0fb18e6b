use Rattle.std.proofs.Common.{◌≡◌, pos, ◌+ℤ◌, ◌∷◌, [], sym, ap, ◌∙◌, rules, arith, SFits, w64}
use Rattle.std.proofs.lemmas.Int.{ints, to_z-of_z}
use Rattle.std.proofs.lemmas.Result.{on_ok_weaker}
use Rattle.serde_json.specs.Data.{Data}
use Rattle.serde_json.specs.View.{view}
use Rattle.serde_json.specs.Written.{has_float}
use Rattle.qe_make.specs.Generator.{next_state}
use Rattle.qe_make.specs.Commands as command
use Rattle.qe_make.specs.Rules.{Rule, find_scores, divides, score_at}
use Rattle.qe_make.specs.declared.rules.Draft.{Draft}
use Rattle.qe_make.proofs.DraftLemmas.{skipped, due, behind_draws}
use Rattle.qe_make.proofs.FloatLemmas.{ids_of_score_is_whole}
use Rattle.qe_make.proofs.rules.Draft.find_scores.Goals as goal

pub returns-then-i-ne0 : goal.returns-then-i-ne0
unfolding find_scores
returns-then-i-ne0 c = skipped (divides 50 c.args.i) _ c.args.self.now (search rules)

pub overflow_add-low : goal.overflow_add-low
overflow_add-low c = omega (arith, ints)

pub add-requires : goal.add-requires
add-requires c = ap has_float c.in_ok-command.ensures ∙ ids_of_score_is_whole _ _

pub returns : goal.returns
unfolding find_scores
returns c =
    let x = c.args.self.now.state in
    let made = view c.in_ok-command.command in
    let rule : Rule = λ y. record { commands = command.ids_of_score (score_at y) (score_at y +ℤ pos 100000000) ∷ []; state = next_state y } in
    let next = c.score-low.ensures.next in
    let low = c.score-low.result in
    let fits : SFits w64 low = search rules in
    let reach : SFits w64 (low +ℤ pos 100000000) = omega (arith, ints) in
    let said = simp (to_z-of_z w64 low fits, to_z-of_z w64 (low +ℤ pos 100000000) reach) at c.in_ok-command.ensures in
    let is : made ≡ command.ids_of_score (score_at x) (score_at x +ℤ pos 100000000) =
    said ∙ ap (λ value. command.ids_of_score value (value +ℤ pos 100000000)) c.score-low.ensures.value in
    on_ok_weaker c.add.result
    (λ adds. due (divides 50 c.args.i) rule c.args.self.now c.add.new.self (search rules)
    (behind_draws rule made c.args.self.now c.score-low.new.self c.add.new.self (ap (λ (d : Draft). d.text) next) (ap (λ (d : Data). d ∷ []) (sym is))
    (sym (ap (λ (d : Draft). d.state) next)) adds))
    c.add.ensures
