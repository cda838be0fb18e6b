use Rattle.std.proofs.Common.{◌≡◌, ◌∷◌, [], sym, ap, ◌∙◌, rules, SFits, w64}
use Rattle.std.proofs.lemmas.Int.{to_z-of_z}
use Rattle.std.proofs.lemmas.Result.{on_ok_weaker}
use Rattle.serde_json.specs.Data.{Data}
use Rattle.serde_json.specs.View.{view}
use Rattle.serde_json.specs.Written.{has_float}
use Rattle.qe_make.specs.Generator.{next_state}
use Rattle.qe_make.specs.Commands as command
use Rattle.qe_make.specs.Rules.{insert, age_at, score_at}
use Rattle.qe_make.specs.declared.rules.Draft.{Draft}
use Rattle.qe_make.proofs.DraftLemmas.{behind_draws}
use Rattle.qe_make.proofs.FloatLemmas.{insert_is_whole}
use Rattle.qe_make.proofs.rules.Draft.insert.Goals as goal

pub add-requires : goal.add-requires
add-requires c = ap has_float c.in_ok-command.ensures ∙ insert_is_whole _ _ _

pub returns : goal.returns
unfolding insert
returns c =
    let x = c.args.self.now.state in
    let made = view c.in_ok-command.command in
    let once : c.age-age.new.self.state ≡ next_state x = ap (λ (d : Draft). d.state) c.age-age.ensures.next in
    let twice : c.score-score.new.self.state ≡ next_state (next_state x) = ap (λ (d : Draft). d.state) c.score-score.ensures.next ∙ ap next_state once in
    let same = ap (λ (d : Draft). d.text) c.score-score.ensures.next ∙ ap (λ (d : Draft). d.text) c.age-age.ensures.next in
    let score = c.score-score.ensures.value ∙ ap score_at once in
    let fits : SFits w64 c.score-score.result = search rules in
    let said = rw (to_z-of_z w64 c.score-score.result fits) at c.in_ok-command.ensures in
    let is : made ≡ command.insert c.args.i (age_at x) (score_at (next_state x)) =
    said ∙ (λ k. command.insert c.args.i (c.age-age.ensures.value k) (score k)) in
    on_ok_weaker c.add.result
    (λ adds. behind_draws (insert c.args.i) made c.args.self.now c.score-score.new.self c.add.new.self same (ap (λ (d : Data). d ∷ []) (sym is)) (sym twice) adds)
    c.add.ensures
