use Rattle.std.proofs.Common.{◌≡◌, ◌∙◌, ◌+◌, ◌-◌, sym, arith, ap, take, drop, length}
use Rattle.std.proofs.lemmas.Grind.{common_steps}
use Rattle.std.specs.Prelude.{option_map}
use Rattle.qe_base.proofs.LineLemmas.{first_of_more, first_of_one}
use Rattle.qe_base.proofs.lines.Lines.next_line.Goals as goal

pub returns-in-Some-clause-next : goal.returns-in-Some-clause-next
returns-in-Some-clause-next c =
    let text = c.in_ok-rest.rest.now in
    let behind = c.in-Some.end + 1 in
    let rest : drop behind text ≡ take (length text - behind) (drop behind text) = grind (arith, common_steps) in
    sym c.self.view_is
    ∙ first_of_more c.self.inside.passed c.in-Some.end _ text _ (ap (option_map (λ rest. rest.now)) c.in_ok-rest.was) (sym c.in-Some.ensures) rest

pub returns-in-None-clause-next : goal.returns-in-None-clause-next
returns-in-None-clause-next c =
    sym c.self.view_is
    ∙ first_of_one c.self.inside.passed _ c.in_ok-rest.rest.now (ap (option_map (λ rest. rest.now)) c.in_ok-rest.was) (sym c.in-None.ensures)
