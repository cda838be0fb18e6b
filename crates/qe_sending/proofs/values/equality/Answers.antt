use Rattle.std.proofs.Common.{None, List, ℕ, ap, ◌∙◌}
use Rattle.qe_encodes.specs.Draws.{drawn_at}
use Rattle.qe_encodes.specs.Payloads.{payload_of}
use Rattle.qe_sending.proofs.values.equality.Goals as goal

pub returns-clause-sent : goal.returns-clause-sent
returns-clause-sent c =
    let field = c.args.field.now in
    let drawn = drawn_at c.args.draws.now.stream c.args.most c.args.draws.now.place in
    c.in_ok-sent.ensures drawn c.own_draws-own.ensures.own
    ∙ ap (λ (bytes : List ℕ). payload_of field.under field.number c.args.kept.0 c.args.kept.1 drawn bytes None) (c.slice.ensures ∙ c.in_ok-bytes.ensures)
