use Rattle.std.proofs.Common.{◌+◌, ◌*◌, Some, List, ℕ, sym, ap, ap₂, ◌∙◌}
use Rattle.qe_parts.specs.declared.edges.EdgeTokens.{EdgeTokens}
use Rattle.qe_encodes.specs.Draws.{drawn_at, iv_at}
use Rattle.qe_encodes.specs.Payloads.{payload_of}
use Rattle.qe_keyring.specs.Drawing.{Drawing}
use Rattle.qe_sending.specs.Drawn.{HasEdgeDraws}
use Rattle.qe_sending.proofs.values.range.Goals as goal

pub returns-clause-sent : goal.returns-clause-sent
returns-clause-sent c =
    let field = c.args.field.now in
    let drawn = drawn_at c.args.draws.now.stream c.args.most c.args.draws.now.place in
    let own = c.own_draws-own.ensures.own in
    let has : HasEdgeDraws drawn c.own_draws-own.result.factor c.own_draws-own.new.draws = record {
      factor_is = own.factor;
      ivs = λ edge. ap (λ (d : Drawing). iv_at d.stream (d.place + 4 * edge)) (sym c.own_draws-own.ensures.next);
    } in
    c.in_ok-sent.ensures drawn own
    ∙ ap₂ (λ (bytes : List ℕ) (edges : List EdgeTokens). payload_of field.under field.number c.args.kept.0 c.args.kept.1 drawn bytes (Some edges))
    (c.slice.ensures ∙ c.in_ok-bytes.ensures) (c.in_ok-edges.ensures.sent drawn has)
