use Rattle.std.proofs.Common.{◌≡◌, ◌+◌, ◌*◌, ◌++◌, ℕ, List, Option, get_or, drop, sym, ap, ◌∙◌, arith}
use Rattle.std.proofs.lemmas.List.{get_or_default}
use Rattle.qe_edges.specs.Texts.{text_of}
use Rattle.qe_encodes.specs.Draws.{iv_at}
use Rattle.qe_parts.specs.declared.edges.EdgeTokens.{EdgeTokens}
use Rattle.qe_encodes.specs.Payloads.{item_tokens, leaf_byte, sent_edges}
use Rattle.qe_keyring.specs.Drawing.{Drawing, further}
use Rattle.qe_sending.proofs.EdgeLemmas.{edges_next, edges_end}
use Rattle.qe_sending.proofs.values.edges_sent.Goals as goal

pub loop-edge-preserved : goal.loop-edge-preserved
loop-edge-preserved c =
    let field = c.args.field.now in
    let old = c.args.draws.now in
    let i = c.loop-edge.edge-index in
    let edge = get_or c.args.edges.now i (record { prefix = 0; len = 0 }) in
    let is : edge ≡ get_or c.args.edges.now i edge = get_or_default c.args.edges.now i _ edge c.loop-edge-test.true in
    let at : ℕ → Drawing = λ place. record { stream = old.stream; place = place } in
    let here : c.loop-edge.draws ≡ further old (4 * i) = c.loop-edge.invariant.place in
    record {
      so_far = λ drawn has.
          let iv : c.iv-iv.result ≡ drawn.edge_iv i = c.iv-iv.ensures.iv ∙ ap (λ (d : Drawing). iv_at d.stream d.place) here ∙ sym (has.ivs i) in
          let one : c.edge_tokens.result ≡ item_tokens field.under field.number drawn.factor (text_of edge) (drawn.edge_iv i) (leaf_byte c.args.leaves c.args.domain.now edge) =
          c.edge_tokens.ensures
          ∙ ap (λ (iv : List ℕ). item_tokens field.under field.number c.args.factor (text_of edge) iv c.leaf_byte-leaf.result) iv
          ∙ ap (λ (leaf : Option ℕ). item_tokens field.under field.number c.args.factor (text_of edge) (drawn.edge_iv i) leaf) c.leaf_byte-leaf.ensures
          ∙ ap (λ (factor : ℕ). item_tokens field.under field.number factor (text_of edge) (drawn.edge_iv i) (leaf_byte c.args.leaves c.args.domain.now edge)) (sym has.factor_is) in
          ap (λ (list : List EdgeTokens). list ++ sent_edges field.under c.args.leaves field.number c.args.domain.now drawn (drop (i + 1) c.args.edges.now) (i + 1))
          c.in_ok-push.ensures.ok
          ∙ edges_next field.under c.args.leaves field.number c.args.domain.now drawn c.args.edges.now i edge c.loop-edge.list _ c.edge_tokens.result
          c.loop-edge-test.true is one (c.loop-edge.invariant.so_far drawn has);
      place = c.iv-iv.ensures.next ∙ ap (λ (d : Drawing). further d 4) here ∙ ap at (omega arith);
    }

pub returns-clause-sent : goal.returns-clause-sent
returns-clause-sent c drawn has =
    let field = c.args.field.now in
    edges_end field.under c.args.leaves field.number c.args.domain.now drawn c.args.edges.now c.loop-edge.edge-index c.loop-edge.list _
    c.loop-edge-test.false (c.loop-edge.invariant.so_far drawn has)
