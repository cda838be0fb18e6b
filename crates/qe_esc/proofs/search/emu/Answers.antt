use Rattle.std.proofs.Common.{◌≡◌, ℕ, List, ap, ◌∙◌, subst}
use Rattle.std.specs.FinMap.{get}
use Rattle.qe_esc.specs.Rows.{has}
use Rattle.qe_esc.specs.Identifiers.{id_of, row_after}
use Rattle.qe_esc.specs.Pairs.{pair_of, null_pair, base_behind, base_of}
use Rattle.qe_esc.specs.Boundary.{IsBoundary}
use Rattle.qe_esc.specs.declared.key.RowKind.TheVariants.{Position, Anchor}
use Rattle.qe_esc.proofs.search.emu.Goals as goal

pub returns-clause-found : goal.returns-clause-found
unfolding null_pair base_of
returns-clause-found g c =
    let rows = g.V.RowView.rows c.args.rows.now in
    let token = c.args.token.now.0 in
    let anchors = c.hop-anchors.result in
    let key = c.new-key.ensures in
    let null_is : c.anchor_at-null.result.pair ≡ null_pair rows token = c.anchor_at-null.ensures.pair ∙ ap (λ k. pair_of k (get rows (id_of Anchor k 0))) key in
    let base_is : c.base_behind-base.result ≡ base_of rows token anchors = c.base_behind-base.ensures.base ∙ (λ i. base_behind rows (key i) (null_is i) anchors) in
    record {
      has_null = c.anchor_at-null.ensures.there ∙ ap (λ k. has rows (id_of Anchor k 0)) key;
      null = null_is;
      base = base_is;
      counted = record {
        anchors_end = subst (λ (at : List ℕ × ℕ). IsBoundary (row_after rows Anchor at.0 at.1) anchors) (λ i. (key i, (null_is i).0)) c.hop-anchors.ensures.boundary;
        positions_end = subst (λ (at : List ℕ × ℕ). IsBoundary (row_after rows Position at.0 at.1) c.hop-count.result) (λ i. (key i, base_is i)) c.hop-count.ensures.boundary;
      };
    }
