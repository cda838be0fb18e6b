-- Edges that are sent, one after another.
use Rattle.std.proofs.Common.{◌≡◌, ◌<◌, ◌≤◌, ◌+◌, ℕ, Bool, List, [], ◌∷◌, ◌++◌, length, get_or, drop, refl}
use Rattle.qe_edges.specs.declared.edge.Edge.{Edge}
use Rattle.qe_edges.specs.Rules.{Rules}
use Rattle.qe_edges.specs.Texts.{text_of}
use Rattle.qe_parts.specs.declared.edges.EdgeTokens.{EdgeTokens}
use Rattle.qe_labels.specs.Under.{Under}
use Rattle.qe_encodes.specs.Payloads.{Drawn, item_tokens, leaf_byte, sent_edges}
use Rattle.qe_sending.proofs.LoopLemmas.{loop_next, loop_end}

module _ (u : Under) (leaves : Bool) (field : ℕ) (domain : Rules) (drawn : Drawn) where
  one_edge : Edge → ℕ → EdgeTokens
  one_edge edge place = item_tokens u field drawn.factor (text_of edge) (drawn.edge_iv place) (leaf_byte leaves domain edge)

  pub edges_next : (edges : List Edge) (i : ℕ) (edge : Edge) (made whole : List EdgeTokens) (tokens : EdgeTokens) → i < length edges → edge ≡ get_or edges i edge
      → tokens ≡ item_tokens u field drawn.factor (text_of edge) (drawn.edge_iv i) (leaf_byte leaves domain edge)
      → made ++ sent_edges u leaves field domain drawn (drop i edges) i ≡ whole
      → (made ++ tokens ∷ []) ++ sent_edges u leaves field domain drawn (drop (i + 1) edges) (i + 1) ≡ whole
  unfolding one_edge
  edges_next edges i edge made whole tokens less is one so_far =
      loop_next (sent_edges u leaves field domain drawn) one_edge (λ x n. n + 1) (λ x xs n. refl) edges i i (i + 1) edge made whole tokens less is one refl so_far

  pub edges_end : (edges : List Edge) (i : ℕ) (made whole : List EdgeTokens) → length edges ≤ i
      → made ++ sent_edges u leaves field domain drawn (drop i edges) i ≡ whole → made ≡ whole
  unfolding one_edge
  edges_end edges i made whole past so_far =
      loop_end (sent_edges u leaves field domain drawn) one_edge (λ x n. n + 1) (λ x xs n. refl) (λ n. refl) edges i i made whole past so_far
