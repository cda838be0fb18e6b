-- Searches: each edge under each factor, in order.
use Rattle.std.proofs.Common.{◌≡◌, ℕ, ◌+◌, ◌*◌, ◌<◌, ◌≤◌, List, [], ◌∷◌, ◌++◌, length, Some, refl, ap, ◌∙◌, arith, zero, suc, length-append}
use Rattle.std.proofs.lemmas.Option.{slice_get_within}
use Rattle.std.specs.Prelude.{nat_abs, slice_get}
use Rattle.qe_parts.specs.declared.edges.FindEdge.{FindEdge}
use Rattle.qe_protocol.specs.Filters.{Search, search_of, factor_searches, edge_searches}
use Rattle.qe_protocol.specs.Laws.{SearchesAllFactors}

length-factor_searches : (edge : FindEdge) (factor more : ℕ) → length (factor_searches edge factor more) ≡ more
length-factor_searches edge factor zero = refl
length-factor_searches edge factor (suc more) = omega (arith, length-factor_searches edge (factor + 1) more)

length-edge_searches : (edges : List FindEdge) (greatest : ℕ) → length (edge_searches edges greatest) ≡ length edges * (greatest + 1)
length-edge_searches [] greatest = omega arith
length-edge_searches (edge ∷ edges) greatest =
    let split = length-append (factor_searches edge 0 (greatest + 1)) (edge_searches edges greatest) in
    let first = length-factor_searches edge 0 (greatest + 1) in
    let rest = length-edge_searches edges greatest in
    grind (arith, split, first, rest)

at_factor : (edge : FindEdge) (factor more place : ℕ) (others : List Search) → place < more
    → slice_get (factor_searches edge factor more ++ others) place ≡ Some (search_of edge (factor + place))
at_factor edge factor zero place others small = absurd (omega (arith, small))
at_factor edge factor (suc more) zero others small =
    let same : factor ≡ factor + 0 = omega arith in ap (λ n. Some (search_of edge n)) same
at_factor edge factor (suc more) (suc place) others small =
    let same : factor + 1 + place ≡ factor + suc place = omega arith in
    at_factor edge (factor + 1) more place others (omega (arith, small)) ∙ ap (λ n. Some (search_of edge n)) same

behind_factors : (edge : FindEdge) (factor more place : ℕ) (others : List Search)
    → slice_get (factor_searches edge factor more ++ others) (more + place) ≡ slice_get others place
behind_factors edge factor zero place others =
    let same : 0 + place ≡ place = omega arith in ap (slice_get others) same
behind_factors edge factor (suc more) place others =
    let same : suc more + place ≡ suc (more + place) = omega arith in
    ap (slice_get (factor_searches edge factor (suc more) ++ others)) same ∙ behind_factors edge (factor + 1) more place others

at_edge : (edges : List FindEdge) (greatest place factor : ℕ) (edge : FindEdge) → slice_get edges place ≡ Some edge → factor ≤ greatest
    → slice_get (edge_searches edges greatest) (place * (greatest + 1) + factor) ≡ Some (search_of edge factor)
at_edge [] greatest place factor edge is small = absurd (omega (arith, slice_get_within [] place edge is))
at_edge (first ∷ edges) greatest zero factor edge is small =
    let same : first ≡ edge = cc in
    let begins : 0 * (greatest + 1) + factor ≡ factor = omega arith in
    let from : 0 + factor ≡ factor = omega arith in
    ap (slice_get (edge_searches (first ∷ edges) greatest)) begins
    ∙ at_factor first 0 (greatest + 1) factor (edge_searches edges greatest) (omega (arith, small))
    ∙ (λ i. Some (search_of (same i) (from i)))
at_edge (first ∷ edges) greatest (suc place) factor edge is small =
    let behind : suc place * (greatest + 1) + factor ≡ (greatest + 1) + (place * (greatest + 1) + factor) = grind arith in
    ap (slice_get (edge_searches (first ∷ edges) greatest)) behind
    ∙ behind_factors first 0 (greatest + 1) (place * (greatest + 1) + factor) (edge_searches edges greatest)
    ∙ at_edge edges greatest place factor edge is small

pub searches_all : SearchesAllFactors
searches_all = record {
  equal_at = λ field payload factor small.
      let edge : FindEdge = record { d = payload.d; s = payload.s; l = payload.l } in
      let greatest = nat_abs payload.cm in
      let begins : factor ≡ 0 * (greatest + 1) + factor = omega arith in
      ap (slice_get (edge_searches (edge ∷ []) greatest)) begins ∙ at_edge (edge ∷ []) greatest 0 factor edge refl small;
  range_at = λ field payload edge place factor is small. at_edge payload.g (nat_abs payload.cm) place factor edge is small;
  equal = λ field payload.
      let edge : FindEdge = record { d = payload.d; s = payload.s; l = payload.l } in
      let each : length (edge_searches (edge ∷ []) (nat_abs payload.cm)) ≡ 1 * (nat_abs payload.cm + 1) = length-edge_searches (edge ∷ []) (nat_abs payload.cm) in
      omega (arith, each);
  range = λ field payload. length-edge_searches payload.g (nat_abs payload.cm);
}
