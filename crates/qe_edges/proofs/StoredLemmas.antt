-- The test of a stored level, and the list of a value's edges that the stored levels make.
use Rattle.std.proofs.Common.{◌≡◌, ℕ, zero, suc, ◌+◌, ◌≤◌, ℤ, Bool, true, false, List, [], ◌∷◌, ◌++◌, map, if◌then◌else◌, inl, inr, refl, sym, subst, add-one, arith}
use Rattle.std.proofs.lemmas.Bool.{both_ways, or_cases, or_left, or_right, and_parts, and_from, cases_eq, ltb-true, leb-true, eqb-true, lt-ltb, le-leb, eq-eqb}
use Rattle.std.proofs.lemmas.List.{append-nil, map-append}
use Rattle.qe_edges.specs.Rules.{Rules, bits_of, IsStored, IsShortestFrom, is_stored, stored_below, TellsStored}
use Rattle.qe_edges.specs.Rules.IsStored.{leaf, between, root}
use Rattle.qe_edges.specs.Prefixes.{Lists, Rises, IsEdgeOf, edges_of, prefix_of, EdgesAreListed, TellsPrefixes}
use Rattle.qe_edges.specs.Rules.{offset_of}
use Rattle.qe_edges.specs.declared.edge.Edge.{Edge}
use Rattle.qe_edges.proofs.ListLemmas.{one_edge_list}
use Rattle.qe_edges.proofs.EdgeLemmas.{IsListed, none_listed, all_listed, next_listed}

-- a level that passes is stored
pub passed-stored : (rules : Rules) (level : ℕ) → is_stored rules level ≡ true → IsStored rules level
passed-stored rules level passed =
    elim (or_cases _ _ passed) [
      | inl more ↦ elim (or_cases _ _ more) [
        | inl whole ↦ leaf (eqb-true _ _ whole)
        | inr parts ↦
            let last = and_parts _ _ parts in
            let third = and_parts _ _ last.0 in
            let second = and_parts _ _ third.0 in
            between (leb-true _ _ second.0) (ltb-true _ _ second.1) (leb-true _ _ third.1) (eqb-true _ _ last.1)
      ]
      | inr none ↦ let parts = and_parts _ _ none in root (eqb-true _ _ parts.0) (eqb-true _ _ parts.1)
    ]

-- a stored level passes
pub stored-passed : (rules : Rules) (level : ℕ) → IsStored rules level → is_stored rules level ≡ true
stored-passed rules level (leaf at) = or_left _ _ (or_left _ _ (eq-eqb _ _ at))
stored-passed rules level (between some short trimmed multiple) = or_left _ _ (or_right _ _
    (and_from _ _ (and_from _ _ (and_from _ _ (le-leb _ _ some) (lt-ltb _ _ short)) (le-leb _ _ trimmed)) (eq-eqb _ _ multiple)))
stored-passed rules level (root none untrimmed) = or_right _ _ (and_from _ _ (eq-eqb _ _ none) (eq-eqb _ _ untrimmed))

pub tells_stored : TellsStored
tells_stored rules level = (passed-stored rules level, stored-passed rules level)

pub tells_prefixes : TellsPrefixes
tells_prefixes rules e = (
  λ passed. let parts = and_parts _ _ passed in (passed-stored rules e.len parts.0, ltb-true _ _ parts.1),
  λ (stored, spelled). and_from _ _ (stored-passed rules e.len stored) (lt-ltb _ _ spelled),
)

-- a level that isn't stored adds no prefix
none_added : (rules : Rules) (number level : ℕ) (edges : List Edge) → IsListed rules number level edges
    → level ≤ bits_of rules → (IsStored rules level → ⊥) → IsListed rules number (suc level) edges
none_added rules number level edges listed within unstored = record {
  members = λ e. (
    λ has. let known = (listed.members e).0 has in (known.0, omega (arith, known.1)),
    λ (edge, short). (listed.members e).1 (
      edge,
      elim (cases_eq e.len level) [
        | inl same ↦ absurd (unstored (subst (IsStored rules) same edge.0))
        | inr other ↦ omega arith
      ],
    ),
  );
  order = listed.order;
  few = let few = listed.few in omega arith;
  within = omega arith;
}

-- a stored level adds its prefix
one_added : (rules : Rules) (number level : ℕ) (edges : List Edge) → IsListed rules number level edges
    → IsStored rules level → IsListed rules number (suc level) (edges ++ prefix_of rules number level ∷ [])
one_added rules number level edges listed stored =
    let here : IsShortestFrom rules level level = record { stored = stored; from = omega arith; below = λ other _ from. from } in
    subst (λ next. IsListed rules number next (edges ++ prefix_of rules number level ∷ [])) (add-one level)
    (next_listed rules number level level edges listed here)

-- what a level adds
level_added : (rules : Rules) (number level : ℕ) (edges : List Edge) → IsListed rules number level edges
    → level ≤ bits_of rules → (stored : Bool) → is_stored rules level ≡ stored
    → IsListed rules number (suc level) (edges ++ map (prefix_of rules number) (if stored then level ∷ [] else []))
level_added rules number level edges listed within true is = one_added rules number level edges listed (passed-stored rules level is)
level_added rules number level edges listed within false is =
    subst (IsListed rules number (suc level)) (sym (append-nil edges))
    (none_added rules number level edges listed within
    (λ stored. both_ways (is_stored rules level) is (stored-passed rules level stored)))

-- the stored levels below a level
levels_listed : (rules : Rules) (number level : ℕ) → level ≤ bits_of rules + 1
    → IsListed rules number level (map (prefix_of rules number) (stored_below rules level))
levels_listed rules number zero within = none_listed rules number
levels_listed rules number (suc level) within =
    let last : List ℕ = if is_stored rules level then level ∷ [] else [] in
    subst (IsListed rules number (suc level)) (sym (map-append (prefix_of rules number) (stored_below rules level) last))
    (level_added rules number level (map (prefix_of rules number) (stored_below rules level))
    (levels_listed rules number level (omega arith)) (omega arith) (is_stored rules level) refl)

pub edges_are_listed : EdgesAreListed
edges_are_listed rules v =
    let listed = levels_listed rules (offset_of rules v) (bits_of rules + 1) (omega arith) in
    (all_listed rules (offset_of rules v) (bits_of rules + 1) _ listed (omega arith), listed.order)

-- a list of the edges, shortest first, is the one that the definition gives
pub exact_edges : (rules : Rules) (v : ℤ) (edges : List Edge) → Lists (IsEdgeOf rules v) edges → Rises (λ e. e.len) edges
    → edges ≡ edges_of rules v
exact_edges rules v edges members order =
    let listed = edges_are_listed rules v in one_edge_list rules v edges (edges_of rules v) members order listed.0 listed.1
