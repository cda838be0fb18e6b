-- The cover that the walk over an interval builds.
use Rattle.std.proofs.Common.{ℕ, ◌-◌, ◌^◌, ◌<◌, ◌≤◌, List, [], arith}
use Rattle.std.specs.List.{All}
use Rattle.std.proofs.lemmas.Nat.{pow_pos}
use Rattle.qe_edges.specs.Rules.{Rules, bits_of, IsStored}
use Rattle.qe_edges.specs.Prefixes.{Lists, Rises, Begins, lowest_of, IsInside, IsCoverPrefix, IsSpelled}
use Rattle.qe_edges.specs.Walk.{Between}
use Rattle.qe_edges.specs.declared.edge.Edge.{Edge}
use Rattle.qe_edges.proofs.LevelLemmas.{stored-le, bits_of-le}
use Rattle.qe_edges.proofs.BlockLemmas.{begins_between, between_begins}
use Rattle.qe_edges.proofs.ListLemmas.{all_members}
use Rattle.qe_edges.proofs.CoverLemmas.{lowest_inside}

-- no stored block inside the interval reaches over a number from below
abbrev pub IsBoundary : Rules → ℕ → ℕ → ℕ → Type 0
IsBoundary rules first end at =
    (f : Edge) → IsStored rules f.len → IsInside rules (Between first end) f → Begins rules f at → at ≤ lowest_of rules f

-- the walk came so far: the items are the cover's prefixes whose blocks begin below, in order
pub record IsWalked (rules : Rules) (first end at : ℕ) (items : List Edge) : Type 0 where
  pub started : first ≤ at
  pub members : Lists (λ e. IsCoverPrefix rules (Between first end) e × (lowest_of rules e < at)) items
  pub boundary : at < end → IsBoundary rules first end at
  pub order : Rises (lowest_of rules) items

-- at the start there is none
pub walk_starts : (rules : Rules) (first end : ℕ) → end ≤ 2 ^ bits_of rules → IsWalked rules first end first []
walk_starts rules first end fits = record {
  started = omega arith;
  members = λ e. (
    λ has. absurd (omega (arith, has.1)),
    λ (in_e, below). absurd
        (omega (arith, (lowest_inside rules (Between first end) e in_e).0)),
  );
  boundary = λ less f stored inside begins.
      let between = begins_between rules f first begins in
      let size = pow_pos (bits_of rules - f.len) in
      (inside (lowest_of rules f) (omega arith) (between_begins rules f (lowest_of rules f) (omega arith) (omega arith))).0;
  order = λ i j d less within. absurd (omega (arith, within));
}

-- at the end they are the cover
pub walk_ends : (rules : Rules) (first end at : ℕ) (items : List Edge) → IsWalked rules first end at items → end ≤ at
    → Lists (IsCoverPrefix rules (Between first end)) items
walk_ends rules first end at items walked over e = (
  λ has. ((walked.members e).0 has).0,
  λ in_e. (walked.members e).1 (in_e, let low = (lowest_inside rules (Between first end) e in_e).1 in omega arith),
)

-- and are spelled
pub walk_spells : (rules : Rules) (first end at : ℕ) (items : List Edge) → IsWalked rules first end at items
    → All IsSpelled items
walk_spells rules first end at items walked = all_members IsSpelled items (λ e has.
    let known = ((walked.members e).0 has).0 in
    let le = stored-le rules e.len known.stored in
    let most = bits_of-le rules in
    (omega arith, known.spelled))
