-- The list of a string's stored prefixes, level by level.
use Rattle.std.proofs.Common.{◌≡◌, ℕ, ◌+◌, ◌/◌, ◌^◌, ◌<◌, ◌≤◌, List, [], ◌∷◌, ◌++◌, length, get_or, inl, inr, refl, ap, ◌∙◌, subst, arith}
use Rattle.std.specs.List.{All, Contains}
use Rattle.std.proofs.lemmas.Bool.{cases_lt}
use Rattle.std.proofs.lemmas.List.{length_push}
use Rattle.std.proofs.lemmas.List.Elements.{Contains-push, Contains-push_cases, Contains-append_left, Contains-get_or}
use Rattle.std.proofs.lemmas.List.Quantifiers.{all_pairs_push}
use Rattle.qe_edges.specs.Rules.{Rules, bits_of, IsStored, IsShortestFrom}
use Rattle.qe_edges.specs.Prefixes.{Lists, Rises, Begins, IsSpelled}
use Rattle.qe_edges.specs.declared.edge.Edge.{Edge}
use Rattle.qe_edges.proofs.LevelLemmas.{stored-le, bits_of-le}
use Rattle.qe_edges.proofs.BlockLemmas.{size_at, same_edge, prefix_fits}
use Rattle.qe_edges.proofs.ListLemmas.{all_members}

-- a prefix of the string of a number, at a stored level
abbrev pub IsPrefixOf : Rules → ℕ → Edge → Type 0
IsPrefixOf rules number e = IsStored rules e.len × Begins rules e number

-- the list has those of fewer digits, in order
pub record IsListed (rules : Rules) (number : ℕ) (level : ℕ) (edges : List Edge) : Type 0 where
  pub members : Lists (λ e. IsPrefixOf rules number e × (e.len < level)) edges
  pub order : Rises (λ e. e.len) edges
  pub few : length edges ≤ level
  pub within : level ≤ bits_of rules + 1

pub none_listed : (rules : Rules) (number : ℕ) → IsListed rules number 0 []
none_listed rules number = record {
  members = λ e. (λ has. absurd (omega (arith, has.1)), λ (_, short). absurd (omega arith));
  order = λ i j d less within. absurd (omega (arith, within));
  few = omega arith;
  within = omega arith;
}

-- at the end it is the whole list
pub all_listed : (rules : Rules) (number : ℕ) (level : ℕ) (edges : List Edge) → IsListed rules number level edges
    → bits_of rules < level → Lists (IsPrefixOf rules number) edges
all_listed rules number level edges listed over e = (
  λ has. ((listed.members e).0 has).0,
  λ edge. (listed.members e).1 (edge, let le = stored-le rules e.len edge.0 in omega arith),
)

pub few_listed : (rules : Rules) (number : ℕ) (level : ℕ) (edges : List Edge) → IsListed rules number level edges
    → length edges ≤ 65
few_listed rules number level edges listed =
    let most = bits_of-le rules in
    let few = listed.few in
    let within = listed.within in
    omega arith

-- the prefix at the shortest stored level from there on is the next
pub next_listed : (rules : Rules) (number : ℕ) (level len : ℕ) (edges : List Edge) → IsListed rules number level edges
    → IsShortestFrom rules level len
    → let new : Edge = record { prefix = number / size_at rules len; len = len } in IsListed rules number (len + 1) (edges ++ new ∷ [])
next_listed rules number level len edges listed found =
    let new : Edge = record { prefix = number / size_at rules len; len = len } in
    let from = found.from in
    record {
      members = λ e. (
        λ has. elim (Contains-push_cases edges new e has) [
          | inl old ↦ let known = (listed.members e).0 old in (known.0, omega (arith, known.1))
          | inr same ↦ subst (λ f. IsPrefixOf rules number f × (f.len < len + 1)) same ((found.stored, refl), omega arith)
        ],
        λ (edge, short). elim (cases_lt e.len level) [
          | inl old ↦ Contains-append_left edges (new ∷ []) e ((listed.members e).1 (edge, old))
          | inr above ↦
              let le = found.below e.len edge.0 above in
              let lengths : len ≡ e.len = omega arith in
              let same = same_edge new e (ap (λ l. number / size_at rules l) lengths ∙ edge.1) lengths in
              subst (Contains (edges ++ new ∷ [])) same (Contains-push edges new)
        ],
      );
      order = all_pairs_push (λ e f. e.len < f.len) edges new listed.order
          (λ k d within.
          let known = (listed.members (get_or edges k d)).0 (Contains-get_or edges k d within) in
          omega (arith, known.1));
      few = let old = listed.few in omega (arith, length_push edges new);
      within = let le = stored-le rules len found.stored in omega arith;
    }

-- its prefixes are spelled
pub all_spelled : (rules : Rules) (number level : ℕ) (edges : List Edge) → IsListed rules number level edges
    → number < 2 ^ bits_of rules → All IsSpelled edges
all_spelled rules number level edges listed fits = all_members IsSpelled edges (λ e has.
    let known = ((listed.members e).0 has).0 in
    let le = stored-le rules e.len known.0 in
    let most = bits_of-le rules in
    (omega arith, prefix_fits rules e number le fits known.1))
