-- What holds of the parts of chains: which nodes stand in the lists, in the order of linking, and which are free.
use Rattle.std.specs.Prelude.{◌≡◌, ℕ, ◌+◌, ◌<◌, ◌≤◌, nat_eq, List, ◌++◌, length, cond, Option, None, bytes_eq, Bool}
use Rattle.qe_chains.specs.declared.nodes.Side.{Side}
use Rattle.qe_chains.specs.declared.nodes.Side.TheVariants.{All, Tag, Doc}
use Rattle.qe_chains.specs.declared.nodes.Ends.{Ends}
use Rattle.qe_chains.specs.declared.nodes.Node.{Node}
use Rattle.qe_chains.specs.Linked.{first_or, Each, Distinct, Follows, IsList, AreLists}
use Rattle.qe_chains.specs.Nodes.{after, before, tag_at, doc_at, first_of, last_of}

-- `order` are the linked nodes, `spares` the free ones; `all`, `tags` and `docs` give the ends of the lists
pub record Sound (nodes : List Node) (all : Option Ends) (free : Option ℕ) (tags : List ℕ → Option Ends) (docs : ℕ → Option Ends) (order spares : List ℕ) : Type 0 where
  pub whole : IsList (after nodes All) (before nodes All) (first_of all) (last_of all) order
  pub spare_links : Follows (after nodes All) spares None
  pub spare_first : free ≡ first_or None spares
  pub apart : Distinct (order ++ spares)
  pub inside : Each (λ i. i < length nodes) (order ++ spares)
  pub count : length order + length spares ≡ length nodes
  pub by_tag : AreLists bytes_eq (tag_at nodes) (after nodes Tag) (before nodes Tag) (λ t. first_of (tags t)) (λ t. last_of (tags t)) order
  pub by_doc : AreLists nat_eq (doc_at nodes) (after nodes Doc) (before nodes Doc) (λ d. first_of (docs d)) (λ d. last_of (docs d)) order

-- for some linked and free nodes
abbrev pub IsSound : List Node → Option Ends → Option ℕ → (List ℕ → Option Ends) → (ℕ → Option Ends) → Type 0
IsSound nodes all free tags docs = (order : List ℕ) × ((spares : List ℕ) × Sound nodes all free tags docs order spares)

-- a table has other ends at one key
abbrev pub Sets : {K : Type 0} → (K → K → Bool) → (K → Option Ends) → (K → Option Ends) → K → Option Ends → Type 0
Sets {K} eq old new key ends = (q : K) → new q ≡ cond (eq key q) ends (old q)

-- the links of a side from a node on are those of a list
pub record Way (nodes : List Node) (side : Side) (from : Option ℕ) (xs : List ℕ) : Type 0 where
  pub starts : from ≡ first_or None xs
  pub follows : Follows (after nodes side) xs None
  pub inside : Each (λ i. i < length nodes) xs
  pub short : length xs ≤ length nodes
