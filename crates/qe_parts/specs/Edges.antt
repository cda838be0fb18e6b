-- The written form of edges of ranges, and what documents have of them.
use Rattle.std.specs.Prelude.{◌≡◌, List, [], ◌∷◌, codes, Some}
use Rattle.qe_document.specs.Names.{value_named}
use Rattle.qe_value.specs.declared.value.Plain.{Plain}
use Rattle.qe_value.specs.declared.value.Plain.TheVariants.{Binary, Doc}
use Rattle.qe_ecoc.specs.Forms.{cipher_bytes}
use Rattle.qe_layout.specs.Layouts.{Element}
use Rattle.qe_parts.specs.declared.edges.EdgeTokens.{EdgeTokens}
use Rattle.qe_parts.specs.declared.edges.FindEdge.{FindEdge}

-- the elements of an insert's edge, in written order
abbrev pub edge_elements : EdgeTokens → List Element
edge_elements edge = (codes "d", Binary 0 edge.d) ∷ (codes "s", Binary 0 edge.s) ∷ (codes "l", Binary 0 edge.l) ∷ (codes "p", Binary 0 (cipher_bytes edge.p)) ∷ []

-- the same of a find's
abbrev pub find_edge_elements : FindEdge → List Element
find_edge_elements edge = (codes "d", Binary 0 edge.d) ∷ (codes "s", Binary 0 edge.s) ∷ (codes "l", Binary 0 edge.l) ∷ []

-- the elements have the tokens of an insert's edge, in any order
pub record HasEdge (edge : EdgeTokens) (elements : List Element) : Type 0 where
  pub d : value_named (codes "d") elements ≡ Some (Binary 0 edge.d)
  pub s : value_named (codes "s") elements ≡ Some (Binary 0 edge.s)
  pub l : value_named (codes "l") elements ≡ Some (Binary 0 edge.l)
  pub p : value_named (codes "p") elements ≡ Some (Binary 0 (cipher_bytes edge.p))

-- the same of a find's
pub record HasFindEdge (edge : FindEdge) (elements : List Element) : Type 0 where
  pub d : value_named (codes "d") elements ≡ Some (Binary 0 edge.d)
  pub s : value_named (codes "s") elements ≡ Some (Binary 0 edge.s)
  pub l : value_named (codes "l") elements ≡ Some (Binary 0 edge.l)

-- items are documents that have these, one after another
abbrev pub HasEach : {A : Type 0} → (A → List Element → Type 0) → List A → List Plain → Type 0
HasEach Has [] [] = Unit {0}
HasEach Has [] (item ∷ items) = ⊥
HasEach Has (x ∷ xs) [] = ⊥
HasEach Has (x ∷ xs) (item ∷ items) = ((elements : List Element) × ((item ≡ Doc elements) × Has x elements)) × HasEach Has xs items
