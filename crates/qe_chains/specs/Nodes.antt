-- What a list of nodes says: the key and the two neighbours of each node on each side.
use Rattle.std.specs.Prelude.{◌≡◌, ℕ, ◌<◌, List, [], length, get_or, Option, None, Some, option_map, IfSome, map, ◌+◌}
use Rattle.qe_chains.specs.declared.nodes.Side.{Side}
use Rattle.qe_chains.specs.declared.nodes.Side.TheVariants.{All, Tag, Doc}
use Rattle.qe_chains.specs.declared.nodes.Place.{Place}
use Rattle.qe_chains.specs.declared.nodes.Ends.{Ends}
use Rattle.qe_chains.specs.declared.nodes.Node.{Node}
use Rattle.qe_chains.specs.declared.nodes.Sides.{Sides}
use Rattle.qe_chains.specs.Linked.{Pushes, Takes, walk}

abbrev pub nowhere : Place
nowhere = record { before = None; after = None }

-- the node that is read past the end
abbrev pub blank : Node
blank = record { tag = []; doc = 0; all = nowhere; by_tag = nowhere; by_doc = nowhere }

abbrev pub place_of : Side → Node → Place
place_of All node = node.all
place_of Tag node = node.by_tag
place_of Doc node = node.by_doc

abbrev pub with_place : Side → Node → Place → Node
with_place All node place = record node { all = place }
with_place Tag node place = record node { by_tag = place }
with_place Doc node place = record node { by_doc = place }

abbrev pub node_at : List Node → ℕ → Node
node_at nodes i = get_or nodes i blank

abbrev pub tag_at : List Node → ℕ → List ℕ
tag_at nodes i = (node_at nodes i).tag

abbrev pub doc_at : List Node → ℕ → ℕ
doc_at nodes i = (node_at nodes i).doc

-- the neighbours of a node on a side
abbrev pub after : List Node → Side → ℕ → Option ℕ
after nodes side i = (place_of side (node_at nodes i)).after

abbrev pub before : List Node → Side → ℕ → Option ℕ
before nodes side i = (place_of side (node_at nodes i)).before

abbrev pub first_of : Option Ends → Option ℕ
first_of ends = option_map (λ (e : Ends). e.first) ends

abbrev pub last_of : Option Ends → Option ℕ
last_of ends = option_map (λ (e : Ends). e.last) ends

-- both have the same keys, and the same links on the other sides
pub record SameBut (side : Side) (old new : List Node) : Type 0 where
  pub count : length new ≡ length old
  pub tags : (j : ℕ) → tag_at new j ≡ tag_at old j
  pub docs : (j : ℕ) → doc_at new j ≡ doc_at old j
  pub afters : (other : Side) → (other ≡ side → ⊥) → (j : ℕ) → after new other j ≡ after old other j
  pub befores : (other : Side) → (other ≡ side → ⊥) → (j : ℕ) → before new other j ≡ before old other j

-- the place of one node is written
pub record Writes (side : Side) (at : ℕ) (place : Place) (old new : List Node) : Type 0 where
  pub kept : SameBut side old new
  pub here : place_of side (node_at new at) ≡ place
  pub others : (j : ℕ) → (j ≡ at → ⊥) → place_of side (node_at new j) ≡ place_of side (node_at old j)

-- the link forward of one node, if any, is written
pub record WritesAfter (side : Side) (at : Option ℕ) (to : Option ℕ) (old new : List Node) : Type 0 where
  pub kept : SameBut side old new
  pub here : (j : ℕ) → at ≡ Some j → after new side j ≡ to
  pub others : (j : ℕ) → (at ≡ Some j → ⊥) → after new side j ≡ after old side j
  pub befores : (j : ℕ) → before new side j ≡ before old side j

-- the link back of one node, if any, is written
pub record WritesBefore (side : Side) (at : Option ℕ) (to : Option ℕ) (old new : List Node) : Type 0 where
  pub kept : SameBut side old new
  pub here : (j : ℕ) → at ≡ Some j → before new side j ≡ to
  pub others : (j : ℕ) → (at ≡ Some j → ⊥) → before new side j ≡ before old side j
  pub afters : (j : ℕ) → after new side j ≡ after old side j

abbrev pub PushesAt : Side → ℕ → Option Ends → Option Ends → List Node → List Node → Type 0
PushesAt side at ends ends' old new = Pushes at (after old side) (before old side) (first_of ends) (last_of ends) (after new side) (before new side) (first_of ends') (last_of ends')

abbrev pub TakesAt : Side → ℕ → Option Ends → Option Ends → List Node → List Node → Type 0
TakesAt side at ends ends' old new = Takes at (after old side) (before old side) (first_of ends) (last_of ends) (after new side) (before new side) (first_of ends') (last_of ends')

-- a node comes at the end of the list of a side
pub record Hooks (side : Side) (at : ℕ) (ends ends' : Option Ends) (old new : List Node) : Type 0 where
  pub kept : SameBut side old new
  pub pushes : PushesAt side at ends ends' old new

-- a node is taken out of the list of a side
pub record Unhooks (side : Side) (at : ℕ) (ends ends' : Option Ends) (old new : List Node) : Type 0 where
  pub kept : SameBut side old new
  pub takes : TakesAt side at ends ends' old new

-- the ends of a list once a node in that place has left it
abbrev pub ends_between : Option Ends → Option ℕ → Option ℕ → Option Ends
ends_between None _ _ = None
ends_between (Some ends) None None = None
ends_between (Some ends) None (Some first) = Some (record ends { first = first })
ends_between (Some ends) (Some last) None = Some (record ends { last = last })
ends_between (Some ends) (Some last) (Some first) = Some ends

abbrev pub without : Option Ends → Place → Option Ends
without ends place = ends_between ends place.before place.after

abbrev pub pair_at : List Node → ℕ → List ℕ × ℕ
pair_at nodes i = (tag_at nodes i, doc_at nodes i)

-- the pairs from a node on, along a side
abbrev pub pairs_from : List Node → Side → Option ℕ → List (List ℕ × ℕ)
pairs_from nodes side from = map (pair_at nodes) (walk (after nodes side) (length nodes) from)

-- a node for a pair is taken: a free one, or a new one where there is none
pub record TakesNode (tag : List ℕ) (doc at : ℕ) (old new : List Node) (free free' : Option ℕ) : Type 0 where
  pub tag_is : tag_at new at ≡ tag
  pub doc_is : doc_at new at ≡ doc
  pub others : (j : ℕ) → (j ≡ at → ⊥) → j < length old → node_at new j ≡ node_at old j
  pub again : (f : ℕ) → free ≡ Some f → (at ≡ f) × (free' ≡ after old All f) × (length new ≡ length old)
  pub anew : free ≡ None → (at ≡ length old) × (free' ≡ None) × (length new ≡ length old + 1)

-- a node comes at the end of its three lists
pub record HooksAll (at : ℕ) (ends : Sides (Option Ends)) (ends' : Sides Ends) (old new : List Node) : Type 0 where
  pub count : length new ≡ length old
  pub tags : (j : ℕ) → tag_at new j ≡ tag_at old j
  pub docs : (j : ℕ) → doc_at new j ≡ doc_at old j
  pub all : PushesAt All at ends.all (Some ends'.all) old new
  pub by_tag : PushesAt Tag at ends.by_tag (Some ends'.by_tag) old new
  pub by_doc : PushesAt Doc at ends.by_doc (Some ends'.by_doc) old new

-- the neighbours of a node on each side are nodes
abbrev pub IsInside : ℕ → List Node → Type 0
IsInside at nodes = (side : Side) → IfSome (before nodes side at) (λ i. i < length nodes) × IfSome (after nodes side at) (λ i. i < length nodes)

-- a node is taken out of its three lists
pub record UnhooksAll (at : ℕ) (ends ends' : Sides (Option Ends)) (old new : List Node) : Type 0 where
  pub count : length new ≡ length old
  pub tags : (j : ℕ) → tag_at new j ≡ tag_at old j
  pub docs : (j : ℕ) → doc_at new j ≡ doc_at old j
  pub all : TakesAt All at ends.all ends'.all old new
  pub by_tag : TakesAt Tag at ends.by_tag ends'.by_tag old new
  pub by_doc : TakesAt Doc at ends.by_doc ends'.by_doc old new

-- and put before the free ones
abbrev pub Releases : ℕ → Option ℕ → Sides (Option Ends) → Sides (Option Ends) → List Node → List Node → Type 0
Releases at free ends ends' old new = (between : List Node) × (UnhooksAll at ends ends' old between × WritesAfter All (Some at) free between new)
