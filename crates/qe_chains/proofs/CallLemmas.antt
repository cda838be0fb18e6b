-- What each call of `Chains` needs and owes, from the lemmas on its steps.
use Rattle.std.proofs.Common.{◌≡◌, ◌≢◌, ◌<◌, ◌+◌, ◌-◌, ◌≤◌, min, max, ℕ, nat_eq, bytes_eq, List, [], ◌∷◌, ◌++◌, length, take, drop, IfSome, Option, None, Some, sym, ◌∙◌, ap, subst, arith}
use Rattle.std.proofs.Math.Nat.{min-le_left, min-le_right, le-min}
use Rattle.std.proofs.Math.Seq.{take-append_seam}
use Rattle.qe_chains.specs.declared.nodes.Side.{Side}
use Rattle.qe_chains.specs.declared.nodes.Side.TheVariants.{All}
use Rattle.qe_chains.specs.declared.nodes.Ends.{Ends}
use Rattle.qe_chains.specs.declared.nodes.Node.{Node}
use Rattle.qe_chains.specs.declared.nodes.Sides.{Sides}
use Rattle.qe_chains.specs.Linked.{first_or, last_or, Each, those}
use Rattle.qe_chains.specs.Nodes.{tag_at, doc_at, first_of, last_of, pairs_from, TakesNode, HooksAll, Releases, IsInside}
use Rattle.qe_chains.specs.Pairs.{of_others}
use Rattle.qe_chains.specs.Sound.{Sound, IsSound, Sets, Way}
use Rattle.qe_chains.proofs.LinkLemmas.{each_both, each_left, last_among, apart_middle}
use Rattle.qe_chains.proofs.KeyLemmas.{each_filter}
use Rattle.qe_chains.proofs.TableLemmas.{pairs_count}
use Rattle.qe_chains.proofs.LinkedLemmas.{Took, took, linked, linked_pairs, linked_nodes}
use Rattle.qe_chains.proofs.UnlinkedLemmas.{at_inside, all_there, tag_there, doc_there, is_inside, unlinked, fewer, others_same, found, none_left, Found}

-- a slice of a whole vector, written back
pub put_back : (len : ℕ) (old new : List Node) → length new ≡ len → take len (new ++ drop (length new) old) ≡ new
put_back len old new e = subst (λ n. take n (new ++ drop (length new) old) ≡ new) e (take-append_seam new (drop (length new) old))

-- ROOM

pub room_parts : (k a b c : ℕ) → k ≤ min a (min b c) → (k ≤ a) × (k ≤ b) × (k ≤ c)
room_parts k a b c le = let x = min-le_left a (min b c) in let y = min-le_right a (min b c) in let z = min-le_left b c in let w = min-le_right b c in
    (omega arith, omega arith, omega arith)

pub room_is : (k a b c : ℕ) → k ≤ a → k ≤ b → k ≤ c → k ≤ min a (min b c)
room_is k a b c x y z = le-min x (le-min y z)

pub room_stays : (a b c a' b' c' : ℕ) → a ≤ a' → b ≤ b' → c ≤ c' → min a (min b c) ≤ min a' (min b' c')
room_stays a b c a' b' c' x y z =
    let parts = room_parts (min a (min b c)) a b c (omega arith) in
    room_is (min a (min b c)) a' b' c' (omega (arith, parts.0)) (omega (arith, parts.1)) (omega (arith, parts.2))

pub room_falls : (a b c a' b' c' : ℕ) → a ≤ a' + 1 → b ≤ b' + 1 → c ≤ c' + 1 → min a (min b c) ≤ min a' (min b' c') + 1
room_falls a b c a' b' c' x y z =
    let m = min a (min b c) in
    let parts = room_parts m a b c (omega arith) in
    let low : m - 1 ≤ min a' (min b' c') = room_is (m - 1) a' b' c' (omega (arith, parts.0)) (omega (arith, parts.1)) (omega (arith, parts.2)) in
    omega arith

module _ (nodes : List Node) (all : Option Ends) (free : Option ℕ) (tags : List ℕ → Option Ends) (docs : ℕ → Option Ends) (stands : IsSound nodes all free tags docs) where
  sound : Sound nodes all free tags docs stands.0 stands.1.0
  sound = stands.1.1

  order : List ℕ
  order = stands.0

  -- no more pairs than nodes
  pub pairs_short : length (pairs_from nodes All (first_of all)) ≤ length nodes
  pairs_short = let n = pairs_count nodes all free tags docs stands.0 stands.1.0 sound in omega (arith, n, stands.1.1.count)

  -- the first free node is a node
  pub free_inside : (n : ℕ) → n ≡ length nodes → IfSome free (λ i. i < n)
  free_inside n e = subst (λ n. IfSome free (λ i. i < n)) (sym e) (subst (λ o. IfSome o (λ i. i < length nodes)) (sym stands.1.1.spare_first) (from stands.1.0 (each_behind stands.0 stands.1.0 stands.1.1.inside)))
    where
      each_behind : (xs ys : List ℕ) → Each (λ i. i < length nodes) (xs ++ ys) → Each (λ i. i < length nodes) ys
      each_behind [] ys h = h
      each_behind (x ∷ xs) ys h = each_behind xs ys h.1

      from : (ys : List ℕ) → Each (λ i. i < length nodes) ys → IfSome (first_or None ys) (λ i. i < length nodes)
      from [] h = tt
      from (y ∷ ys) h = h.0

  -- without a free node each node has a pair
  pub all_used : free ≡ None → length (pairs_from nodes All (first_of all)) ≡ length nodes
  all_used e = pairs_count nodes all free tags docs stands.0 stands.1.0 stands.1.1 ∙ used stands.1.0 (sym stands.1.1.spare_first ∙ e) stands.1.1.count
    where
      used : (ys : List ℕ) → first_or None ys ≡ None → length stands.0 + length ys ≡ length nodes → length stands.0 ≡ length nodes
      used [] e count = omega arith
      used (y ∷ ys) e count = absurd (some_none y e)
        where
          some_none : (y : ℕ) → Some y ≡ None → ⊥
          some_none y e = cc

  module _ (tag : List ℕ) (doc at : ℕ) (n1 : List Node) (free' : Option ℕ) (takes : TakesNode tag doc at nodes n1 free free') where
    spares' : List ℕ
    spares' = (took tag doc at nodes n1 all free free' tags docs stands.0 stands.1.0 stands.1.1 takes).0

    took_here : Took nodes n1 free' at stands.0 (took tag doc at nodes n1 all free free' tags docs stands.0 stands.1.0 stands.1.1 takes).0
    took_here = (took tag doc at nodes n1 all free free' tags docs stands.0 stands.1.0 stands.1.1 takes).1

    members : Each (λ i. (i < length n1) × (i ≡ at → ⊥)) stands.0
    members = each_both (λ i. i < length n1) (λ i. i ≡ at → ⊥) stands.0 (each_left (λ i. i < length n1) stands.0 (at ∷ (took tag doc at nodes n1 all free free' tags docs stands.0 stands.1.0 stands.1.1 takes).0) took_here.inside)
        (apart_middle at stands.0 (took tag doc at nodes n1 all free free' tags docs stands.0 stands.1.0 stands.1.1 takes).0 took_here.apart)

    -- the last of a list is a node, and another one
    ready : (e : Option Ends) (xs : List ℕ) → last_of e ≡ last_or None xs → Each (λ i. (i < length n1) × (i ≡ at → ⊥)) xs → IfSome e (λ e. (e.last < length n1) × (e.last ≢ at))
    ready None xs is each = tt
    ready (Some e) xs is each = last_among (λ i. (i < length n1) × (i ≡ at → ⊥)) xs each e.last (sym is)

    pub all_ready : IfSome all (λ e. (e.last < length n1) × (e.last ≢ at))
    all_ready = ready all stands.0 stands.1.1.whole.ends members

    pub tag_ready : (e : Option Ends) → e ≡ tags tag → IfSome e (λ e. (e.last < length n1) × (e.last ≢ at))
    tag_ready e is = subst (λ e. IfSome e (λ e. (e.last < length n1) × (e.last ≢ at))) (sym is)
        (ready (tags tag) (those bytes_eq (tag_at nodes) tag stands.0) (stands.1.1.by_tag tag).ends (each_filter (λ i. (i < length n1) × (i ≡ at → ⊥)) (λ j. bytes_eq tag (tag_at nodes j)) stands.0 members))

    pub doc_ready : (e : Option Ends) → e ≡ docs doc → IfSome e (λ e. (e.last < length n1) × (e.last ≢ at))
    doc_ready e is = subst (λ e. IfSome e (λ e. (e.last < length n1) × (e.last ≢ at))) (sym is)
        (ready (docs doc) (those nat_eq (doc_at nodes) doc stands.0) (stands.1.1.by_doc doc).ends (each_filter (λ i. (i < length n1) × (i ≡ at → ⊥)) (λ j. nat_eq doc (doc_at nodes j)) stands.0 members))

    -- what `link` owes
    pub record IsLinked (n2 : List Node) (all' : Option Ends) (tags' : List ℕ → Option Ends) (docs' : ℕ → Option Ends) : Type 0 where
      pub stands' : IsSound n2 all' free' tags' docs'
      pub pairs : pairs_from n2 All (first_of all') ≡ pairs_from nodes All (first_of all) ++ (tag, doc) ∷ []
      pub count : length n2 ≡ max (length nodes) (length (pairs_from n2 All (first_of all')))

    pub is_linked : (n2 : List Node) (ends : Sides (Option Ends)) (ends' : Sides Ends) (tags' : List ℕ → Option Ends) (docs' : ℕ → Option Ends) → HooksAll at ends ends' n1 n2
        → ends.all ≡ all → ends.by_tag ≡ tags tag → ends.by_doc ≡ docs doc → Sets bytes_eq tags tags' tag (Some ends'.by_tag) → Sets nat_eq docs docs' doc (Some ends'.by_doc)
        → IsLinked n2 (Some ends'.all) tags' docs'
    is_linked n2 ends ends' tags' docs' hooks a t d st sd =
        let s' = (took tag doc at nodes n1 all free free' tags docs stands.0 stands.1.0 stands.1.1 takes).0 in
        record {
          stands' = (stands.0 ++ at ∷ [], (s', linked tag doc at nodes n1 n2 all free free' tags tags' docs docs' ends ends' stands.0 stands.1.0 s' stands.1.1 took_here takes.tag_is takes.doc_is hooks a t d st sd));
          pairs = linked_pairs tag doc at nodes n1 n2 all free free' tags tags' docs docs' ends ends' stands.0 stands.1.0 s' stands.1.1 took_here takes.tag_is takes.doc_is hooks a t d st sd;
          count = linked_nodes tag doc at nodes n1 n2 all free free' tags tags' docs docs' ends ends' stands.0 stands.1.0 s' stands.1.1 took_here takes.tag_is takes.doc_is hooks a t d st sd;
        }

  module _ (doc at : ℕ) (first : first_of (docs doc) ≡ Some at) where
    place : Found nodes all free tags docs stands.0 stands.1.0 stands.1.1 doc at
    place = found nodes all free tags docs stands.0 stands.1.0 stands.1.1 doc at first

    cut : Sound nodes all free tags docs (place.front ++ at ∷ place.back) stands.1.0
    cut = subst (λ xs. Sound nodes all free tags docs xs stands.1.0) place.cut stands.1.1

    -- what `unlink_first` needs
    pub record CanUnlink (tag : List ℕ) : Type 0 where
      pub at_in : at < length nodes
      pub neighbours_in : IsInside at nodes
      pub has_all : all ≢ None
      pub has_tag : tags tag ≢ None
      pub has_doc : docs doc ≢ None

    pub can_unlink : (tag : List ℕ) → tag_at nodes at ≡ tag → CanUnlink tag
    can_unlink tag is = record {
      at_in = at_inside nodes all free tags docs at place.front place.back stands.1.0 cut;
      neighbours_in = is_inside nodes all free tags docs at place.front place.back stands.1.0 cut;
      has_all = all_there nodes all free tags docs at place.front place.back stands.1.0 cut;
      has_tag = subst (λ t. tags t ≢ None) is (tag_there nodes all free tags docs at place.front place.back stands.1.0 cut);
      has_doc = subst (λ d. docs d ≢ None) place.doc_is (doc_there nodes all free tags docs at place.front place.back stands.1.0 cut);
    }

    -- what it owes
    pub record IsUnlinked (new : List Node) (all' : Option Ends) (tags' : List ℕ → Option Ends) (docs' : ℕ → Option Ends) : Type 0 where
      pub stands' : IsSound new all' (Some at) tags' docs'
      pub others : of_others doc (pairs_from new All (first_of all')) ≡ of_others doc (pairs_from nodes All (first_of all))
      pub less : length (pairs_from nodes All (first_of all)) ≡ length (pairs_from new All (first_of all')) + 1
      pub count : length new ≡ length nodes

    pub is_unlinked : (new : List Node) (tag : List ℕ) (ends left : Sides (Option Ends)) (tags' : List ℕ → Option Ends) (docs' : ℕ → Option Ends) → tag_at nodes at ≡ tag → Releases at free ends left nodes new
        → ends.all ≡ all → ends.by_tag ≡ tags tag → ends.by_doc ≡ docs doc → Sets bytes_eq tags tags' tag left.by_tag → Sets nat_eq docs docs' doc left.by_doc
        → IsUnlinked new left.all tags' docs'
    is_unlinked new tag ends left tags' docs' is r a t d st sd =
        let t' : ends.by_tag ≡ tags (tag_at nodes at) = t ∙ ap tags (sym is) in
        let d' : ends.by_doc ≡ docs (doc_at nodes at) = d ∙ ap docs (sym place.doc_is) in
        let st' : Sets bytes_eq tags tags' (tag_at nodes at) left.by_tag = subst (λ k. Sets bytes_eq tags tags' k left.by_tag) (sym is) st in
        let sd' : Sets nat_eq docs docs' (doc_at nodes at) left.by_doc = subst (λ k. Sets nat_eq docs docs' k left.by_doc) (sym place.doc_is) sd in
        record {
          stands' = (place.front ++ place.back, (at ∷ stands.1.0, unlinked nodes all free tags docs at place.front place.back stands.1.0 cut r.0 new tags' docs' ends left r.1.0 r.1.1 a t' d' st' sd'));
          others = subst (λ k. of_others k (pairs_from new All (first_of left.all)) ≡ of_others k (pairs_from nodes All (first_of all))) place.doc_is
              (others_same nodes all free tags docs at place.front place.back stands.1.0 cut r.0 new tags' docs' ends left r.1.0 r.1.1 a t' d' st' sd');
          less = fewer nodes all free tags docs at place.front place.back stands.1.0 cut r.0 new tags' docs' ends left r.1.0 r.1.1 a t' d' st' sd';
          count = r.1.1.kept.count ∙ r.1.0.count;
        }

  -- a document without a first node has no pair
  pub has_none : (doc : ℕ) → first_of (docs doc) ≡ None → of_others doc (pairs_from nodes All (first_of all)) ≡ pairs_from nodes All (first_of all)
  has_none doc e = none_left nodes all free tags docs stands.0 stands.1.0 stands.1.1 doc e

-- other tables with the same ends serve as well
pub same_tables : (nodes : List Node) (all : Option Ends) (free : Option ℕ) (tags tags' : List ℕ → Option Ends) (docs docs' : ℕ → Option Ends) → IsSound nodes all free tags docs
    → ((q : List ℕ) → tags' q ≡ tags q) → ((q : ℕ) → docs' q ≡ docs q) → IsSound nodes all free tags' docs'
same_tables nodes all free tags tags' docs docs' stands t d =
    let s = stands.1.1 in (
      stands.0,
      (
        stands.1.0,
        record {
          whole = s.whole;
          spare_links = s.spare_links;
          spare_first = s.spare_first;
          apart = s.apart;
          inside = s.inside;
          count = s.count;
          by_tag = λ k. record { follows = (s.by_tag k).follows; precedes = (s.by_tag k).precedes; starts = ap first_of (t k) ∙ (s.by_tag k).starts; ends = ap last_of (t k) ∙ (s.by_tag k).ends };
          by_doc = λ k. record { follows = (s.by_doc k).follows; precedes = (s.by_doc k).precedes; starts = ap first_of (d k) ∙ (s.by_doc k).starts; ends = ap last_of (d k) ∙ (s.by_doc k).ends };
        },
      ),
    )

-- a list read behind equal names
pub way_at : (items now : List Node) (side : Side) (from at : Option ℕ) (xs : List ℕ) → now ≡ items → at ≡ from → Way items side from xs → (ys : List ℕ) × Way now side at ys
way_at items now side from at xs n a way = (xs, subst (λ m. Way m side at xs) (sym n) (subst (λ o. Way items side o xs) (sym a) way))

-- `link` as its code goes: the nodes are lent as a slice and written back
pub link_done : (nodes : List Node) (all : Option Ends) (free : Option ℕ) (tags : List ℕ → Option Ends) (docs : ℕ → Option Ends) (stands : IsSound nodes all free tags docs)
    (tag : List ℕ) (doc at : ℕ) (n1 : List Node) (free' : Option ℕ) (takes : TakesNode tag doc at nodes n1 free free') (len : ℕ) (lent n2 : List Node) (ends : Sides (Option Ends)) (ends' : Sides Ends) (tags' : List ℕ → Option Ends) (docs' : ℕ → Option Ends)
    → len ≡ length n1 → lent ≡ n1 → HooksAll at ends ends' lent n2 → ends.all ≡ all → ends.by_tag ≡ tags tag → ends.by_doc ≡ docs doc → Sets bytes_eq tags tags' tag (Some ends'.by_tag) → Sets nat_eq docs docs' doc (Some ends'.by_doc)
    → IsLinked nodes all free tags docs stands tag doc at n1 free' takes (take len (n2 ++ drop (length n2) n1)) (Some ends'.all) tags' docs'
link_done nodes all free tags docs stands tag doc at n1 free' takes len lent n2 ends ends' tags' docs' l e hooks a t d st sd =
    let hooks' : HooksAll at ends ends' n1 n2 = subst (λ m. HooksAll at ends ends' m n2) e hooks in
    subst (λ m. IsLinked nodes all free tags docs stands tag doc at n1 free' takes m (Some ends'.all) tags' docs') (sym (put_back len n1 n2 (hooks'.count ∙ sym l)))
    (is_linked nodes all free tags docs stands tag doc at n1 free' takes n2 ends ends' tags' docs' hooks' a t d st sd)

-- and `unlink_first`
pub unlink_done : (nodes : List Node) (all : Option Ends) (free : Option ℕ) (tags : List ℕ → Option Ends) (docs : ℕ → Option Ends) (stands : IsSound nodes all free tags docs)
    (doc at : ℕ) (first : first_of (docs doc) ≡ Some at) (len : ℕ) (lent new : List Node) (tag : List ℕ) (ends left : Sides (Option Ends)) (tags' : List ℕ → Option Ends) (docs' : ℕ → Option Ends)
    → len ≡ length nodes → lent ≡ nodes → tag_at nodes at ≡ tag → Releases at free ends left lent new → ends.all ≡ all → ends.by_tag ≡ tags tag → ends.by_doc ≡ docs doc → Sets bytes_eq tags tags' tag left.by_tag → Sets nat_eq docs docs' doc left.by_doc
    → IsUnlinked nodes all free tags docs stands doc at first (take len (new ++ drop (length new) nodes)) left.all tags' docs'
unlink_done nodes all free tags docs stands doc at first len lent new tag ends left tags' docs' l e is releases a t d st sd =
    let done = is_unlinked nodes all free tags docs stands doc at first new tag ends left tags' docs' is (subst (λ m. Releases at free ends left m new) e releases) a t d st sd in
    subst (λ m. IsUnlinked nodes all free tags docs stands doc at first m left.all tags' docs') (sym (put_back len nodes new (done.count ∙ sym l))) done

-- how much room a pair more takes
pub link_room : (room s1 s1' s2 s2' cap cap' pairs pairs' : ℕ) → room ≡ min s1 (min s2 (cap - pairs)) → s1 ≤ s1' + 1 → s2 ≤ s2' + 1 → cap ≤ cap' → pairs' ≡ pairs + 1
    → room ≤ min s1' (min s2' (cap' - pairs')) + 1
link_room room s1 s1' s2 s2' cap cap' pairs pairs' is a b c p =
    subst (λ r. r ≤ min s1' (min s2' (cap' - pairs')) + 1) (sym is) (room_falls s1 s2 (cap - pairs) s1' s2' (cap' - pairs') a b (omega arith))

pub unlink_room : (room s1 s1' s2 s2' cap pairs pairs' : ℕ) → room ≡ min s1 (min s2 (cap - pairs)) → s1 ≤ s1' → s2 ≤ s2' → pairs ≡ pairs' + 1
    → room ≤ min s1' (min s2' (cap - pairs'))
unlink_room room s1 s1' s2 s2' cap pairs pairs' is a b p =
    subst (λ r. r ≤ min s1' (min s2' (cap - pairs'))) (sym is) (room_stays s1 s2 (cap - pairs) s1' s2' (cap - pairs') a b (omega arith))

-- room for a pair is room for a node
pub room_for_node : (room s1 s2 cap pairs : ℕ) → room ≡ min s1 (min s2 (cap - pairs)) → 0 < room → (0 < s1) × (0 < s2) × (pairs < cap)
room_for_node room s1 s2 cap pairs is some =
    let parts = room_parts room s1 s2 (cap - pairs) (omega arith) in
    (omega (arith, parts.0), omega (arith, parts.1), omega (arith, parts.2))
