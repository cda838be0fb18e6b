-- A pair is linked: a node is taken and comes at the end of its lists.
use Rattle.std.proofs.Common.{◌≡◌, ◌<◌, ◌+◌, ◌≤◌, max, ℕ, nat_eq, bytes_eq, List, [], ◌∷◌, ◌++◌, length, Option, None, Some, refl, sym, ◌∙◌, ap, subst, arith, length-append, append_assoc}
use Rattle.std.proofs.lemmas.List.{map-append}
use Rattle.qe_chains.specs.declared.nodes.Side.{Side}
use Rattle.qe_chains.specs.declared.nodes.Side.TheVariants.{All, Tag, Doc}
use Rattle.qe_chains.specs.declared.nodes.Ends.{Ends}
use Rattle.qe_chains.specs.declared.nodes.Node.{Node}
use Rattle.qe_chains.specs.declared.nodes.Sides.{Sides}
use Rattle.qe_chains.specs.Linked.{first_or, Each, Apart, Distinct, Follows, IsList, AreLists}
use Rattle.qe_chains.specs.Nodes.{after, before, tag_at, doc_at, node_at, place_of, pair_at, first_of, last_of, pairs_from, TakesNode, HooksAll, PushesAt}
use Rattle.qe_chains.specs.Sound.{Sound, Sets}
use Rattle.qe_chains.proofs.LinkLemmas.{each_map, each_both, each_append, each_left, each_right, last_among, distinct_push, distinct_left, distinct_right, apart_middle, apart_behind, follows_kept}
use Rattle.qe_chains.proofs.ListLemmas.{kept, pushed}
use Rattle.qe_chains.proofs.KeyLemmas.{pushed_all}
use Rattle.qe_chains.proofs.TableLemmas.{tag_sound, tag_same, doc_sound, doc_same, sets_part, lists_kept, map_same, pair_same, pairs_are, pairs_count}

-- a node was taken: it stands apart from the linked ones, which are as they were, and from those that are still free
pub record Took (old new : List Node) (free : Option ℕ) (at : ℕ) (order spares : List ℕ) : Type 0 where
  pub others : Each (λ j. node_at new j ≡ node_at old j) order
  pub apart : Distinct (order ++ at ∷ spares)
  pub inside : Each (λ i. i < length new) (order ++ at ∷ spares)
  pub count : length order + length spares + 1 ≡ length new
  pub links : Follows (after new All) spares None
  pub first : free ≡ first_or None spares
  pub grown : length new ≡ max (length old) (length order + 1)

max_left : (a b : ℕ) → b ≤ a → a ≡ max a b
max_left a b le = omega arith

max_right : (a b : ℕ) → a ≤ b → b ≡ max a b
max_right a b le = omega arith

module _ (tag : List ℕ) (doc at : ℕ) (old new : List Node) (free free' : Option ℕ) (takes : TakesNode tag doc at old new free free') (order : List ℕ) where
  node_same : (xs : List ℕ) → Apart at xs → Each (λ i. i < length old) xs → Each (λ j. node_at new j ≡ node_at old j) xs
  node_same xs apart inside = each_map (λ j. (j ≡ at → ⊥) × (j < length old)) (λ j. node_at new j ≡ node_at old j) (λ j h. takes.others j h.0 h.1) xs
      (each_both (λ j. j ≡ at → ⊥) (λ j. j < length old) xs apart inside)

  took_new : free ≡ None → Distinct (order ++ []) → Each (λ i. i < length old) (order ++ []) → length order + 0 ≡ length old → Took old new free' at order []
  took_new e distinct inside count =
      let new_is = takes.anew e in
      let below : Each (λ i. i < length old) order = each_left (λ i. i < length old) order [] inside in
      let apart : Apart at order = each_map (λ i. i < length old) (λ i. i ≡ at → ⊥) (λ i lt same. omega (arith, new_is.0)) order below in
      record {
        others = node_same order apart below;
        apart = distinct_push at order (distinct_left order [] distinct) apart;
        inside = each_append (λ i. i < length new) order (at ∷ []) (each_map (λ i. i < length old) (λ i. i < length new) (λ i lt. omega (arith, new_is.2)) order below) (omega (arith, new_is.0, new_is.2), tt);
        count = omega (arith, new_is.2);
        links = tt;
        first = new_is.1;
        grown = new_is.2 ∙ omega arith;
      }

  took_again : (f : ℕ) (spares : List ℕ) → free ≡ Some f → Distinct (order ++ f ∷ spares) → Each (λ i. i < length old) (order ++ f ∷ spares) → length order + length (f ∷ spares) ≡ length old → Follows (after old All) (f ∷ spares) None → Took old new free' at order spares
  took_again f spares e distinct inside count links =
      let is = takes.again f e in
      let distinct' : Distinct (order ++ at ∷ spares) = subst (λ v. Distinct (order ++ v ∷ spares)) (sym is.0) distinct in
      let inside' : Each (λ i. i < length old) (order ++ at ∷ spares) = subst (λ v. Each (λ i. i < length old) (order ++ v ∷ spares)) (sym is.0) inside in
      let behind = each_right (λ i. i < length old) order (at ∷ spares) inside' in
      record {
        others = node_same order (apart_middle at order spares distinct') (each_left (λ i. i < length old) order (at ∷ spares) inside');
        apart = distinct';
        inside = each_map (λ i. i < length old) (λ i. i < length new) (λ i lt. omega (arith, is.2)) (order ++ at ∷ spares) inside';
        count = omega (arith, is.2);
        links = follows_kept (after old All) (after new All) None spares
            (each_map (λ j. node_at new j ≡ node_at old j) (λ j. after new All j ≡ after old All j) (λ j same. ap (λ (n : Node). n.all.after) same) spares
            (node_same spares (distinct_right order (at ∷ spares) distinct').0 behind.1)) links.1;
        first = is.1 ∙ links.0;
        grown = is.2 ∙ omega arith;
      }

pub took : (tag : List ℕ) (doc at : ℕ) (old new : List Node) (all : Option Ends) (free free' : Option ℕ) (tags : List ℕ → Option Ends) (docs : ℕ → Option Ends) (order spares : List ℕ)
    → Sound old all free tags docs order spares → TakesNode tag doc at old new free free' → (spares' : List ℕ) × Took old new free' at order spares'
took tag doc at old new all free free' tags docs order [] sound takes = ([], took_new tag doc at old new free free' takes order sound.spare_first sound.apart sound.inside sound.count)
took tag doc at old new all free free' tags docs order (f ∷ spares) sound takes =
    (spares, took_again tag doc at old new free free' takes order f spares sound.spare_first sound.apart sound.inside sound.count sound.spare_links)

module _ (tag : List ℕ) (doc at : ℕ) (n0 n1 n2 : List Node) (all : Option Ends) (free free' : Option ℕ) (tags tags' : List ℕ → Option Ends) (docs docs' : ℕ → Option Ends) (ends : Sides (Option Ends)) (ends' : Sides Ends) (order spares spares' : List ℕ)
    (sound : Sound n0 all free tags docs order spares) (taken : Took n0 n1 free' at order spares') (tag_is : tag_at n1 at ≡ tag) (doc_is : doc_at n1 at ≡ doc)
    (hooks : HooksAll at ends ends' n1 n2) (from_all : ends.all ≡ all) (from_tag : ends.by_tag ≡ tags tag) (from_doc : ends.by_doc ≡ docs doc)
    (sets_tags : Sets bytes_eq tags tags' tag (Some ends'.by_tag)) (sets_docs : Sets nat_eq docs docs' doc (Some ends'.by_doc)) where
  distinct : Distinct order
  distinct = distinct_left order (at ∷ spares') taken.apart

  apart : Apart at order
  apart = apart_middle at order spares' taken.apart

  afters : (side : Side) → Each (λ j. after n1 side j ≡ after n0 side j) order
  afters side = each_map (λ j. node_at n1 j ≡ node_at n0 j) (λ j. after n1 side j ≡ after n0 side j) (λ j same. ap (λ (n : Node). (place_of side n).after) same) order taken.others

  befores : (side : Side) → Each (λ j. before n1 side j ≡ before n0 side j) order
  befores side = each_map (λ j. node_at n1 j ≡ node_at n0 j) (λ j. before n1 side j ≡ before n0 side j) (λ j same. ap (λ (n : Node). (place_of side n).before) same) order taken.others

  whole : IsList (after n2 All) (before n2 All) (first_of (Some ends'.all)) (last_of (Some ends'.all)) (order ++ at ∷ [])
  whole = pushed at (after n1 All) (before n1 All) (first_of all) (last_of all) (after n2 All) (before n2 All) (first_of (Some ends'.all)) (last_of (Some ends'.all)) order
      (subst (λ e. PushesAt All at e (Some ends'.all) n1 n2) from_all hooks.all) distinct apart
      (kept (after n0 All) (before n0 All) (after n1 All) (before n1 All) (first_of all) (last_of all) order (afters All) (befores All) sound.whole)

  -- the free ones keep their links: none of them is the node or the last of all
  spare_links : Follows (after n2 All) spares' None
  spare_links = follows_kept (after n1 All) (after n2 All) None spares' (each_map (λ j. Apart j (order ++ at ∷ [])) (λ j. after n2 All j ≡ after n1 All j) still spares' behind) taken.links
    where
      behind : Each (λ j. Apart j (order ++ at ∷ [])) spares'
      behind = apart_behind (order ++ at ∷ []) spares' (subst Distinct (sym (append_assoc order (at ∷ []) spares')) taken.apart)

      still : (j : ℕ) → Apart j (order ++ at ∷ []) → after n2 All j ≡ after n1 All j
      still j far = hooks.all.nexts j (λ e. (each_right (λ i. i ≡ j → ⊥) order (at ∷ []) far).0 (sym e))
          (λ e. last_among (λ i. i ≡ j → ⊥) order (each_left (λ i. i ≡ j → ⊥) order (at ∷ []) far) j (sym sound.whole.ends ∙ ap last_of (sym from_all) ∙ e) refl)

  by_tag : AreLists bytes_eq (tag_at n2) (after n2 Tag) (before n2 Tag) (λ t. first_of (tags' t)) (λ t. last_of (tags' t)) (order ++ at ∷ [])
  by_tag =
      let key : tag_at n2 at ≡ tag = hooks.tags at ∙ tag_is in
      pushed_all bytes_eq tag_sound tag_same at (tag_at n0) (tag_at n2) (after n1 Tag) (before n1 Tag) (after n2 Tag) (before n2 Tag)
      (λ t. first_of (tags t)) (λ t. last_of (tags t)) (λ t. first_of (tags' t)) (λ t. last_of (tags' t)) (first_of (Some ends'.by_tag)) (last_of (Some ends'.by_tag)) order
      (sets_part bytes_eq first_of tags tags' tag (tag_at n2 at) (Some ends'.by_tag) key sets_tags) (sets_part bytes_eq last_of tags tags' tag (tag_at n2 at) (Some ends'.by_tag) key sets_tags)
      (each_map (λ j. node_at n1 j ≡ node_at n0 j) (λ j. tag_at n2 j ≡ tag_at n0 j) (λ j same. hooks.tags j ∙ ap (λ (n : Node). n.tag) same) order taken.others) distinct apart
      (lists_kept bytes_eq (tag_at n0) (after n0 Tag) (before n0 Tag) (after n1 Tag) (before n1 Tag) (λ t. first_of (tags t)) (λ t. last_of (tags t)) order (afters Tag) (befores Tag) sound.by_tag)
      (subst (λ e. PushesAt Tag at e (Some ends'.by_tag) n1 n2) (from_tag ∙ ap tags (sym key)) hooks.by_tag)

  by_doc : AreLists nat_eq (doc_at n2) (after n2 Doc) (before n2 Doc) (λ d. first_of (docs' d)) (λ d. last_of (docs' d)) (order ++ at ∷ [])
  by_doc =
      let key : doc_at n2 at ≡ doc = hooks.docs at ∙ doc_is in
      pushed_all nat_eq doc_sound doc_same at (doc_at n0) (doc_at n2) (after n1 Doc) (before n1 Doc) (after n2 Doc) (before n2 Doc)
      (λ t. first_of (docs t)) (λ t. last_of (docs t)) (λ t. first_of (docs' t)) (λ t. last_of (docs' t)) (first_of (Some ends'.by_doc)) (last_of (Some ends'.by_doc)) order
      (sets_part nat_eq first_of docs docs' doc (doc_at n2 at) (Some ends'.by_doc) key sets_docs) (sets_part nat_eq last_of docs docs' doc (doc_at n2 at) (Some ends'.by_doc) key sets_docs)
      (each_map (λ j. node_at n1 j ≡ node_at n0 j) (λ j. doc_at n2 j ≡ doc_at n0 j) (λ j same. hooks.docs j ∙ ap (λ (n : Node). n.doc) same) order taken.others) distinct apart
      (lists_kept nat_eq (doc_at n0) (after n0 Doc) (before n0 Doc) (after n1 Doc) (before n1 Doc) (λ t. first_of (docs t)) (λ t. last_of (docs t)) order (afters Doc) (befores Doc) sound.by_doc)
      (subst (λ e. PushesAt Doc at e (Some ends'.by_doc) n1 n2) (from_doc ∙ ap docs (sym key)) hooks.by_doc)

  pub linked : Sound n2 (Some ends'.all) free' tags' docs' (order ++ at ∷ []) spares'
  linked =
      let joined : order ++ at ∷ spares' ≡ (order ++ at ∷ []) ++ spares' = sym (append_assoc order (at ∷ []) spares') in
      record {
        whole = whole;
        spare_links = spare_links;
        spare_first = taken.first;
        apart = subst Distinct joined taken.apart;
        inside = subst (λ n. Each (λ i. i < n) ((order ++ at ∷ []) ++ spares')) (sym hooks.count) (subst (Each (λ i. i < length n1)) joined taken.inside);
        count = omega (arith, length-append order (at ∷ []), hooks.count, taken.count);
        by_tag = by_tag;
        by_doc = by_doc;
      }

  pub linked_pairs : pairs_from n2 All (first_of (Some ends'.all)) ≡ pairs_from n0 All (first_of all) ++ (tag, doc) ∷ []
  linked_pairs =
      pairs_are n2 (Some ends'.all) free' tags' docs' (order ++ at ∷ []) spares' linked
      ∙ map-append (pair_at n2) order (at ∷ [])
      ∙ ap (λ front. front ++ pair_at n2 at ∷ []) (map_same n0 n2 order (each_map (λ j. node_at n1 j ≡ node_at n0 j) (λ j. pair_at n2 j ≡ pair_at n0 j) same order taken.others))
      ∙ ap (λ front. front ++ pair_at n2 at ∷ []) (sym (pairs_are n0 all free tags docs order spares sound))
      ∙ ap (λ p. pairs_from n0 All (first_of all) ++ p ∷ []) last
    where
      same : (j : ℕ) → node_at n1 j ≡ node_at n0 j → pair_at n2 j ≡ pair_at n0 j
      same j e = pair_same n0 n2 j j (hooks.tags j ∙ ap (λ (n : Node). n.tag) e) (hooks.docs j ∙ ap (λ (n : Node). n.doc) e)

      last : pair_at n2 at ≡ (tag, doc)
      last = let t = hooks.tags at ∙ tag_is in let d = hooks.docs at ∙ doc_is in cc

  pub linked_nodes : length n2 ≡ max (length n0) (length (pairs_from n2 All (first_of (Some ends'.all))))
  linked_nodes =
      let count : length (pairs_from n2 All (first_of (Some ends'.all))) ≡ length order + 1 =
      pairs_count n2 (Some ends'.all) free' tags' docs' (order ++ at ∷ []) spares' linked ∙ length-append order (at ∷ []) in
      hooks.count ∙ taken.grown ∙ ap (max (length n0)) (sym count)
