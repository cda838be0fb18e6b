-- A pair is unlinked: the document's first node leaves its lists and comes before the free ones.
use Rattle.std.proofs.Common.{◌≡◌, ◌≢◌, ◌<◌, ◌+◌, ℕ, Bool, true, false, cond, not, nat_eq, bytes_eq, List, [], ◌∷◌, ◌++◌, length, map, filter, Option, None, Some, refl, sym, ◌∙◌, ap, subst, arith, length-append}
use Rattle.std.proofs.lemmas.List.{map-append}
use Rattle.std.proofs.lemmas.List.Elements.{filter-append}
use Rattle.qe_chains.specs.declared.nodes.Side.TheVariants.{All, Tag, Doc}
use Rattle.qe_chains.specs.declared.nodes.Ends.{Ends}
use Rattle.qe_chains.specs.declared.nodes.Node.{Node}
use Rattle.qe_chains.specs.declared.nodes.Sides.{Sides}
use Rattle.qe_chains.specs.Linked.{first_or, Each, Apart, Distinct, Follows, IsList, those, AreLists}
use Rattle.qe_chains.specs.Nodes.{after, before, tag_at, doc_at, pair_at, first_of, last_of, pairs_from, UnhooksAll, TakesAt, WritesAfter, IsInside}
use Rattle.qe_chains.specs.Pairs.{of_others}
use Rattle.qe_chains.specs.Sound.{Sound, Sets}
use Rattle.qe_chains.proofs.LinkLemmas.{each_map, each_left, each_right, each_moved, last_among, distinct_left, distinct_moved, apart_middle, apart_behind, follows_kept, precedes_at}
use Rattle.qe_chains.proofs.ListLemmas.{kept, taken}
use Rattle.qe_chains.proofs.KeyLemmas.{taken_all, each_filter, filter_passes, cut_first}
use Rattle.qe_chains.proofs.NodeLemmas.{takes_near, differ}
use Rattle.qe_chains.proofs.TableLemmas.{tag_sound, tag_same, doc_sound, doc_same, sets_part, rekeyed, neighbours, map_same, pair_same, pairs_are, pairs_count}

none_some : (x : ℕ) → None ≡ Some x → ⊥
none_some x e = cc

no_first : (e : Option Ends) (x : ℕ) → first_of e ≡ Some x → e ≢ None
no_first e x is gone = none_some x (ap first_of (sym gone) ∙ is)

middle_first : (n : ℕ) (xs ys : List ℕ) → (x : ℕ) × (first_or None (xs ++ n ∷ ys) ≡ Some x)
middle_first n [] ys = (n, refl)
middle_first n (x ∷ xs) ys = (x, refl)

each_all : (P : ℕ → Type 0) → ((j : ℕ) → P j) → (xs : List ℕ) → Each P xs
each_all P h [] = tt
each_all P h (x ∷ xs) = (h x, each_all P h xs)

module _ (nodes : List Node) (all : Option Ends) (free : Option ℕ) (tags : List ℕ → Option Ends) (docs : ℕ → Option Ends) (at : ℕ) (front back spares : List ℕ)
    (sound : Sound nodes all free tags docs (front ++ at ∷ back) spares) where
  all_distinct : Distinct (front ++ at ∷ back)
  all_distinct = distinct_left (front ++ at ∷ back) spares sound.apart

  all_inside : Each (λ i. i < length nodes) (front ++ at ∷ back)
  all_inside = each_left (λ i. i < length nodes) (front ++ at ∷ back) spares sound.inside

  inside_front : Each (λ i. i < length nodes) front
  inside_front = each_left (λ i. i < length nodes) front (at ∷ back) all_inside

  inside_behind : Each (λ i. i < length nodes) (at ∷ back)
  inside_behind = each_right (λ i. i < length nodes) front (at ∷ back) all_inside

  pub at_inside : at < length nodes
  at_inside = inside_behind.0

  -- the lists of its tag and of its document, cut at the node
  tag_list : IsList (after nodes Tag) (before nodes Tag) (first_of (tags (tag_at nodes at))) (last_of (tags (tag_at nodes at))) (those bytes_eq (tag_at nodes) (tag_at nodes at) front ++ at ∷ those bytes_eq (tag_at nodes) (tag_at nodes at) back)
  tag_list = subst (λ zs. IsList (after nodes Tag) (before nodes Tag) (first_of (tags (tag_at nodes at))) (last_of (tags (tag_at nodes at))) zs)
      (filter-append (λ j. bytes_eq (tag_at nodes at) (tag_at nodes j)) front (at ∷ back)
      ∙ ap (λ b. those bytes_eq (tag_at nodes) (tag_at nodes at) front ++ cond b (at ∷ those bytes_eq (tag_at nodes) (tag_at nodes at) back) (those bytes_eq (tag_at nodes) (tag_at nodes at) back)) (tag_same (tag_at nodes at)))
      (sound.by_tag (tag_at nodes at))

  doc_list : IsList (after nodes Doc) (before nodes Doc) (first_of (docs (doc_at nodes at))) (last_of (docs (doc_at nodes at))) (those nat_eq (doc_at nodes) (doc_at nodes at) front ++ at ∷ those nat_eq (doc_at nodes) (doc_at nodes at) back)
  doc_list = subst (λ zs. IsList (after nodes Doc) (before nodes Doc) (first_of (docs (doc_at nodes at))) (last_of (docs (doc_at nodes at))) zs)
      (filter-append (λ j. nat_eq (doc_at nodes at) (doc_at nodes j)) front (at ∷ back)
      ∙ ap (λ b. those nat_eq (doc_at nodes) (doc_at nodes at) front ++ cond b (at ∷ those nat_eq (doc_at nodes) (doc_at nodes at) back) (those nat_eq (doc_at nodes) (doc_at nodes at) back)) (doc_same (doc_at nodes at)))
      (sound.by_doc (doc_at nodes at))

  pub all_there : all ≢ None
  all_there = let first = middle_first at front back in no_first all first.0 (sound.whole.starts ∙ first.1)

  pub tag_there : tags (tag_at nodes at) ≢ None
  tag_there =
      let first = middle_first at (those bytes_eq (tag_at nodes) (tag_at nodes at) front) (those bytes_eq (tag_at nodes) (tag_at nodes at) back) in
      no_first (tags (tag_at nodes at)) first.0 (tag_list.starts ∙ first.1)

  pub doc_there : docs (doc_at nodes at) ≢ None
  doc_there =
      let first = middle_first at (those nat_eq (doc_at nodes) (doc_at nodes at) front) (those nat_eq (doc_at nodes) (doc_at nodes at) back) in
      no_first (docs (doc_at nodes at)) first.0 (doc_list.starts ∙ first.1)

  -- its neighbours on each side are nodes
  pub is_inside : IsInside at nodes
  is_inside All = neighbours (λ i. i < length nodes) at (after nodes All) (before nodes All) (first_of all) (last_of all) front back sound.whole inside_front inside_behind.1
  is_inside Tag =
      let p = λ (j : ℕ). bytes_eq (tag_at nodes at) (tag_at nodes j) in
      neighbours (λ i. i < length nodes) at (after nodes Tag) (before nodes Tag) (first_of (tags (tag_at nodes at))) (last_of (tags (tag_at nodes at))) (filter p front) (filter p back) tag_list
      (each_filter (λ i. i < length nodes) p front inside_front) (each_filter (λ i. i < length nodes) p back inside_behind.1)
  is_inside Doc =
      let p = λ (j : ℕ). nat_eq (doc_at nodes at) (doc_at nodes j) in
      neighbours (λ i. i < length nodes) at (after nodes Doc) (before nodes Doc) (first_of (docs (doc_at nodes at))) (last_of (docs (doc_at nodes at))) (filter p front) (filter p back) doc_list
      (each_filter (λ i. i < length nodes) p front inside_front) (each_filter (λ i. i < length nodes) p back inside_behind.1)

  module _ (between new : List Node) (tags' : List ℕ → Option Ends) (docs' : ℕ → Option Ends) (ends left : Sides (Option Ends))
      (unhooks : UnhooksAll at ends left nodes between) (writes : WritesAfter All (Some at) free between new)
      (from_all : ends.all ≡ all) (from_tag : ends.by_tag ≡ tags (tag_at nodes at)) (from_doc : ends.by_doc ≡ docs (doc_at nodes at))
      (sets_tags : Sets bytes_eq tags tags' (tag_at nodes at) left.by_tag) (sets_docs : Sets nat_eq docs docs' (doc_at nodes at) left.by_doc) where
    moved_apart : Distinct ((front ++ back) ++ at ∷ spares)
    moved_apart = distinct_moved at front back spares sound.apart

    far : Apart at (front ++ back)
    far = apart_middle at (front ++ back) spares moved_apart

    -- the link written at the node is no other's
    not_at : (j : ℕ) → (j ≡ at → ⊥) → Some at ≡ Some j → ⊥
    not_at j ne e = ne (same at j e)
      where
        same : (x y : ℕ) → Some x ≡ Some y → y ≡ x
        same x y e = cc

    whole : IsList (after new All) (before new All) (first_of left.all) (last_of left.all) (front ++ back)
    whole = kept (after between All) (before between All) (after new All) (before new All) (first_of left.all) (last_of left.all) (front ++ back)
        (each_map (λ j. j ≡ at → ⊥) (λ j. after new All j ≡ after between All j) (λ j ne. writes.others j (not_at j ne)) (front ++ back) far)
        (each_all (λ j. before new All j ≡ before between All j) writes.befores (front ++ back))
        (taken at (after nodes All) (before nodes All) (first_of all) (last_of all) (after between All) (before between All) (first_of left.all) (last_of left.all) front back
        (subst (λ e. TakesAt All at e left.all nodes between) from_all unhooks.all) all_distinct sound.whole)

    spare_links : Follows (after new All) (at ∷ spares) None
    spare_links = (writes.here at refl ∙ sound.spare_first, follows_kept (after nodes All) (after new All) None spares (each_map (λ j. Apart j (front ++ at ∷ back)) (λ j. after new All j ≡ after nodes All j) still spares (apart_behind (front ++ at ∷ back) spares sound.apart)) sound.spare_links)
      where
        still : (j : ℕ) → Apart j (front ++ at ∷ back) → after new All j ≡ after nodes All j
        still j apart =
            let here = (each_right (λ i. i ≡ j → ⊥) front (at ∷ back) apart).0 in
            writes.others j (not_at j (λ e. here (sym e)))
            ∙ unhooks.all.nexts j (λ e. last_among (λ i. i ≡ j → ⊥) front (each_left (λ i. i ≡ j → ⊥) front (at ∷ back) apart) j (sym (precedes_at (before nodes All) None at front back sound.whole.precedes) ∙ e) refl)

    by_tag : AreLists bytes_eq (tag_at new) (after new Tag) (before new Tag) (λ t. first_of (tags' t)) (λ t. last_of (tags' t)) (front ++ back)
    by_tag =
        rekeyed bytes_eq (tag_at nodes) (tag_at new) (after new Tag) (before new Tag) (λ t. first_of (tags' t)) (λ t. last_of (tags' t)) (front ++ back) (λ j. writes.kept.tags j ∙ unhooks.tags j)
        (taken_all bytes_eq tag_sound tag_same at (tag_at nodes) (after nodes Tag) (before nodes Tag) (after new Tag) (before new Tag)
        (λ t. first_of (tags t)) (λ t. last_of (tags t)) (λ t. first_of (tags' t)) (λ t. last_of (tags' t)) (first_of left.by_tag) (last_of left.by_tag) front back
        (sets_part bytes_eq first_of tags tags' (tag_at nodes at) (tag_at nodes at) left.by_tag refl sets_tags) (sets_part bytes_eq last_of tags tags' (tag_at nodes at) (tag_at nodes at) left.by_tag refl sets_tags)
        all_distinct sound.by_tag
        (takes_near Tag at (tags (tag_at nodes at)) left.by_tag nodes nodes between new (record { afters = λ j. refl; befores = λ j. refl })
        (subst (λ e. TakesAt Tag at e left.by_tag nodes between) from_tag unhooks.by_tag)
        (record { afters = writes.kept.afters Tag differ.tag_all; befores = writes.kept.befores Tag differ.tag_all })))

    by_doc : AreLists nat_eq (doc_at new) (after new Doc) (before new Doc) (λ d. first_of (docs' d)) (λ d. last_of (docs' d)) (front ++ back)
    by_doc =
        rekeyed nat_eq (doc_at nodes) (doc_at new) (after new Doc) (before new Doc) (λ t. first_of (docs' t)) (λ t. last_of (docs' t)) (front ++ back) (λ j. writes.kept.docs j ∙ unhooks.docs j)
        (taken_all nat_eq doc_sound doc_same at (doc_at nodes) (after nodes Doc) (before nodes Doc) (after new Doc) (before new Doc)
        (λ t. first_of (docs t)) (λ t. last_of (docs t)) (λ t. first_of (docs' t)) (λ t. last_of (docs' t)) (first_of left.by_doc) (last_of left.by_doc) front back
        (sets_part nat_eq first_of docs docs' (doc_at nodes at) (doc_at nodes at) left.by_doc refl sets_docs) (sets_part nat_eq last_of docs docs' (doc_at nodes at) (doc_at nodes at) left.by_doc refl sets_docs)
        all_distinct sound.by_doc
        (takes_near Doc at (docs (doc_at nodes at)) left.by_doc nodes nodes between new (record { afters = λ j. refl; befores = λ j. refl })
        (subst (λ e. TakesAt Doc at e left.by_doc nodes between) from_doc unhooks.by_doc)
        (record { afters = writes.kept.afters Doc differ.doc_all; befores = writes.kept.befores Doc differ.doc_all })))

    same_count : length new ≡ length nodes
    same_count = writes.kept.count ∙ unhooks.count

    pub unlinked : Sound new left.all (Some at) tags' docs' (front ++ back) (at ∷ spares)
    unlinked = record {
      whole = whole;
      spare_links = spare_links;
      spare_first = refl;
      apart = moved_apart;
      inside = subst (λ n. Each (λ i. i < n) ((front ++ back) ++ at ∷ spares)) (sym same_count) (each_moved (λ i. i < length nodes) at front back spares sound.inside);
      count = omega (arith, length-append front back, length-append front (at ∷ back), same_count, sound.count);
      by_tag = by_tag;
      by_doc = by_doc;
    }

    same_pairs : map (pair_at new) (front ++ back) ≡ map (pair_at nodes) (front ++ back)
    same_pairs = map_same nodes new (front ++ back) (each_all (λ j. pair_at new j ≡ pair_at nodes j)
        (λ j. pair_same nodes new j j (writes.kept.tags j ∙ unhooks.tags j) (writes.kept.docs j ∙ unhooks.docs j)) (front ++ back))

    -- one pair less
    pub fewer : length (pairs_from nodes All (first_of all)) ≡ length (pairs_from new All (first_of left.all)) + 1
    fewer =
        let was = pairs_count nodes all free tags docs (front ++ at ∷ back) spares sound in
        let is = pairs_count new left.all (Some at) tags' docs' (front ++ back) (at ∷ spares) unlinked in
        omega (arith, was, is, length-append front back, length-append front (at ∷ back))

    -- and those of the other documents are the same
    pub others_same : of_others (doc_at nodes at) (pairs_from new All (first_of left.all)) ≡ of_others (doc_at nodes at) (pairs_from nodes All (first_of all))
    others_same =
        let doc = doc_at nodes at in
        let p = λ (q : List ℕ × ℕ). not (nat_eq doc q.1) in
        ap (filter p) (pairs_are new left.all (Some at) tags' docs' (front ++ back) (at ∷ spares) unlinked ∙ same_pairs ∙ map-append (pair_at nodes) front back)
        ∙ filter-append p (map (pair_at nodes) front) (map (pair_at nodes) back)
        ∙ ap (λ b. filter p (map (pair_at nodes) front) ++ cond (not b) (pair_at nodes at ∷ filter p (map (pair_at nodes) back)) (filter p (map (pair_at nodes) back))) (sym (doc_same doc))
        ∙ sym (filter-append p (map (pair_at nodes) front) (pair_at nodes at ∷ map (pair_at nodes) back))
        ∙ ap (filter p) (sym (map-append (pair_at nodes) front (at ∷ back)) ∙ sym (pairs_are nodes all free tags docs (front ++ at ∷ back) spares sound))

-- where no node has the document, the pairs of the others are all
stay_step : (nodes : List Node) (doc x : ℕ) (xs : List ℕ) (b : Bool) → nat_eq doc (doc_at nodes x) ≡ b → those nat_eq (doc_at nodes) doc (x ∷ xs) ≡ []
    → (those nat_eq (doc_at nodes) doc xs ≡ [] → of_others doc (map (pair_at nodes) xs) ≡ map (pair_at nodes) xs) → of_others doc (map (pair_at nodes) (x ∷ xs)) ≡ map (pair_at nodes) (x ∷ xs)
stay_step nodes doc x xs true is h rest = absurd (no_cons (sym (ap (λ b. cond b (x ∷ those nat_eq (doc_at nodes) doc xs) (those nat_eq (doc_at nodes) doc xs)) is) ∙ h))
  where
    no_cons : x ∷ those nat_eq (doc_at nodes) doc xs ≡ [] → ⊥
    no_cons e = cc
stay_step nodes doc x xs false is h rest =
    ap (λ b. cond (not b) (pair_at nodes x ∷ of_others doc (map (pair_at nodes) xs)) (of_others doc (map (pair_at nodes) xs))) is
    ∙ ap (λ more. pair_at nodes x ∷ more) (rest (sym (ap (λ b. cond b (x ∷ those nat_eq (doc_at nodes) doc xs) (those nat_eq (doc_at nodes) doc xs)) is) ∙ h))

all_stay : (nodes : List Node) (doc : ℕ) (xs : List ℕ) → those nat_eq (doc_at nodes) doc xs ≡ [] → of_others doc (map (pair_at nodes) xs) ≡ map (pair_at nodes) xs
all_stay nodes doc [] h = refl
all_stay nodes doc (x ∷ xs) h = stay_step nodes doc x xs (nat_eq doc (doc_at nodes x)) refl h (all_stay nodes doc xs)

module _ (nodes : List Node) (all : Option Ends) (free : Option ℕ) (tags : List ℕ → Option Ends) (docs : ℕ → Option Ends) (order spares : List ℕ) (sound : Sound nodes all free tags docs order spares) (doc : ℕ) where
  -- the document's first node, and where it stands
  pub record Found (at : ℕ) : Type 0 where
    pub front : List ℕ
    pub back : List ℕ
    pub cut : order ≡ front ++ at ∷ back
    pub doc_is : doc_at nodes at ≡ doc

  pub found : (at : ℕ) → first_of (docs doc) ≡ Some at → Found at
  found at e = from (those nat_eq (doc_at nodes) doc order) refl
    where
      from : (xs : List ℕ) → those nat_eq (doc_at nodes) doc order ≡ xs → Found at
      from [] is = absurd (none_some at (sym (sym e ∙ (sound.by_doc doc).starts ∙ ap (first_or None) is)))
      from (x ∷ xs) is =
          let same : x ≡ at = same_some (sym (ap (first_or None) is) ∙ sym (sound.by_doc doc).starts ∙ e) in
          let c = cut_first (λ j. nat_eq doc (doc_at nodes j)) at order xs (is ∙ ap (λ v. v ∷ xs) same) in
          let passes : Each (λ j. nat_eq doc (doc_at nodes j) ≡ true) (x ∷ xs) = subst (Each (λ j. nat_eq doc (doc_at nodes j) ≡ true)) is (filter_passes (λ j. nat_eq doc (doc_at nodes j)) order) in
          record { front = c.front; back = c.back; cut = c.cut; doc_is = sym (doc_sound doc (doc_at nodes at) (subst (λ v. nat_eq doc (doc_at nodes v) ≡ true) same passes.0)) }
        where
          same_some : Some x ≡ Some at → x ≡ at
          same_some e = cc

  -- without a first node the document has no pair
  pub none_left : first_of (docs doc) ≡ None → of_others doc (pairs_from nodes All (first_of all)) ≡ pairs_from nodes All (first_of all)
  none_left e = ap (of_others doc) are ∙ all_stay nodes doc order (from (those nat_eq (doc_at nodes) doc order) refl) ∙ sym are
    where
      are : pairs_from nodes All (first_of all) ≡ map (pair_at nodes) order
      are = pairs_are nodes all free tags docs order spares sound

      from : (xs : List ℕ) → those nat_eq (doc_at nodes) doc order ≡ xs → those nat_eq (doc_at nodes) doc order ≡ []
      from [] is = is
      from (x ∷ xs) is = absurd (none_some x (sym e ∙ (sound.by_doc doc).starts ∙ ap (first_or None) is))
