-- The pairs along a list, one after another, are those of its key.
use Rattle.std.proofs.Common.{◌≡◌, ◌<◌, ◌≤◌, ℕ, zero, suc, Bool, true, false, cond, nat_eq, bytes_eq, List, [], ◌∷◌, length, map, filter, Option, None, Some, refl, sym, ◌∙◌, ap, subst, arith}
use Rattle.qe_chains.specs.declared.nodes.Side.{Side}
use Rattle.qe_chains.specs.declared.nodes.Side.TheVariants.{All, Tag, Doc}
use Rattle.qe_chains.specs.declared.nodes.Ends.{Ends}
use Rattle.qe_chains.specs.declared.nodes.Node.{Node}
use Rattle.qe_chains.specs.Linked.{Each, those, walk}
use Rattle.qe_chains.specs.Nodes.{after, tag_at, doc_at, pair_at, first_of, pairs_from}
use Rattle.qe_chains.specs.Pairs.{with_the_tag, of_document}
use Rattle.qe_chains.specs.Sound.{Sound, Way}
use Rattle.qe_chains.proofs.LinkLemmas.{each_left, walk_is}
use Rattle.qe_chains.proofs.KeyLemmas.{each_filter}
use Rattle.qe_chains.proofs.TableLemmas.{pairs_are}

-- the pairs of a way are those of its list
pub way_pairs : (nodes : List Node) (side : Side) (from : Option ℕ) (xs : List ℕ) → Way nodes side from xs → pairs_from nodes side from ≡ map (pair_at nodes) xs
way_pairs nodes side from xs way = ap (map (pair_at nodes)) (ap (walk (after nodes side) (length nodes)) way.starts ∙ walk_is (after nodes side) xs (length nodes) way.short way.follows)

-- a step along a way
pub record Step (nodes : List Node) (side : Side) (at : ℕ) : Type 0 where
  pub inside : at < length nodes
  pub rest : List ℕ
  pub way : Way nodes side (after nodes side at) rest
  pub pairs : pairs_from nodes side (Some at) ≡ pair_at nodes at ∷ pairs_from nodes side (after nodes side at)

pub step : (nodes : List Node) (side : Side) (at : ℕ) (xs : List ℕ) → Way nodes side (Some at) xs → Step nodes side at
step nodes side at [] way = absurd (none_some way.starts)
  where
    none_some : Some at ≡ None → ⊥
    none_some e = cc
step nodes side at (x ∷ xs) way =
    let same : x ≡ at = same_some way.starts in
    let on : Way nodes side (after nodes side at) xs = record { starts = ap (after nodes side) (sym same) ∙ way.follows.0; follows = way.follows.1; inside = way.inside.1; short = omega (arith, way.short) } in
    record {
      inside = subst (λ i. i < length nodes) same way.inside.0;
      rest = xs;
      way = on;
      pairs = way_pairs nodes side (Some at) (x ∷ xs) way ∙ ap (λ i. pair_at nodes i ∷ map (pair_at nodes) xs) same ∙ ap (λ more. pair_at nodes at ∷ more) (sym (way_pairs nodes side (after nodes side at) xs on));
    }
  where
    same_some : Some at ≡ Some x → x ≡ at
    same_some e = cc

-- at the end of a way there are no pairs
pub no_pairs : (nodes : List Node) (side : Side) (n : ℕ) → map (pair_at nodes) (walk (after nodes side) n None) ≡ []
no_pairs nodes side zero = refl
no_pairs nodes side (suc n) = refl

-- a filter goes before or after a map
filter_map_same : (p : List ℕ × ℕ → Bool) (f : ℕ → List ℕ × ℕ) (xs : List ℕ) → map f (filter (λ x. p (f x)) xs) ≡ filter p (map f xs)
filter_map_same p f [] = refl
filter_map_same p f (x ∷ xs) = one (p (f x)) ∙ ap (λ rest. cond (p (f x)) (f x ∷ rest) rest) (filter_map_same p f xs)
  where
    one : (b : Bool) → map f (cond b (x ∷ filter (λ x. p (f x)) xs) (filter (λ x. p (f x)) xs)) ≡ cond b (f x ∷ map f (filter (λ x. p (f x)) xs)) (map f (filter (λ x. p (f x)) xs))
    one true = refl
    one false = refl

filter_short : (p : ℕ → Bool) (xs : List ℕ) → length (filter p xs) ≤ length xs
filter_short p [] = omega arith
filter_short p (x ∷ xs) = one (p x) (filter_short p xs)
  where
    one : (b : Bool) → length (filter p xs) ≤ length xs → length (cond b (x ∷ filter p xs) (filter p xs)) ≤ length (x ∷ xs)
    one true h = omega arith
    one false h = omega arith

module _ (nodes : List Node) (all : Option Ends) (free : Option ℕ) (tags : List ℕ → Option Ends) (docs : ℕ → Option Ends) (order spares : List ℕ) (sound : Sound nodes all free tags docs order spares) where
  inside : (p : ℕ → Bool) → Each (λ i. i < length nodes) (filter p order)
  inside p = each_filter (λ i. i < length nodes) p order (each_left (λ i. i < length nodes) order spares sound.inside)

  short : (p : ℕ → Bool) → length (filter p order) ≤ length nodes
  short p = omega (arith, filter_short p order, sound.count)

  pub tag_way : (tag : List ℕ) → Way nodes Tag (first_of (tags tag)) (those bytes_eq (tag_at nodes) tag order)
  tag_way tag = record { starts = (sound.by_tag tag).starts; follows = (sound.by_tag tag).follows; inside = inside (λ j. bytes_eq tag (tag_at nodes j)); short = short (λ j. bytes_eq tag (tag_at nodes j)) }

  pub doc_way : (doc : ℕ) → Way nodes Doc (first_of (docs doc)) (those nat_eq (doc_at nodes) doc order)
  doc_way doc = record { starts = (sound.by_doc doc).starts; follows = (sound.by_doc doc).follows; inside = inside (λ j. nat_eq doc (doc_at nodes j)); short = short (λ j. nat_eq doc (doc_at nodes j)) }

  pub tag_pairs : (tag : List ℕ) → pairs_from nodes Tag (first_of (tags tag)) ≡ with_the_tag tag (pairs_from nodes All (first_of all))
  tag_pairs tag =
      way_pairs nodes Tag (first_of (tags tag)) (those bytes_eq (tag_at nodes) tag order) (tag_way tag)
      ∙ filter_map_same (λ p. bytes_eq tag p.0) (pair_at nodes) order
      ∙ ap (with_the_tag tag) (sym (pairs_are nodes all free tags docs order spares sound))

  pub doc_pairs : (doc : ℕ) → pairs_from nodes Doc (first_of (docs doc)) ≡ of_document doc (pairs_from nodes All (first_of all))
  doc_pairs doc =
      way_pairs nodes Doc (first_of (docs doc)) (those nat_eq (doc_at nodes) doc order) (doc_way doc)
      ∙ filter_map_same (λ p. nat_eq doc p.1) (pair_at nodes) order
      ∙ ap (of_document doc) (sym (pairs_are nodes all free tags docs order spares sound))
