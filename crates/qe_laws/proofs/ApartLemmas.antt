-- A value's items are distinct, and values of one command are of distinct fields: so an entry indexes a word once at most.
use Rattle.std.proofs.Common.{◌≡◌, ◌<◌, ◌^◌, ◌≤ℤ◌, ◌&&◌, suc, ℤ, List, [], ◌∷◌, map, true, Option, None, Some, AllPairs, refl, ap, subst, arith, inl, inr}
use Rattle.std.specs.Prelude.{int_le}
use Rattle.std.specs.List.{AllByRecursion}
use Rattle.std.proofs.lemmas.Bool.{and_parts}
use Rattle.std.proofs.lemmas.Int.{ints}
use Rattle.std.proofs.lemmas.List.Elements.{recursion_from_All}
use Rattle.qe_value.specs.declared.value.Plain.{Plain}
use Rattle.qe_edges.specs.declared.edge.Edge.{Edge}
use Rattle.qe_edges.specs.Prefixes.{IsEdgeOf, edges_of}
use Rattle.qe_edges.specs.Rules.{InDomain, IsDomain, Rules, offset_of}
use Rattle.qe_edges.specs.Texts.{text_of}
use Rattle.qe_field.specs.Values.{lies_in, number_in}
use Rattle.qe_field.specs.declared.field.FieldKind.{FieldKind}
use Rattle.qe_field.specs.declared.field.FieldKind.TheVariants as k
use Rattle.qe_schema.specs.Resolved.{IsKeptBy}
use Rattle.qe_encodes.specs.Fields.{IsKeyed}
use Rattle.qe_encodes.specs.Items.{edges_for, value_items}
use Rattle.qe_encodes.specs.Laws.{EdgeLaws}
use Rattle.qe_encodes.proofs.EdgeLemmas.{offset_fits, prefix_fits, stored_level}
use Rattle.qe_encodes.proofs.MemberLemmas.{IsIn, contained, of_map}
use Rattle.qe_laws.proofs.CountLemmas.{AreApart}

-- pairs of a list, by recursion
pub pairs_head : {A : Type 0} (R : A → A → Type 0) (x : A) (xs : List A) → AllPairs R (x ∷ xs) → AllByRecursion (R x) xs
pairs_head R x xs pairs = recursion_from_All (R x) xs (λ k d within. pairs 0 (suc k) d (omega arith) (omega (arith, within)))

pub pairs_tail : {A : Type 0} (R : A → A → Type 0) (x : A) (xs : List A) → AllPairs R (x ∷ xs) → AllPairs R xs
pairs_tail R x xs pairs = λ i j d less within. pairs (suc i) (suc j) d (omega (arith, less)) (omega (arith, within))

pub each_in : {A : Type 0} (P : A → Type 0) (xs : List A) (x : A) → AllByRecursion P xs → IsIn x xs → P x
each_in P [] x each among = absurd among
each_in P (y ∷ xs) x each (inl is) = subst P is each.0
each_in P (y ∷ xs) x each (inr later) = each_in P xs x each.1 later

low_end : (lo hi z : ℤ) → (int_le lo z && int_le z hi) ≡ true → lo ≤ℤ z
low_end lo hi z within = let part = (and_parts (int_le lo z) (int_le z hi) within).0 in grind (arith, ints)

high_end : (lo hi z : ℤ) → (int_le lo z && int_le z hi) ≡ true → z ≤ℤ hi
high_end lo hi z within = let part = (and_parts (int_le lo z) (int_le z hi) within).1 in grind (arith, ints)

module _ (laws : EdgeLaws) where
  texts_apart : (edges : List Edge) → AllPairs (λ e f. e.len < f.len) edges → ((e : Edge) → IsIn e edges → e.prefix < 2 ^ e.len) → AreApart (map text_of edges)
  texts_apart [] rises spelled = tt
  texts_apart (edge ∷ edges) rises spelled = (
    (λ (among : IsIn (text_of edge) (map text_of edges)).
        let other = of_map text_of (text_of edge) edges among in
        let same : other.0 ≡ edge = laws.texts other.0 edge (spelled other.0 (inr other.1)) (spelled edge (inl refl)) other.2 in
        let longer : edge.len < other.0.len = each_in (λ (f : Edge). edge.len < f.len) edges other.0 (pairs_head (λ (e f : Edge). e.len < f.len) edge edges rises) other.1 in
        omega (arith, longer, ap (λ (e : Edge). e.len) same)),
    texts_apart edges (pairs_tail (λ (e f : Edge). e.len < f.len) edge edges rises) (λ (e : Edge) (among : IsIn e edges). spelled e (inr among)),
  )

  edges_apart : (domain : Rules) (number : Option ℤ) → IsDomain domain → lies_in domain.min domain.max number ≡ true → AreApart (map text_of (edges_for domain number))
  edges_apart domain None is held = tt
  edges_apart domain (Some z) is held =
      let inside : InDomain domain z = (low_end domain.min domain.max z held, high_end domain.min domain.max z held) in
      texts_apart (edges_of domain z) (laws.edges domain z).1 (λ (e : Edge) (among : IsIn e (edges_of domain z)).
      let is_edge : IsEdgeOf domain z e = ((laws.edges domain z).0 e).0 (contained e (edges_of domain z) among) in
      prefix_fits domain e (offset_of domain z) (stored_level domain e.len is_edge.0) (offset_fits domain z is inside) is_edge.1)

  pub items_apart : (kind : FieldKind) (value : Plain) → IsKeyed kind → IsKeptBy value kind → AreApart (value_items kind value)
  items_apart k.Plain value keyed kept = tt
  items_apart (k.Equality key_id value_kind _ _) value keyed kept = ((λ (none : ⊥). none), tt)
  items_apart (k.Range key_id value_kind _ _ domain) value keyed kept = edges_apart domain (number_in value) keyed.1 kept.1
