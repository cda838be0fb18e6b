-- A value's items and a term's have one in common exactly where the term holds of the value.
use Rattle.std.proofs.Common.{◌≡◌, ℕ, ℤ, ◌≤ℤ◌, ◌<◌, ◌^◌, List, [], ◌∷◌, map, Bool, true, false, ◌&&◌, ◌||◌, refl, sym, ap, ◌∙◌, subst, arith}
use Rattle.std.specs.Prelude.{int_le, bytes_eq, Option, None, Some}
use Rattle.std.proofs.lemmas.Bool.{and_from, and_parts, false≢true, eq-eqb}
use Rattle.std.proofs.lemmas.Int.{ints}
use Rattle.qe_value.specs.declared.value.Plain.{Plain}
use Rattle.qe_edges.specs.declared.edge.Edge.{Edge}
use Rattle.qe_edges.specs.Prefixes.{IsEdgeOf, IsInCover, IsShared, cover_of, edges_of}
use Rattle.qe_edges.specs.Rules.{Rules, InDomain, IsDomain, offset_of}
use Rattle.qe_edges.specs.Texts.{text_of}
use Rattle.qe_field.specs.Values.{kind_of, lies_in, number_in}
use Rattle.qe_field.specs.declared.field.FieldKind.{FieldKind}
use Rattle.qe_field.specs.declared.field.FieldKind.TheVariants as k
use Rattle.qe_plain.specs.Collection.{same_value}
use Rattle.qe_plain.specs.declared.command.Term.TheVariants as t
use Rattle.qe_schema.specs.Resolved.{IsEqualityOf, IsKeptBy, IsRange}
use Rattle.qe_labels.specs.Under.{Under}
use Rattle.qe_encodes.specs.Fields.{IsKeyed, IsUnder, kind_at}
use Rattle.qe_encodes.specs.Items.{bytes_of, cover_in, edges_for, meet, value_items}
use Rattle.qe_encodes.specs.Laws.{EdgeLaws, ItemsMeet}
use Rattle.qe_encodes.proofs.EdgeLemmas.{offset_fits, prefix_fits, stored_level}
use Rattle.qe_encodes.proofs.FieldLemmas.{allowed_at, keyed_at}
use Rattle.qe_encodes.proofs.MemberLemmas.{IsIn, contained, in_at, in_map, meet_from, meet_tells, of_map, same_test}

lies : (lo hi z : ℤ) → lo ≤ℤ z → z ≤ℤ hi → (int_le lo z && int_le z hi) ≡ true
lies lo hi z low high = and_from (int_le lo z) (int_le z hi) (grind (arith, ints)) (grind (arith, ints))

low_end : (lo hi z : ℤ) → (int_le lo z && int_le z hi) ≡ true → lo ≤ℤ z
low_end lo hi z within = let part = (and_parts (int_le lo z) (int_le z hi) within).0 in grind (arith, ints)

high_end : (lo hi z : ℤ) → (int_le lo z && int_le z hi) ≡ true → z ≤ℤ hi
high_end lo hi z within = let part = (and_parts (int_le lo z) (int_le z hi) within).1 in grind (arith, ints)

module _ (laws : EdgeLaws) (rules : Rules) (v lo hi : ℤ) (domain : IsDomain rules) (held : InDomain rules v) where
  edge_spelled : (e : Edge) → IsEdgeOf rules v e → e.prefix < 2 ^ e.len
  edge_spelled e is = prefix_fits rules e (offset_of rules v) (stored_level rules e.len is.0) (offset_fits rules v domain held) is.1

  shared_text : (item : List ℕ) → IsIn item (map text_of (edges_of rules v)) → IsIn item (map text_of (cover_of rules lo hi))
      → (e : Edge) × IsShared rules v lo hi e
  shared_text item here there =
      let edge = of_map text_of item (edges_of rules v) here in
      let prefix = of_map text_of item (cover_of rules lo hi) there in
      let is_edge : IsEdgeOf rules v edge.0 = ((laws.edges rules v).0 edge.0).0 (contained edge.0 (edges_of rules v) edge.1) in
      let in_cover : IsInCover rules lo hi prefix.0 = ((laws.cover rules lo hi).0 prefix.0).0 (contained prefix.0 (cover_of rules lo hi) prefix.1) in
      let same : edge.0 ≡ prefix.0 = laws.texts edge.0 prefix.0 (edge_spelled edge.0 is_edge) in_cover.spelled (edge.2 ∙ sym prefix.2) in
      (edge.0, (is_edge, subst (IsInCover rules lo hi) (sym same) in_cover))

  texts_shared : (e : Edge) → IsShared rules v lo hi e → meet (map text_of (edges_of rules v)) (map text_of (cover_of rules lo hi)) ≡ true
  texts_shared e (is_edge, in_cover) =
      let at = ((laws.edges rules v).0 e).1 is_edge in
      let place = ((laws.cover rules lo hi).0 e).1 in_cover in
      meet_from (text_of e) (map text_of (edges_of rules v)) (map text_of (cover_of rules lo hi))
      (in_map text_of e (edges_of rules v) (in_at e (edges_of rules v) at.0 at.1 at.2))
      (in_map text_of e (cover_of rules lo hi) (in_at e (cover_of rules lo hi) place.0 place.1 place.2))

  pub range_meets : meet (map text_of (edges_of rules v)) (map text_of (cover_of rules lo hi)) ≡ (int_le lo v && int_le v hi)
  range_meets = same_test _ _
      (λ passes. let found = meet_tells (map text_of (edges_of rules v)) (map text_of (cover_of rules lo hi)) passes in
      let inside = (laws.meet rules v lo hi domain held).1 (shared_text found.0 found.1 found.2) in
      lies lo hi v inside.0 inside.1)
      (λ within. let shared = (laws.meet rules v lo hi domain held).0 (low_end lo hi v within, high_end lo hi v within) in
      texts_shared shared.0 shared.1)

or_false : (b : Bool) → (b || false) ≡ b
or_false true = refl
or_false false = refl

-- values of one type are the same where their bytes are
pub equal_meets : (value wanted : Plain) → kind_of value ≡ kind_of wanted → meet (bytes_of value ∷ []) (bytes_of wanted ∷ []) ≡ same_value value wanted
equal_meets value wanted kinds =
    or_false (bytes_eq (bytes_of value) (bytes_of wanted) || false) ∙ or_false (bytes_eq (bytes_of value) (bytes_of wanted))
    ∙ sym (ap (λ b. b && bytes_eq (bytes_of value) (bytes_of wanted)) (eq-eqb (kind_of value) (kind_of wanted) kinds))

-- by how the field is kept
equal_kinds : (kind : FieldKind) (value wanted : Plain) → IsKeptBy value kind → IsEqualityOf wanted kind
    → meet (value_items kind value) (bytes_of wanted ∷ []) ≡ same_value value wanted
equal_kinds k.Plain value wanted kept is = absurd is
equal_kinds (k.Equality key_id value_kind _ _) value wanted kept is = equal_meets value wanted (kept ∙ sym is)
equal_kinds (k.Range key_id value_kind _ _ domain) value wanted kept is = absurd is

module _ (laws : EdgeLaws) where
  numbers_meet : (domain : Rules) (number : Option ℤ) (lo hi : ℤ) → IsDomain domain → lies_in domain.min domain.max number ≡ true
      → meet (map text_of (edges_for domain number)) (map text_of (cover_of domain lo hi)) ≡ lies_in lo hi number
  numbers_meet domain None lo hi is held = absurd (false≢true held)
  numbers_meet domain (Some z) lo hi is held = range_meets laws domain z lo hi is (low_end domain.min domain.max z held, high_end domain.min domain.max z held)

  range_kinds : (kind : FieldKind) (value : Plain) (lo hi : ℤ) → IsKeptBy value kind → IsKeyed kind → IsRange kind
      → meet (value_items kind value) (map text_of (cover_in kind lo hi)) ≡ lies_in lo hi (number_in value)
  range_kinds k.Plain value lo hi kept keyed is = absurd is
  range_kinds (k.Equality key_id value_kind _ _) value lo hi kept keyed is = absurd is
  range_kinds (k.Range key_id value_kind _ _ domain) value lo hi kept keyed is = numbers_meet domain (number_in value) lo hi keyed.1 kept.1

  pub items_meet : (u : Under) → IsUnder u → ItemsMeet u
  items_meet u is field value (t.Id wanted) kept of_field is_term = absurd of_field
  items_meet u is field value (t.Equal of wanted) kept of_field is_term =
      equal_kinds (kind_at u.schema field) value wanted kept
      (subst (λ number. IsEqualityOf wanted (kind_at u.schema number)) of_field (allowed_at u.schema of (IsEqualityOf wanted) is_term))
  items_meet u is field value (t.Between of lo hi) kept of_field is_term =
      subst (λ number. meet (value_items (kind_at u.schema field) value) (map text_of (cover_in (kind_at u.schema number) lo hi)) ≡ lies_in lo hi (number_in value))
      (sym of_field)
      (range_kinds (kind_at u.schema field) value lo hi kept (keyed_at u is field)
      (subst (λ number. IsRange (kind_at u.schema number)) of_field (allowed_at u.schema of IsRange is_term)))
