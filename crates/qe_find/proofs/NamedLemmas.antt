-- Each value of a find payload stands in its document.
use Rattle.std.proofs.Common.{◌≡◌, ℕ, pos, false, List, ap, sym, subst, ◌∙◌, Option, Some, Ok}
use Rattle.std.specs.Prelude.{codes}
use Rattle.qe_document.specs.Names.{value_named}
use Rattle.qe_value.specs.declared.value.Plain.{Plain}
use Rattle.qe_value.specs.declared.value.Plain.TheVariants as p
use Rattle.qe_layout.specs.declared.malformed.Kind.TheVariants.{Missing, ProfileOperator}
use Rattle.qe_layout.specs.Documents.{bounded_reads, document_reads}
use Rattle.qe_layout.specs.Layouts.{Element, slot}
use Rattle.qe_parts.specs.declared.edges.FindEdge.{FindEdge}
use Rattle.qe_parts.specs.declared.edges.Inner.{Inner}
use Rattle.qe_parts.specs.declared.parts.Part.{Part}
use Rattle.qe_parts.specs.declared.parts.Part.TheVariants as part
use Rattle.qe_parts.specs.Edges.{HasEach, HasFindEdge}
use Rattle.qe_parts.specs.Parts.{token_in, whole_in, number_in}
use Rattle.qe_parts.proofs.FormLemmas.{map_ok, built_slots, read_slots}
use Rattle.qe_parts.proofs.NamedLemmas.{held_with, held_as, token_is, whole_is, number_is, operator_is, document_is, array_is}
use Rattle.qe_find.specs.declared.equal.FindEqual.{FindEqual}
use Rattle.qe_find.specs.declared.range.FindRange.{FindRange}
use Rattle.qe_find.specs.Equal.{equal_reads, equal_rows, equal_build, IsEqual, HasEqual}
use Rattle.qe_find.specs.Range as r
use Rattle.qe_find.proofs.FormLemmas.{range_extra}

pub equal_has : (payload : FindEqual) (elements : List Element) → IsEqual payload elements → HasEqual payload elements
unfolding equal_reads
equal_has payload elements is =
    let found = built_slots equal_reads equal_rows equal_build payload elements is in
    let each = found.1 in
    let at : List ℕ → Option Part = λ name. slot equal_reads name (value_named name elements) in
    subst (λ (x : FindEqual). HasEqual x elements) (sym found.0) (record {
      d = held_as equal_reads elements (codes "d") Missing (λ s. p.Binary 0 (token_in s)) (λ value x is. token_is (codes "d") value x is) (at (codes "d")) each.0;
      s = held_as equal_reads elements (codes "s") Missing (λ s. p.Binary 0 (token_in s)) (λ value x is. token_is (codes "s") value x is) (at (codes "s")) each.1.0;
      l = held_as equal_reads elements (codes "l") Missing (λ s. p.Binary 0 (token_in s)) (λ value x is. token_is (codes "l") value x is) (at (codes "l")) each.1.1.0;
      cm = held_as equal_reads elements (codes "cm") Missing (λ s. p.Int64 (number_in s)) (λ value x is. number_is (codes "cm") value x is) (at (codes "cm")) each.1.1.1.0;
    })

edge_has : (edge : FindEdge) (elements : List Element) → r.find_edge_of elements ≡ Ok edge → HasFindEdge edge elements
unfolding r.find_edge_of r.find_edge_reads
edge_has edge elements is =
    let found = read_slots r.find_edge_reads r.find_edge_rows r.find_edge_build edge elements is in
    let each = found.1 in
    let at : List ℕ → Option Part = λ name. slot r.find_edge_reads name (value_named name elements) in
    subst (λ (x : FindEdge). HasFindEdge x elements) (sym found.0) (record {
      d = held_as r.find_edge_reads elements (codes "d") Missing (λ s. p.Binary 0 (token_in s)) (λ value x is. token_is (codes "d") value x is) (at (codes "d")) each.0;
      s = held_as r.find_edge_reads elements (codes "s") Missing (λ s. p.Binary 0 (token_in s)) (λ value x is. token_is (codes "s") value x is) (at (codes "s")) each.1.0;
      l = held_as r.find_edge_reads elements (codes "l") Missing (λ s. p.Binary 0 (token_in s)) (λ value x is. token_is (codes "l") value x is) (at (codes "l")) each.1.1.0;
    })

-- the edges of an array
abbrev ArrayHas : Plain → Option Part → Type 0
ArrayHas value s = (items : List Plain) × ((value ≡ p.Array items) × HasEach HasFindEdge (r.find_edges_in s) items)

edges_have : (name : List ℕ) (value : Plain) (x : Part) → r.find_edges name value ≡ Ok x → ArrayHas value (Some x)
unfolding r.find_edge_item
edges_have name value x is =
    let found = map_ok (λ g. part.FindEdges g) (bounded_reads false r.most_find_edges r.find_edge_item name value) x is in
    subst (λ y. ArrayHas value (Some y)) (sym found.1.1) (array_is r.find_edge_of HasFindEdge edge_has false r.most_find_edges name value found.0 found.1.0)

-- the inner document
record InnerHas (inner : Inner) (elements : List Element) : Type 0 where
  items : List Plain
  g : value_named (codes "g") elements ≡ Some (p.Array items)
  edges : HasEach HasFindEdge inner.g items
  cm : value_named (codes "cm") elements ≡ Some (p.Int64 inner.cm)

inner_has : (inner : Inner) (elements : List Element) → r.inner_of elements ≡ Ok inner → InnerHas inner elements
unfolding r.inner_of r.inner_reads
inner_has inner elements is =
    let found = read_slots r.inner_reads r.inner_rows r.inner_build inner elements is in
    let at : List ℕ → Option Part = λ name. slot r.inner_reads name (value_named name elements) in
    let array = held_with r.inner_reads elements (codes "g") Missing ArrayHas (λ value x is. edges_have (codes "g") value x is) (at (codes "g")) found.1.0 in
    subst (λ (x : Inner). InnerHas x elements) (sym found.0) (record {
      items = array.1.1.0;
      g = array.1.0 ∙ ap (λ v. Some v) array.1.1.1.0;
      edges = array.1.1.1.1;
      cm = held_as r.inner_reads elements (codes "cm") Missing (λ s. p.Int64 (number_in s)) (λ value x is. number_is (codes "cm") value x is) (at (codes "cm")) found.1.1.0;
    })

abbrev DocHas : Plain → Option Part → Type 0
DocHas value s = (inner : List Element) × ((value ≡ p.Doc inner) × InnerHas (r.inner_in s) inner)

doc_has : (name : List ℕ) (value : Plain) (x : Part) → r.inner name value ≡ Ok x → DocHas value (Some x)
doc_has name value x is =
    let found = map_ok (λ y. part.Inner y) (document_reads r.inner_of name value) x is in
    let inner = document_is r.inner_of name value found.0 found.1.0 in
    subst (λ y. DocHas value (Some y)) (sym found.1.1) (inner.0, (inner.1.0, inner_has found.0 inner.0 inner.1.1))

pub range_has : (payload : FindRange) (elements : List Element) → r.IsRange payload elements → r.HasRange payload elements
unfolding r.range_reads
range_has payload elements is =
    let found = built_slots r.range_reads r.range_rows r.range_build payload elements is in
    let each = found.1 in
    let at : List ℕ → Option Part = λ name. slot r.range_reads name (value_named name elements) in
    let doc = held_with r.range_reads elements (codes "payload") Missing DocHas (λ value x is. doc_has (codes "payload") value x is) (at (codes "payload")) each.0 in
    let inner = doc.1.1 in
    record {
      inner = inner.0;
      items = inner.1.1.items;
      payload_doc = doc.1.0 ∙ ap (λ v. Some v) inner.1.0;
      g = inner.1.1.g;
      edges = subst (λ (x : FindRange). HasEach HasFindEdge x.g inner.1.1.items) (sym found.0) inner.1.1.edges;
      cm = inner.1.1.cm ∙ ap (λ (x : FindRange). Some (p.Int64 x.cm)) (sym found.0);
      payload_id = held_as r.range_reads elements (codes "payloadId") Missing (λ s. p.Int32 (whole_in s)) (λ value x is. whole_is (codes "payloadId") value x is) (at (codes "payloadId")) each.1.0
          ∙ ap (λ (x : FindRange). Some (p.Int32 x.payload_id)) (sym found.0);
      first = held_as r.range_reads elements (codes "firstOperator") Missing (λ s. p.Int32 (pos 2)) (λ value x is. operator_is (pos 2) (codes "firstOperator") value x is) (at (codes "firstOperator")) each.1.1.0;
      second = held_as r.range_reads elements (codes "secondOperator") ProfileOperator (λ s. p.Int32 (pos 4)) (λ value x is. operator_is (pos 4) (codes "secondOperator") value x is) (at (codes "secondOperator")) each.1.1.1.0;
      extra = range_extra payload elements is;
    }
