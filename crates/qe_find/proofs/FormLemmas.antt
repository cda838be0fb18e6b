-- What is read of a find payload has the form in which it is written again.
use Rattle.std.proofs.Common.{◌≡◌, ℕ, pos, ◌≤◌, ◌≤ℤ◌, false, List, length, refl, ap, sym, subst, ◌∙◌, Option, Some, Ok}
use Rattle.std.specs.Prelude.{codes}
use Rattle.qe_document.specs.Names.{value_named}
use Rattle.qe_value.specs.declared.value.Plain.{Plain}
use Rattle.qe_layout.specs.declared.malformed.Kind.TheVariants.{Missing}
use Rattle.qe_document.specs.Views.{fields_of}
use Rattle.qe_layout.specs.Documents.{of_type, bounded_reads, document_reads}
use Rattle.qe_layout.specs.Layouts.{Element, slot, slots_of}
use Rattle.qe_layout.specs.Refusal.{read_inside}
use Rattle.qe_layout.proofs.FillLemmas.{arranged-slots}
use Rattle.qe_layout.proofs.LaidLemmas.{laid_arranged}
use Rattle.qe_find.specs.declared.equal.FindEqual.{FindEqual}
use Rattle.qe_parts.specs.declared.parts.Part.{Part}
use Rattle.qe_find.specs.declared.range.FindRange.{FindRange}
use Rattle.qe_parts.specs.declared.edges.Inner.{Inner}
use Rattle.qe_parts.specs.Carried.{extra_names, picked}
use Rattle.qe_find.specs.Equal.{equal_reads, equal_rows, equal_build, IsEqual}
use Rattle.qe_parts.specs.Parts.{number_in}
use Rattle.qe_find.specs.Range.{range_reads, range_rows, range_build, IsRange, FitsRange}
use Rattle.qe_parts.proofs.ExtraLemmas.{slot_of, extra_picked}
use Rattle.qe_parts.proofs.FormLemmas.{map_ok, bind_ok, inside_ok, built_slots, read_slots, held, number_some, count_few, array_count, carried_again}
use Rattle.qe_parts.specs.declared.parts.Part.TheVariants as part
use Rattle.qe_find.specs.Range as r

pub range_extra : (payload : FindRange) (elements : List Element) → IsRange payload elements → payload.extra ≡ picked extra_names elements
unfolding range_reads slot_of
range_extra payload elements is =
    let slots : is.slots ≡ slots_of range_reads range_rows elements =
    arranged-slots range_reads range_rows elements is.slots (laid_arranged range_reads range_rows is.slots elements is.laid) in
    ap (λ x. x.extra) is.built_of ∙ ap (λ all. (range_build all).extra) slots
    ∙ extra_picked range_reads elements (λ v. refl) (λ v. refl) (λ v. refl) (λ v. refl) (λ v. refl)

pub equal_number : (payload : FindEqual) (elements : List Element) → IsEqual payload elements → pos 0 ≤ℤ payload.cm
unfolding equal_reads
equal_number payload elements is =
    let found = built_slots equal_reads equal_rows equal_build payload elements is in
    subst (λ (x : FindEqual). pos 0 ≤ℤ x.cm) (sym found.0)
    (held equal_reads elements (codes "cm") Missing (λ s. pos 0 ≤ℤ number_in s) (λ value x is. number_some (codes "cm") value x is)
    (slot equal_reads (codes "cm") (value_named (codes "cm") elements)) found.1.1.1.1.0)

-- the inner document of a range
pub record FitsInner (x : Inner) : Type 0 where
  pub factor : pos 0 ≤ℤ x.cm
  pub edges : length x.g ≤ 4096

find_edges_few : (name : List ℕ) (value : Plain) (x : Part) → r.find_edges name value ≡ Ok x → length (r.find_edges_in (Some x)) ≤ 4096
find_edges_few name value x is =
    let found = map_ok (λ g. part.FindEdges g) (bounded_reads false r.most_find_edges r.find_edge_item name value) x is in
    let counted = array_count false r.most_find_edges r.find_edge_item name value found.0 found.1.0 in
    subst (λ y. length (r.find_edges_in (Some y)) ≤ 4096) (sym found.1.1) (count_few false r.most_find_edges name (length found.0) counted)

inner_fits : (x : Inner) (elements : List Element) → r.inner_of elements ≡ Ok x → FitsInner x
unfolding r.inner_of r.inner_reads
inner_fits x elements is =
    let found = read_slots r.inner_reads r.inner_rows r.inner_build x elements is in
    let at : List ℕ → Option Part = λ name. slot r.inner_reads name (value_named name elements) in
    record {
      edges = subst (λ (y : Inner). length y.g ≤ 4096) (sym found.0)
          (held r.inner_reads elements (codes "g") Missing (λ s. length (r.find_edges_in s) ≤ 4096) (λ value x is. find_edges_few (codes "g") value x is) (at (codes "g")) found.1.0);
      factor = subst (λ (y : Inner). pos 0 ≤ℤ y.cm) (sym found.0)
          (held r.inner_reads elements (codes "cm") Missing (λ s. pos 0 ≤ℤ number_in s) (λ value x is. number_some (codes "cm") value x is) (at (codes "cm")) found.1.1.0);
    }

pub inner_part_fits : (name : List ℕ) (value : Plain) (x : Part) → r.inner name value ≡ Ok x → FitsInner (r.inner_in (Some x))
inner_part_fits name value x is =
    let found = map_ok (λ y. part.Inner y) (document_reads r.inner_of name value) x is in
    let fields = bind_ok (of_type name (fields_of value)) (λ elements. read_inside name (r.inner_of elements)) found.0 found.1.0 in
    subst (λ y. FitsInner (r.inner_in (Some y))) (sym found.1.1) (inner_fits found.0 fields.0 (inside_ok name (r.inner_of fields.0) found.0 fields.1.1))

pub range_fits : (payload : FindRange) (elements : List Element) → r.IsRange payload elements → FitsRange payload
unfolding r.range_reads
range_fits payload elements is =
    let found = built_slots r.range_reads r.range_rows r.range_build payload elements is in
    let inner = held r.range_reads elements (codes "payload") Missing (λ s. FitsInner (r.inner_in s)) (λ value x is. inner_part_fits (codes "payload") value x is)
    (slot r.range_reads (codes "payload") (value_named (codes "payload") elements)) found.1.0
    in
    record {
      factor = subst (λ (x : FindRange). pos 0 ≤ℤ x.cm) (sym found.0) inner.factor;
      edges = subst (λ (x : FindRange). length x.g ≤ 4096) (sym found.0) inner.edges;
      extra = carried_again payload.extra elements (range_extra payload elements is);
    }
