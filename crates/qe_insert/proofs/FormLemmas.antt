-- What is read of an insert payload has the form in which it is written again.
use Rattle.std.proofs.Common.{◌≡◌, ℕ, pos, ◌≤◌, ◌≤ℤ◌, true, List, length, refl, ap, sym, subst, ◌∙◌, Option, Some, Ok}
use Rattle.std.specs.Prelude.{codes}
use Rattle.qe_document.specs.Names.{value_named}
use Rattle.qe_value.specs.declared.value.Plain.{Plain}
use Rattle.qe_layout.specs.declared.malformed.Kind.TheVariants.{Missing}
use Rattle.qe_layout.specs.Documents.{bounded_reads}
use Rattle.qe_layout.specs.Layouts.{Element, slot, slots_of}
use Rattle.qe_layout.proofs.FillLemmas.{arranged-slots}
use Rattle.qe_layout.proofs.LaidLemmas.{laid_arranged}
use Rattle.qe_insert.specs.declared.insert.InsertPayload.{InsertPayload}
use Rattle.qe_parts.specs.declared.parts.Part.{Part}
use Rattle.qe_parts.specs.Carried.{extra_names, picked}
use Rattle.qe_parts.specs.Parts.{sealed_in, number_in}
use Rattle.qe_insert.specs.Insert.{insert_reads, insert_rows, insert_build, IsInsert, FitsInsert}
use Rattle.qe_parts.proofs.ExtraLemmas.{slot_of, extra_picked}
use Rattle.qe_parts.proofs.FormLemmas.{map_ok, built_slots, held, maybe_held, sealed_long, number_some, count_few, count_one, array_count, carried_again}
use Rattle.qe_parts.specs.declared.parts.Part.TheVariants as part
use Rattle.qe_insert.specs.Insert as i

pub insert_extra : (payload : InsertPayload) (elements : List Element) → IsInsert payload elements → payload.extra ≡ picked extra_names elements
unfolding insert_reads slot_of
insert_extra payload elements is =
    let slots : is.slots ≡ slots_of insert_reads insert_rows elements =
    arranged-slots insert_reads insert_rows elements is.slots (laid_arranged insert_reads insert_rows is.slots elements is.laid) in
    ap (λ x. x.extra) is.built_of ∙ ap (λ all. (insert_build all).extra) slots
    ∙ extra_picked insert_reads elements (λ v. refl) (λ v. refl) (λ v. refl) (λ v. refl) (λ v. refl)

pub edges_few : (name : List ℕ) (value : Plain) (x : Part) → i.edges name value ≡ Ok x → i.FewEdges (i.edges_in (Some x))
edges_few name value x is =
    let found = map_ok (λ g. part.Edges g) (bounded_reads true i.most_edges i.edge_item name value) x is in
    let counted = array_count true i.most_edges i.edge_item name value found.0 found.1.0 in
    subst (λ y. i.FewEdges (i.edges_in (Some y))) (sym found.1.1)
    (count_one i.most_edges name (length found.0) counted, count_few true i.most_edges name (length found.0) counted)

-- the payloads
pub insert_fits : (payload : InsertPayload) (elements : List Element) → i.IsInsert payload elements → FitsInsert payload
unfolding i.insert_reads
insert_fits payload elements is =
    let found = built_slots i.insert_reads i.insert_rows i.insert_build payload elements is in
    let each = found.1.1.1.1.1.1 in
    let at : List ℕ → Option Part = λ name. slot i.insert_reads name (value_named name elements) in
    record {
      value = subst (λ (x : InsertPayload). 80 ≤ length x.v) (sym found.0)
          (held i.insert_reads elements (codes "v") Missing (λ s. 80 ≤ length (sealed_in s)) (λ value x is. sealed_long (codes "v") value x is) (at (codes "v")) each.0);
      factor = subst (λ (x : InsertPayload). pos 0 ≤ℤ x.k) (sym found.0)
          (held i.insert_reads elements (codes "k") Missing (λ s. pos 0 ≤ℤ number_in s) (λ value x is. number_some (codes "k") value x is) (at (codes "k")) each.1.1.1.0);
      edges = subst (λ (x : InsertPayload). i.FewEdges x.g) (sym found.0)
          (maybe_held i.insert_reads elements (codes "g") (λ s. i.FewEdges (i.edges_in s)) tt (λ value x is. edges_few (codes "g") value x is) (at (codes "g")) each.1.1.1.1.0);
      extra = carried_again payload.extra elements (insert_extra payload elements is);
    }
