-- What is read of payloads has the form in which it is written.
use Rattle.std.proofs.Common.{◌≡◌, ℕ, pos, ◌≤◌, ◌≤ℤ◌, List, length, refl, ap, sym, subst, ◌∙◌, Option, Ok}
use Rattle.std.specs.Prelude.{codes}
use Rattle.qe_document.specs.Names.{value_named}
use Rattle.qe_layout.specs.declared.malformed.Kind.TheVariants.{Missing}
use Rattle.qe_layout.specs.Blobs.{opened}
use Rattle.qe_layout.specs.Layouts.{Element, slot}
use Rattle.qe_parts.specs.declared.parts.Part.{Part}
use Rattle.qe_parts.specs.Carried.{extra_names, picked}
use Rattle.qe_parts.specs.Parts.{sealed_in, number_in}
use Rattle.qe_parts.proofs.ExtraLemmas.{slot_of, extra_picked}
use Rattle.qe_parts.proofs.FormLemmas.{bind_ok, read_slots, held, maybe_held, sealed_long, number_some, carried_again}
use Rattle.qe_insert.specs.declared.insert.InsertPayload.{InsertPayload}
use Rattle.qe_insert.specs.Insert as i
use Rattle.qe_insert.proofs.FormLemmas.{edges_few}
use Rattle.qe_find.specs.declared.equal.FindEqual.{FindEqual}
use Rattle.qe_find.specs.declared.range.FindRange.{FindRange}
use Rattle.qe_find.specs.Equal as e
use Rattle.qe_find.specs.Range as r
use Rattle.qe_find.proofs.FormLemmas.{FitsInner, inner_part_fits}

insert_form : (x : InsertPayload) (elements : List Element) → i.insert_of elements ≡ Ok x → i.FitsInsert x
unfolding i.insert_of i.insert_reads slot_of
insert_form x elements is =
    let found = read_slots i.insert_reads i.insert_rows i.insert_build x elements is in
    let each = found.1.1.1.1.1.1 in
    let at : List ℕ → Option Part = λ name. slot i.insert_reads name (value_named name elements) in
    let extra : x.extra ≡ picked extra_names elements =
    ap (λ y. y.extra) found.0 ∙ extra_picked i.insert_reads elements (λ v. refl) (λ v. refl) (λ v. refl) (λ v. refl) (λ v. refl) in
    record {
      value = subst (λ (y : InsertPayload). 80 ≤ length y.v) (sym found.0)
          (held i.insert_reads elements (codes "v") Missing (λ s. 80 ≤ length (sealed_in s)) (λ value y is. sealed_long (codes "v") value y is) (at (codes "v")) each.0);
      factor = subst (λ (y : InsertPayload). pos 0 ≤ℤ y.k) (sym found.0)
          (held i.insert_reads elements (codes "k") Missing (λ s. pos 0 ≤ℤ number_in s) (λ value y is. number_some (codes "k") value y is) (at (codes "k")) each.1.1.1.0);
      edges = subst (λ (y : InsertPayload). i.FewEdges y.g) (sym found.0)
          (maybe_held i.insert_reads elements (codes "g") (λ s. i.FewEdges (i.edges_in s)) tt (λ value y is. edges_few (codes "g") value y is) (at (codes "g")) each.1.1.1.1.0);
      extra = carried_again x.extra elements extra;
    }

pub insert_at_fits : (x : InsertPayload) (blob : List ℕ) → i.insert_at blob ≡ Ok x → i.FitsInsert x
unfolding i.insert_at
insert_at_fits x blob is = let found = bind_ok (opened 11 blob) i.insert_of x is in insert_form x found.0 found.1.1

pub equal_at_fits : (x : FindEqual) (blob : List ℕ) → e.equal_at blob ≡ Ok x → pos 0 ≤ℤ x.cm
unfolding e.equal_at e.equal_of e.equal_reads
equal_at_fits x blob is =
    let opening = bind_ok (opened 12 blob) e.equal_of x is in
    let elements = opening.0 in
    let found = read_slots e.equal_reads e.equal_rows e.equal_build x elements opening.1.1 in
    subst (λ (y : FindEqual). pos 0 ≤ℤ y.cm) (sym found.0)
    (held e.equal_reads elements (codes "cm") Missing (λ s. pos 0 ≤ℤ number_in s) (λ value y is. number_some (codes "cm") value y is)
    (slot e.equal_reads (codes "cm") (value_named (codes "cm") elements)) found.1.1.1.1.0)

range_form : (x : FindRange) (elements : List Element) → r.range_of elements ≡ Ok x → r.FitsRange x
unfolding r.range_of r.range_reads slot_of
range_form x elements is =
    let found = read_slots r.range_reads r.range_rows r.range_build x elements is in
    let inner = held r.range_reads elements (codes "payload") Missing (λ s. FitsInner (r.inner_in s)) (λ value y is. inner_part_fits (codes "payload") value y is)
    (slot r.range_reads (codes "payload") (value_named (codes "payload") elements)) found.1.0
    in
    let extra : x.extra ≡ picked extra_names elements =
    ap (λ y. y.extra) found.0 ∙ extra_picked r.range_reads elements (λ v. refl) (λ v. refl) (λ v. refl) (λ v. refl) (λ v. refl) in
    record {
      factor = subst (λ (y : FindRange). pos 0 ≤ℤ y.cm) (sym found.0) inner.factor;
      edges = subst (λ (y : FindRange). length y.g ≤ 4096) (sym found.0) inner.edges;
      extra = carried_again x.extra elements extra;
    }

pub range_at_fits : (x : FindRange) (blob : List ℕ) → r.range_at blob ≡ Ok x → r.FitsRange x
unfolding r.range_at
range_at_fits x blob is = let found = bind_ok (opened 13 blob) r.range_of x is in range_form x found.0 found.1.1
