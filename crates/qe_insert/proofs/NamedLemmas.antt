-- Each value of an insert payload stands in its document.
use Rattle.std.proofs.Common.{◌≡◌, ℕ, true, List, refl, ap, sym, subst, ◌∙◌, Option, Some, Ok}
use Rattle.std.specs.Prelude.{codes}
use Rattle.qe_document.specs.Names.{value_named}
use Rattle.qe_value.specs.declared.value.Plain.{Plain}
use Rattle.qe_value.specs.declared.value.Plain.TheVariants as p
use Rattle.qe_ecoc.specs.Forms.{cipher_bytes}
use Rattle.qe_layout.specs.declared.malformed.Kind.TheVariants.{Missing}
use Rattle.qe_layout.specs.Documents.{bounded_reads}
use Rattle.qe_layout.specs.Layouts.{Element, slot}
use Rattle.qe_parts.specs.declared.edges.EdgeTokens.{EdgeTokens}
use Rattle.qe_parts.specs.declared.parts.Part.{Part}
use Rattle.qe_parts.specs.declared.parts.Part.TheVariants as part
use Rattle.qe_parts.specs.Edges.{HasEdge}
use Rattle.qe_parts.specs.Parts.{token_in, cipher_in, key_id_in, sealed_in, whole_in, number_in}
use Rattle.qe_parts.proofs.FormLemmas.{map_ok, built_slots, read_slots}
use Rattle.qe_parts.proofs.NamedLemmas.{maybe_with, held_as, token_is, cipher_is, key_id_is, sealed_is, whole_is, number_is, array_is}
use Rattle.qe_insert.specs.declared.insert.InsertPayload.{InsertPayload}
use Rattle.qe_insert.specs.Insert as i
use Rattle.qe_insert.proofs.FormLemmas.{insert_extra}

edge_has : (edge : EdgeTokens) (elements : List Element) → i.edge_of elements ≡ Ok edge → HasEdge edge elements
unfolding i.edge_of i.edge_reads
edge_has edge elements is =
    let found = read_slots i.edge_reads i.edge_rows i.edge_build edge elements is in
    let each = found.1 in
    let at : List ℕ → Option Part = λ name. slot i.edge_reads name (value_named name elements) in
    subst (λ (x : EdgeTokens). HasEdge x elements) (sym found.0) (record {
      d = held_as i.edge_reads elements (codes "d") Missing (λ s. p.Binary 0 (token_in s)) (λ value x is. token_is (codes "d") value x is) (at (codes "d")) each.0;
      s = held_as i.edge_reads elements (codes "s") Missing (λ s. p.Binary 0 (token_in s)) (λ value x is. token_is (codes "s") value x is) (at (codes "s")) each.1.0;
      l = held_as i.edge_reads elements (codes "l") Missing (λ s. p.Binary 0 (token_in s)) (λ value x is. token_is (codes "l") value x is) (at (codes "l")) each.1.1.0;
      p = held_as i.edge_reads elements (codes "p") Missing (λ s. p.Binary 0 (cipher_bytes (cipher_in s))) (λ value x is. cipher_is (codes "p") value x is) (at (codes "p")) each.1.1.1.0;
    })

edges_have : (name : List ℕ) (value : Plain) (x : Part) → i.edges name value ≡ Ok x → i.HasEdges (i.edges_in (Some x)) (Some value)
unfolding i.edge_item
edges_have name value x is =
    let found = map_ok (λ g. part.Edges g) (bounded_reads true i.most_edges i.edge_item name value) x is in
    let array = array_is i.edge_of HasEdge edge_has true i.most_edges name value found.0 found.1.0 in
    subst (λ y. i.HasEdges (i.edges_in (Some y)) (Some value)) (sym found.1.1) (array.0, (ap (λ v. Some v) array.1.0, array.1.1))

pub insert_has : (payload : InsertPayload) (elements : List Element) → i.IsInsert payload elements → i.HasInsert payload elements
unfolding i.insert_reads
insert_has payload elements is =
    let found = built_slots i.insert_reads i.insert_rows i.insert_build payload elements is in
    let each = found.1 in
    let later = each.1.1.1.1.1 in
    let at : List ℕ → Option Part = λ name. slot i.insert_reads name (value_named name elements) in
    record {
      d = held_as i.insert_reads elements (codes "d") Missing (λ s. p.Binary 0 (token_in s)) (λ value x is. token_is (codes "d") value x is) (at (codes "d")) each.0
          ∙ ap (λ (x : InsertPayload). Some (p.Binary 0 x.d)) (sym found.0);
      s = held_as i.insert_reads elements (codes "s") Missing (λ s. p.Binary 0 (token_in s)) (λ value x is. token_is (codes "s") value x is) (at (codes "s")) each.1.0
          ∙ ap (λ (x : InsertPayload). Some (p.Binary 0 x.s)) (sym found.0);
      p = held_as i.insert_reads elements (codes "p") Missing (λ s. p.Binary 0 (cipher_bytes (cipher_in s))) (λ value x is. cipher_is (codes "p") value x is) (at (codes "p")) each.1.1.0
          ∙ ap (λ (x : InsertPayload). Some (p.Binary 0 (cipher_bytes x.p))) (sym found.0);
      u = held_as i.insert_reads elements (codes "u") Missing (λ s. p.Binary 4 (key_id_in s)) (λ value x is. key_id_is (codes "u") value x is) (at (codes "u")) each.1.1.1.0
          ∙ ap (λ (x : InsertPayload). Some (p.Binary 4 x.u)) (sym found.0);
      t = held_as i.insert_reads elements (codes "t") Missing (λ s. p.Int32 (whole_in s)) (λ value x is. whole_is (codes "t") value x is) (at (codes "t")) each.1.1.1.1.0
          ∙ ap (λ (x : InsertPayload). Some (p.Int32 x.t)) (sym found.0);
      v = held_as i.insert_reads elements (codes "v") Missing (λ s. p.Binary 0 (sealed_in s)) (λ value x is. sealed_is (codes "v") value x is) (at (codes "v")) later.0
          ∙ ap (λ (x : InsertPayload). Some (p.Binary 0 x.v)) (sym found.0);
      e = held_as i.insert_reads elements (codes "e") Missing (λ s. p.Binary 0 (token_in s)) (λ value x is. token_is (codes "e") value x is) (at (codes "e")) later.1.0
          ∙ ap (λ (x : InsertPayload). Some (p.Binary 0 x.e)) (sym found.0);
      l = held_as i.insert_reads elements (codes "l") Missing (λ s. p.Binary 0 (token_in s)) (λ value x is. token_is (codes "l") value x is) (at (codes "l")) later.1.1.0
          ∙ ap (λ (x : InsertPayload). Some (p.Binary 0 x.l)) (sym found.0);
      k = held_as i.insert_reads elements (codes "k") Missing (λ s. p.Int64 (number_in s)) (λ value x is. number_is (codes "k") value x is) (at (codes "k")) later.1.1.1.0
          ∙ ap (λ (x : InsertPayload). Some (p.Int64 x.k)) (sym found.0);
      g = subst (λ (x : InsertPayload). i.HasEdges x.g (value_named (codes "g") elements)) (sym found.0)
          (maybe_with i.insert_reads elements (codes "g") (λ found s. i.HasEdges (i.edges_in s) found) refl (λ value x is. edges_have (codes "g") value x is) (at (codes "g")) later.1.1.1.1.0);
      extra = insert_extra payload elements is;
    }
