-- Find payloads are read again as they are written.
use Rattle.std.proofs.Common.{◌≡◌, ℕ, pos, ◌≤◌, ◌≤ℤ◌, false, List, [], ◌∷◌, ◌++◌, length, refl, ap, sym, subst, ◌∙◌, Option, Some, Ok}
use Rattle.std.specs.Prelude.{codes}
use Rattle.std.specs.List.{AllByRecursion}
use Rattle.qe_layout.specs.Refusal.{map_read}
use Rattle.qe_layout.specs.Layouts.{Element, IsLaid}
use Rattle.qe_layout.specs.Writing.{written}
use Rattle.qe_layout.proofs.WrittenLemmas.{written_laid, written_read}
use Rattle.qe_parts.specs.declared.parts.Part.{Part}
use Rattle.qe_find.specs.declared.equal.FindEqual.{FindEqual}
use Rattle.qe_parts.specs.declared.edges.FindEdge.{FindEdge}
use Rattle.qe_find.specs.declared.range.FindRange.{FindRange}
use Rattle.qe_parts.specs.declared.edges.Inner.{Inner}
use Rattle.qe_parts.specs.Carried.{extra_names, picked}
use Rattle.qe_find.specs.Equal.{equal_rows, equal_reads, IsEqual, equal_elements, HasLongTokens}
use Rattle.qe_parts.proofs.EntryLemmas.{document_again}
use Rattle.qe_parts.proofs.WriteLemmas.{spell, token_again, number_again, count_any, bounded_again, carried_slots, written-carried, spelled-carried, slot_at, extra_again}
use Rattle.qe_parts.specs.Edges.{find_edge_elements}
use Rattle.qe_value.specs.declared.value.Plain.TheVariants as p
use Rattle.qe_parts.specs.declared.parts.Part.TheVariants as part
use Rattle.qe_find.specs.Range as r

-- find payloads of equality
abbrev equal_slots : FindEqual → List (Option Part)
equal_slots x = Some (part.Token x.d) ∷ Some (part.Token x.s) ∷ Some (part.Token x.l) ∷ Some (part.Number x.cm) ∷ []

pub equal_is : (x : FindEqual) → HasLongTokens x → pos 0 ≤ℤ x.cm → IsEqual x (equal_elements x)
unfolding equal_reads
equal_is x long natural =
    record {
      slots = equal_slots x;
      laid = written_laid equal_reads spell equal_rows (equal_slots x) (refl, (refl, (refl, (refl, tt))))
          (token_again (codes "d") x.d long.d, (token_again (codes "s") x.s long.s, (token_again (codes "l") x.l long.l, (number_again (codes "cm") x.cm natural, tt))));
      built_of = refl;
    }

pub find_edge_again : (x : FindEdge) → length x.d ≡ 32 → length x.s ≡ 32 → length x.l ≡ 32 → r.find_edge_of (find_edge_elements x) ≡ Ok x
unfolding r.find_edge_of r.find_edge_reads
find_edge_again x d s l =
    written_read r.find_edge_reads spell r.find_edge_rows r.find_edge_build (Some (part.Token x.d) ∷ Some (part.Token x.s) ∷ Some (part.Token x.l) ∷ [])
    (refl, (refl, (refl, tt)))
    (token_again (codes "d") x.d d, (token_again (codes "s") x.s s, (token_again (codes "l") x.l l, tt)))

pub find_edges_again : (name : List ℕ) (g : List FindEdge) → length g ≤ r.most_find_edges → AllByRecursion (λ x. r.find_edge_of (find_edge_elements x) ≡ Ok x) g
    → r.find_edges name (spell (part.FindEdges g)) ≡ Ok (part.FindEdges g)
unfolding r.find_edge_item
find_edges_again name g few all =
    ap (map_read (λ g. part.FindEdges g)) (bounded_again false r.most_find_edges r.find_edge_of find_edge_elements name g (count_any name r.most_find_edges (length g) few) all)

-- find payloads of ranges
inner_again : (x : Inner) → length x.g ≤ r.most_find_edges → AllByRecursion (λ edge. r.find_edge_of (find_edge_elements edge) ≡ Ok edge) x.g → pos 0 ≤ℤ x.cm
    → r.inner_of ((codes "g", spell (part.FindEdges x.g)) ∷ (codes "cm", p.Int64 x.cm) ∷ []) ≡ Ok x
unfolding r.inner_of r.inner_reads
inner_again x few all natural =
    written_read r.inner_reads spell r.inner_rows r.inner_build (Some (part.FindEdges x.g) ∷ Some (part.Number x.cm) ∷ []) (refl, (refl, tt))
    (find_edges_again (codes "g") x.g few all, (number_again (codes "cm") x.cm natural, tt))

abbrev range_slots : FindRange → List (Option Part)
range_slots x =
    Some (part.Inner (record { g = x.g; cm = x.cm })) ∷ Some (part.Int32 x.payload_id) ∷ Some (part.Int32 (pos 2)) ∷ Some (part.Int32 (pos 4))
    ∷ carried_slots extra_names x.extra

range_laid : (x : FindRange) → length x.g ≤ r.most_find_edges → AllByRecursion (λ edge. r.find_edge_of (find_edge_elements edge) ≡ Ok edge) x.g → pos 0 ≤ℤ x.cm
    → IsLaid r.range_reads r.range_rows (range_slots x) (written spell r.range_rows (range_slots x))
unfolding r.range_reads
range_laid x few all natural =
    written_laid r.range_reads spell r.range_rows (range_slots x) (refl, (refl, (refl, (refl, (refl, (refl, (refl, (refl, (refl, tt))))))))) (
      ap (map_read (λ y. part.Inner y)) (document_again r.inner_of (codes "payload") (r.inner_elements x) (record { g = x.g; cm = x.cm }) (inner_again (record { g = x.g; cm = x.cm }) few all natural)),
      (refl, (refl, (refl, spelled-carried r.range_reads extra_names x.extra ((λ v. refl), ((λ v. refl), ((λ v. refl), ((λ v. refl), ((λ v. refl), tt)))))))),
    )

pub range_is : (x : FindRange) → length x.g ≤ r.most_find_edges → AllByRecursion (λ edge. r.find_edge_of (find_edge_elements edge) ≡ Ok edge) x.g → pos 0 ≤ℤ x.cm
    → x.extra ≡ picked extra_names x.extra → r.IsRange x (r.range_elements x)
unfolding slot_at
range_is x few all natural is =
    let elements : written spell r.range_rows (range_slots x) ≡ r.range_elements x =
    ap (λ rest. r.head_elements x (r.inner_elements x) ++ rest) (written-carried extra_names x.extra ∙ sym is) in
    record {
      slots = range_slots x;
      laid = subst (λ (es : List Element). IsLaid r.range_reads r.range_rows (range_slots x) es) elements (range_laid x few all natural);
      built_of = λ j. record { g = x.g; cm = x.cm; payload_id = x.payload_id; extra = sym (extra_again x.extra is) j };
    }
