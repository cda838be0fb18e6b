-- Insert payloads are read again as they are written.
use Rattle.std.proofs.Common.{◌≡◌, ℕ, pos, ◌≤◌, ◌≤ℤ◌, true, List, [], ◌∷◌, ◌++◌, length, refl, ap, sym, subst, ◌∙◌, Option, None, Some, Ok}
use Rattle.std.specs.Prelude.{codes, option_map}
use Rattle.std.specs.List.{AllByRecursion}
use Rattle.qe_ecoc.specs.Forms.{cipher_bytes, cipher_from}
use Rattle.qe_layout.specs.Refusal.{map_read}
use Rattle.qe_layout.specs.Layouts.{Element, IsLaid}
use Rattle.qe_layout.specs.Writing.{written}
use Rattle.qe_layout.proofs.WrittenLemmas.{written_laid, written_read}
use Rattle.qe_parts.specs.declared.parts.Part.{Part}
use Rattle.qe_parts.specs.declared.edges.EdgeTokens.{EdgeTokens}
use Rattle.qe_insert.specs.declared.insert.InsertPayload.{InsertPayload}
use Rattle.qe_parts.specs.Parts.{sealed}
use Rattle.qe_parts.specs.Carried.{extra_names, picked_one, picked}
use Rattle.qe_parts.proofs.WriteLemmas.{spell, token_again, cipher_again, key_id_again, sealed_again, number_again, count_some, bounded_again, written-optional, spelled-optional, carried_rows, carried_slots, written-carried, spelled-carried, slot_at, extra_again}
use Rattle.qe_parts.specs.Edges.{edge_elements}
use Rattle.qe_parts.specs.declared.parts.Part.TheVariants as part
use Rattle.qe_insert.specs.Insert as i

-- edges
pub edge_again : (x : EdgeTokens) → length x.d ≡ 32 → length x.s ≡ 32 → length x.l ≡ 32 → cipher_from (cipher_bytes x.p) ≡ Some x.p → i.edge_of (edge_elements x) ≡ Ok x
unfolding i.edge_of i.edge_reads
edge_again x d s l c =
    written_read i.edge_reads spell i.edge_rows i.edge_build (Some (part.Token x.d) ∷ Some (part.Token x.s) ∷ Some (part.Token x.l) ∷ Some (part.Cipher x.p) ∷ [])
    (refl, (refl, (refl, (refl, tt))))
    (token_again (codes "d") x.d d, (token_again (codes "s") x.s s, (token_again (codes "l") x.l l, (cipher_again (codes "p") x.p c, tt))))

pub edges_again : (name : List ℕ) (g : List EdgeTokens) → 1 ≤ length g → length g ≤ i.most_edges → AllByRecursion (λ x. i.edge_of (edge_elements x) ≡ Ok x) g
    → i.edges name (spell (part.Edges g)) ≡ Ok (part.Edges g)
unfolding i.edge_item
edges_again name g some few all =
    ap (map_read (λ g. part.Edges g)) (bounded_again true i.most_edges i.edge_of edge_elements name g (count_some name i.most_edges (length g) some few) all)

-- insert payloads
abbrev insert_slots : InsertPayload → List (Option Part)
insert_slots x =
    Some (part.Token x.d) ∷ Some (part.Token x.s) ∷ Some (part.Cipher x.p) ∷ Some (part.KeyId x.u) ∷ Some (part.Int32 x.t) ∷ Some (part.Sealed x.v)
    ∷ Some (part.Token x.e) ∷ Some (part.Token x.l) ∷ Some (part.Number x.k) ∷ option_map (λ g. part.Edges g) x.g ∷ carried_slots extra_names x.extra

edges_tail : (g : Option (List EdgeTokens)) (extra : List Element) → extra ≡ picked extra_names extra
    → written spell ((codes "g", None) ∷ carried_rows extra_names) (option_map (λ g. part.Edges g) g ∷ carried_slots extra_names extra)
    ≡ picked_one (codes "g") (i.edges_value g) ++ extra
edges_tail g extra is =
    written-optional (λ g. part.Edges g) (codes "g") (carried_rows extra_names) g (carried_slots extra_names extra)
    ∙ ap (λ found. picked_one (codes "g") found ++ written spell (carried_rows extra_names) (carried_slots extra_names extra)) (same_value g)
    ∙ ap (λ rest. picked_one (codes "g") (i.edges_value g) ++ rest) (written-carried extra_names extra ∙ sym is)
  where
    same_value : (g : Option (List EdgeTokens)) → option_map (λ g. spell (part.Edges g)) g ≡ i.edges_value g
    same_value None = refl
    same_value (Some g) = refl

same_edges : (g : Option (List EdgeTokens)) → i.edges_in (option_map (λ g. part.Edges g) g) ≡ g
same_edges None = refl
same_edges (Some g) = refl

optional_edges : (g : Option (List EdgeTokens)) → i.FewEdges g → i.AreAgain g → (list : List EdgeTokens) → g ≡ Some list
    → i.edges (codes "g") (spell (part.Edges list)) ≡ Ok (part.Edges list)
optional_edges None few again list is = absurd (cc)
optional_edges (Some g) few again list is =
    let same : g ≡ list = cc in
    subst (λ (x : List EdgeTokens). i.edges (codes "g") (spell (part.Edges x)) ≡ Ok (part.Edges x)) same (edges_again (codes "g") g few.0 few.1 again)

insert_laid : (x : InsertPayload) → i.HasLongParts x → 80 ≤ length x.v → pos 0 ≤ℤ x.k → i.FewEdges x.g → i.AreAgain x.g
    → IsLaid i.insert_reads i.insert_rows (insert_slots x) (written spell i.insert_rows (insert_slots x))
unfolding i.insert_reads
insert_laid x long sealed natural few again =
    written_laid i.insert_reads spell i.insert_rows (insert_slots x)
    (refl, (refl, (refl, (refl, (refl, (refl, (refl, (refl, (refl, (refl, (refl, (refl, (refl, (refl, (refl, tt))))))))))))))) (
      token_again (codes "d") x.d long.d,
      (
        token_again (codes "s") x.s long.s,
        (
          cipher_again (codes "p") x.p long.p,
          (
            key_id_again (codes "u") x.u long.u,
            (
              refl,
              (
                sealed_again (codes "v") x.v sealed,
                (
                  token_again (codes "e") x.e long.e,
                  (
                    token_again (codes "l") x.l long.l,
                    (
                      number_again (codes "k") x.k natural,
                      spelled-optional i.insert_reads (λ g. part.Edges g) (codes "g") (carried_rows extra_names) x.g (carried_slots extra_names x.extra) (optional_edges x.g few again)
                          (spelled-carried i.insert_reads extra_names x.extra ((λ v. refl), ((λ v. refl), ((λ v. refl), ((λ v. refl), ((λ v. refl), tt)))))),
                    ),
                  ),
                ),
              ),
            ),
          ),
        ),
      ),
    )

pub insert_is : (x : InsertPayload) → i.HasLongParts x → 80 ≤ length x.v → pos 0 ≤ℤ x.k → i.FewEdges x.g → i.AreAgain x.g → x.extra ≡ picked extra_names x.extra
    → i.IsInsert x (i.insert_elements x)
unfolding slot_at
insert_is x long sealed natural few again is =
    let elements : written spell i.insert_rows (insert_slots x) ≡ i.insert_elements x = ap (λ rest. i.needed_elements x ++ rest) (edges_tail x.g x.extra is) in
    record {
      slots = insert_slots x;
      laid = subst (λ (es : List Element). IsLaid i.insert_reads i.insert_rows (insert_slots x) es) elements (insert_laid x long sealed natural few again);
      built_of = λ j. record {
        d = x.d;
        s = x.s;
        p = x.p;
        u = x.u;
        t = x.t;
        v = x.v;
        e = x.e;
        l = x.l;
        k = x.k;
        g = sym (same_edges x.g) j;
        extra = sym (extra_again x.extra is) j;
      };
    }
