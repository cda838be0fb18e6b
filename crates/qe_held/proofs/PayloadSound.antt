-- Payloads whose parts are of their types are spelled by bytes, and read again as they are written.
use Rattle.std.proofs.Common.{◌≡◌, ℕ, pos, ◌≤◌, ◌≤ℤ◌, ◌<◌, ◌^◌, List, [], ◌∷◌, ◌++◌, length, map, Option, None, Some, Ok, refl, sym, ap, ap₂, subst, ◌∙◌, arith}
use Rattle.std.specs.Prelude.{All, FitsSigned, codes}
use Rattle.std.specs.Int.{w32}
use Rattle.std.specs.List.{AllByRecursion}
use Rattle.std.proofs.Math.Seq.{take-length}
use Rattle.std.proofs.lemmas.Int.{ints}
use Rattle.std.proofs.lemmas.List.{length-map}
use Rattle.qe_base.specs.Bytes.{AreBytes}
use Rattle.qe_aes.proofs.ByteLemmas.{AreBytes-cons}
use Rattle.qe_value.specs.declared.value.Plain.{Plain}
use Rattle.qe_value.specs.declared.value.Plain.TheVariants as p
use Rattle.qe_value.specs.Spelling.{IsDocument, document_bytes}
use Rattle.qe_layout.specs.Blobs.{IsBlob}
use Rattle.qe_layout.specs.Layouts.{Element}
use Rattle.qe_ecoc.specs.Forms.{cipher_bytes}
use Rattle.qe_parts.specs.declared.edges.EdgeTokens.{EdgeTokens}
use Rattle.qe_parts.specs.declared.edges.FindEdge.{FindEdge}
use Rattle.qe_parts.specs.Carried.{extra_names, picked, picked_one}
use Rattle.qe_parts.specs.Edges.{edge_elements, find_edge_elements}
use Rattle.qe_insert.specs.declared.insert.InsertPayload.{InsertPayload}
use Rattle.qe_insert.specs.Insert as i
use Rattle.qe_insert.proofs.LawLemmas.{insert_blobs}
use Rattle.qe_insert.proofs.WriteLemmas.{edge_again, insert_is}
use Rattle.qe_find.specs.declared.equal.FindEqual.{FindEqual}
use Rattle.qe_find.specs.declared.range.FindRange.{FindRange}
use Rattle.qe_find.specs.Equal as e
use Rattle.qe_find.specs.Range as r
use Rattle.qe_find.proofs.FitLemmas.{equal_fits}
use Rattle.qe_find.proofs.LawLemmas.{equal_blobs, range_blobs}
use Rattle.qe_find.proofs.WriteLemmas.{equal_is, find_edge_again, range_is}
use Rattle.qe_held.specs.Held.{AreHeldEdges, IsHeldEdge, IsHeldEqual, IsHeldFindEdge, IsHeldInsert, IsHeldRange, IsToken}
use Rattle.qe_held.proofs.AllLemmas.{all_each}
use Rattle.qe_held.proofs.NameLemmas.{known_name}
use Rattle.qe_held.proofs.SoundLemmas.{AreSound, IsSound, IsSoundElement, array_sound, binary_sound, document_is, document_sound, fields_bytes, int32_sound, int64_sound}

token_sound : (room : ℕ) (token : List ℕ) → IsToken token → IsSound room (p.Binary 0 token)
token_sound room token is = binary_sound room 0 token (omega arith) is.bytes

-- what is carried unread, where there is nothing
nothing_picked : (extra : List Element) → extra ≡ [] → extra ≡ picked extra_names extra
nothing_picked extra none = none ∙ ap (λ es. picked extra_names es) (sym none)

-- a blob of a document
blob_of : (first : ℕ) (elements : List Element) → IsDocument elements → IsBlob first elements (first ∷ document_bytes elements)
blob_of first elements document = record {
  rest = document_bytes elements;
  first = refl;
  document = record { document = document; front = take-length (document_bytes elements); within = omega arith };
}

-- ---- what sets a field
edge_sound : (room : ℕ) (edge : EdgeTokens) → IsHeldEdge edge → AreSound room (edge_elements edge)
edge_sound room edge held = record {
  apart = (refl, (refl, (refl, (refl, tt))));
  each = (
    (known_name (codes "d") refl, token_sound room edge.d held.d),
    (
      (known_name (codes "s") refl, token_sound room edge.s held.s),
      (
        (known_name (codes "l") refl, token_sound room edge.l held.l),
        ((known_name (codes "p") refl, binary_sound room 0 (cipher_bytes edge.p) (omega arith) held.p.bytes), tt),
      ),
    ),
  );
}

edges_sound : (edges : List EdgeTokens) → AllByRecursion IsHeldEdge edges → AllByRecursion (IsSound 98) (map (λ edge. p.Doc (edge_elements edge)) edges)
edges_sound [] each = tt
edges_sound (edge ∷ edges) each = (document_sound 97 (edge_elements edge) (edge_sound 97 edge each.0), edges_sound edges each.1)

edges_again : (edges : List EdgeTokens) → AllByRecursion IsHeldEdge edges → AllByRecursion (λ edge. i.edge_of (edge_elements edge) ≡ Ok edge) edges
edges_again [] each = tt
edges_again (edge ∷ edges) each = (edge_again edge each.0.d.long each.0.s.long each.0.l.long each.0.p.again, edges_again edges each.1)

are_again : (g : Option (List EdgeTokens)) → AreHeldEdges g → i.AreAgain g
are_again None held = tt
are_again (Some edges) held = edges_again edges (all_each IsHeldEdge edges held)

module _ (x : InsertPayload) (held : IsHeldInsert x) (none : x.extra ≡ []) where
  whole : Option (List EdgeTokens) → List Element → List Element
  whole g extra = i.needed_elements x ++ (picked_one (codes "g") (i.edges_value g) ++ extra)

  -- the elements that each has
  abbrev Needs : List Element → Type 0
  Needs rest = AllByRecursion (IsSoundElement 99) rest → AllByRecursion (IsSoundElement 99) (i.needed_elements x ++ rest)

  needed : (rest : List Element) → Needs rest
  needed rest each = (
    (known_name (codes "d") refl, token_sound 99 x.d held.d),
    (
      (known_name (codes "s") refl, token_sound 99 x.s held.s),
      (
        (known_name (codes "p") refl, binary_sound 99 0 (cipher_bytes x.p) (omega arith) held.p.bytes),
        (
          (known_name (codes "u") refl, binary_sound 99 4 x.u (omega arith) held.u_bytes),
          (
            (known_name (codes "t") refl, int32_sound 99 x.t held.t),
            (
              (known_name (codes "v") refl, binary_sound 99 0 x.v (omega arith) held.v),
              (
                (known_name (codes "e") refl, token_sound 99 x.e held.e),
                ((known_name (codes "l") refl, token_sound 99 x.l held.l), ((known_name (codes "k") refl, int64_sound 99 x.k held.k), each)),
              ),
            ),
          ),
        ),
      ),
    ),
  )

  whole_sound : (g : Option (List EdgeTokens)) → AreHeldEdges g → i.FewEdges g → AreSound 99 (whole g [])
  unfolding whole
  whole_sound None held few =
      record { apart = (refl, (refl, (refl, (refl, (refl, (refl, (refl, (refl, (refl, tt))))))))); each = needed [] tt }
  whole_sound (Some edges) held few = record {
    apart = (refl, (refl, (refl, (refl, (refl, (refl, (refl, (refl, (refl, (refl, tt))))))))));
    each = needed ((codes "g", p.Array (map (λ edge. p.Doc (edge_elements edge)) edges)) ∷ []) (
      (
        known_name (codes "g") refl,
        array_sound 98 (map (λ edge. p.Doc (edge_elements edge)) edges) (omega (arith, few.1, length-map edges (λ edge. p.Doc (edge_elements edge))))
            (edges_sound edges (all_each IsHeldEdge edges held)),
      ),
      tt,
    );
  }

  pub insert_sound : i.FewEdges x.g → AreSound 99 (i.insert_elements x)
  unfolding whole
  insert_sound few = subst (λ extra. AreSound 99 (whole x.g extra)) (sym none) (whole_sound x.g held.g few)

  pub insert_bytes : i.FewEdges x.g → AreBytes (i.written_insert x)
  unfolding i.written_insert
  insert_bytes few = AreBytes-cons 11 (document_bytes (i.insert_elements x)) (omega arith) (fields_bytes 99 (i.insert_elements x) (insert_sound few))

  pub insert_again : i.FewEdges x.g → 80 ≤ length x.v → pos 0 ≤ℤ x.k → length (document_bytes (i.insert_elements x)) ≤ 16777216 → i.insert_at (i.written_insert x) ≡ Ok x
  unfolding i.written_insert
  insert_again few sealed natural short =
      insert_blobs.laid_is_read x (i.written_insert x) (record {
        elements = i.insert_elements x;
        blob_is = blob_of 11 (i.insert_elements x) (document_is (i.insert_elements x) (insert_sound few) short);
        payload_is = insert_is x (record { d = held.d.long; s = held.s.long; p = held.p.again; u = held.u_long; e = held.e.long; l = held.l.long }) sealed natural few
            (are_again x.g held.g) (nothing_picked x.extra none);
      })

-- ---- what finds a value
module _ (x : FindEqual) (held : IsHeldEqual x) where
  equal_long : e.HasLongTokens x
  equal_long = record { d = held.d.long; s = held.s.long; l = held.l.long }

  equal_sound : AreSound 99 (e.equal_elements x)
  equal_sound = record {
    apart = (refl, (refl, (refl, (refl, tt))));
    each = (
      (known_name (codes "d") refl, token_sound 99 x.d held.d),
      (
        (known_name (codes "s") refl, token_sound 99 x.s held.s),
        ((known_name (codes "l") refl, token_sound 99 x.l held.l), ((known_name (codes "cm") refl, int64_sound 99 x.cm held.cm), tt)),
      ),
    );
  }

  pub equal_bytes : AreBytes (e.written_equal x)
  unfolding e.written_equal
  equal_bytes = AreBytes-cons 12 (document_bytes (e.equal_elements x)) (omega arith) (fields_bytes 99 (e.equal_elements x) equal_sound)

  pub equal_again : pos 0 ≤ℤ x.cm → e.equal_at (e.written_equal x) ≡ Ok x
  unfolding e.written_equal
  equal_again natural =
      equal_blobs.laid_is_read x (e.written_equal x) (record {
        elements = e.equal_elements x;
        blob_is = blob_of 12 (e.equal_elements x) (equal_fits x equal_long held.cm);
        payload_is = equal_is x equal_long natural;
      })

-- ---- what finds an interval
find_edge_sound : (room : ℕ) (edge : FindEdge) → IsHeldFindEdge edge → AreSound room (find_edge_elements edge)
find_edge_sound room edge held = record {
  apart = (refl, (refl, (refl, tt)));
  each = (
    (known_name (codes "d") refl, token_sound room edge.d held.d),
    ((known_name (codes "s") refl, token_sound room edge.s held.s), ((known_name (codes "l") refl, token_sound room edge.l held.l), tt)),
  );
}

find_edges_sound : (edges : List FindEdge) → AllByRecursion IsHeldFindEdge edges → AllByRecursion (IsSound 97) (map (λ edge. p.Doc (find_edge_elements edge)) edges)
find_edges_sound [] each = tt
find_edges_sound (edge ∷ edges) each = (document_sound 96 (find_edge_elements edge) (find_edge_sound 96 edge each.0), find_edges_sound edges each.1)

find_edges_again : (edges : List FindEdge) → AllByRecursion IsHeldFindEdge edges → AllByRecursion (λ edge. r.find_edge_of (find_edge_elements edge) ≡ Ok edge) edges
find_edges_again [] each = tt
find_edges_again (edge ∷ edges) each = (find_edge_again edge each.0.d.long each.0.s.long each.0.l.long, find_edges_again edges each.1)

module _ (x : FindRange) (held : IsHeldRange x) (none : x.extra ≡ []) (few : length x.g ≤ 4096) where
  inner_sound : AreSound 98 (r.inner_elements x)
  inner_sound = record {
    apart = (refl, (refl, tt));
    each = (
      (
        known_name (codes "g") refl,
        array_sound 97 (map (λ edge. p.Doc (find_edge_elements edge)) x.g) (omega (arith, few, length-map x.g (λ edge. p.Doc (find_edge_elements edge))))
            (find_edges_sound x.g (all_each IsHeldFindEdge x.g held.g)),
      ),
      ((known_name (codes "cm") refl, int64_sound 98 x.cm held.cm), tt),
    );
  }

  two : FitsSigned w32 (pos 2)
  two = omega (arith, ints)

  four : FitsSigned w32 (pos 4)
  four = omega (arith, ints)

  head_sound : AreSound 99 (r.head_elements x (r.inner_elements x) ++ [])
  head_sound = record {
    apart = (refl, (refl, (refl, (refl, tt))));
    each = (
      (known_name (codes "payload") refl, document_sound 98 (r.inner_elements x) inner_sound),
      (
        (known_name (codes "payloadId") refl, int32_sound 99 x.payload_id held.payload_id),
        ((known_name (codes "firstOperator") refl, int32_sound 99 (pos 2) two), ((known_name (codes "secondOperator") refl, int32_sound 99 (pos 4) four), tt)),
      ),
    );
  }

  range_sound : AreSound 99 (r.range_elements x)
  range_sound = subst (λ extra. AreSound 99 (r.head_elements x (r.inner_elements x) ++ extra)) (sym none) head_sound

  pub range_bytes : AreBytes (r.written_range x)
  unfolding r.written_range
  range_bytes = AreBytes-cons 13 (document_bytes (r.range_elements x)) (omega arith) (fields_bytes 99 (r.range_elements x) range_sound)

  pub range_again : pos 0 ≤ℤ x.cm → length (document_bytes (r.range_elements x)) ≤ 16777216 → r.range_at (r.written_range x) ≡ Ok x
  unfolding r.written_range
  range_again natural short =
      range_blobs.laid_is_read x (r.written_range x) (record {
        elements = r.range_elements x;
        blob_is = blob_of 13 (r.range_elements x) (document_is (r.range_elements x) range_sound short);
        payload_is = range_is x few (find_edges_again x.g (all_each IsHeldFindEdge x.g held.g)) natural (nothing_picked x.extra none);
      })
