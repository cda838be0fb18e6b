-- Payloads are written no longer than they were read.
use Rattle.std.proofs.Common.{◌≡◌, ℕ, suc, ◌+◌, ◌≤◌, ◌==◌, Bool, true, false, List, [], ◌∷◌, ◌++◌, length, map, refl, ap, sym, subst, ◌∙◌, arith, if◌then◌else◌, Option, None, Some, Ok}
use Rattle.std.specs.Prelude.{bytes_eq, codes, nat_abs}
use Rattle.std.specs.Int.{w32, to_le_bytes}
use Rattle.std.specs.List.{list_any, AllByRecursion}
use Rattle.std.proofs.lemmas.Bool.{eqb-true, or_parts, or_from}
use Rattle.std.proofs.Math.Seq.{take-length}
use Rattle.qe_base.specs.Bytes.{AreBytes}
use Rattle.qe_value.specs.declared.value.Plain.{Plain}
use Rattle.qe_value.specs.declared.value.Plain.TheVariants as p
use Rattle.qe_value.specs.Spelling.{Spelled, spelled, document_bytes, IsDocument, FieldsFit, ItemsFit, Fits_with}
use Rattle.qe_value.proofs.PlainLemmas.{spelled-Binary, out-Binary}
use Rattle.qe_value.proofs.ReaderTools.{AreBytes-rest}
use Rattle.qe_encode.specs.Writing.{written_as}
use Rattle.qe_encode.proofs.FlatLemmas.{written_whole}
use Rattle.qe_encode.proofs.SizeLemmas.{document_lengths, value_length-Binary}
use Rattle.qe_value.specs.Measures.{value_length}
use Rattle.qe_document.specs.Names.{Distinct, is_named, value_named}
use Rattle.qe_layout.specs.declared.malformed.Kind.TheVariants.{KindDiffers}
use Rattle.qe_layout.specs.Blobs.{IsBlob}
use Rattle.qe_layout.specs.Documents.{of_type}
use Rattle.qe_layout.specs.Layouts.{Element}
use Rattle.qe_layout.specs.Refusal.{wrong, bind}
use Rattle.qe_parts.specs.declared.edges.EdgeTokens.{EdgeTokens}
use Rattle.qe_parts.specs.declared.edges.FindEdge.{FindEdge}
use Rattle.qe_parts.specs.Carried.{extra_names, picked_one, picked}
use Rattle.qe_parts.specs.Edges.{edge_elements, find_edge_elements, HasEach, HasEdge, HasFindEdge}
use Rattle.qe_parts.proofs.FormLemmas.{bind_ok}
use Rattle.qe_insert.specs.declared.insert.InsertPayload.{InsertPayload}
use Rattle.qe_insert.specs.Insert.{insert_at, insert_elements, needed_elements, edges_value, written_insert, HasEdges, HasInsert}
use Rattle.qe_insert.proofs.LawLemmas.{insert_blobs}
use Rattle.qe_insert.proofs.NamedLemmas.{insert_has}
use Rattle.qe_find.specs.declared.equal.FindEqual.{FindEqual}
use Rattle.qe_find.specs.declared.range.FindRange.{FindRange}
use Rattle.qe_find.specs.Equal.{equal_at, equal_elements, written_equal, HasEqual}
use Rattle.qe_find.specs.Range.{range_at, range_elements, inner_elements, head_elements, written_range, HasRange}
use Rattle.qe_find.proofs.LawLemmas.{equal_blobs, range_blobs}
use Rattle.qe_find.proofs.NamedLemmas.{equal_has, range_has}
use Rattle.qe_command_document.specs.Payloads.{begins_otherwise, of_first, blob_reads, payload_reads, factor_within, of_field, insert_reads_of, equal_reads_of, range_reads_of}
use Rattle.qe_command_fits.proofs.PayloadLemmas.{payload_ok, factor_ok, of_field_ok}
use Rattle.qe_command_written.specs.Faults.{fault_in}
use Rattle.qe_command_written.proofs.NearLemmas.{IsNear, itself, AreNear, doc_near, EachNear, array_near, HasNear, are_near, right_bytes}

-- elements behind others
all_append : (P : Element → Type 0) (xs ys : List Element) → AllByRecursion P xs → AllByRecursion P ys → AllByRecursion P (xs ++ ys)
all_append P [] ys one other = other
all_append P (x ∷ xs) ys one other = (one.0, all_append P xs ys one.1 other)

module _ (was : List Element) where
  -- a value that stands under its name
  there : (name : List ℕ) (v : Plain) → value_named name was ≡ Some v → HasNear was (name, v)
  there name v is = (v, (is, itself v))

  one_there : (name : List ℕ) (found : Option Plain) → value_named name was ≡ found → AllByRecursion (HasNear was) (picked_one name found)
  one_there name None is = tt
  one_there name (Some v) is = (there name v is, tt)

  picked_there : (names : List (List ℕ)) → AllByRecursion (HasNear was) (picked names was)
  picked_there [] = tt
  picked_there (name ∷ names) =
      all_append (HasNear was) (picked_one name (value_named name was)) (picked names was) (one_there name (value_named name was) refl) (picked_there names)

-- elements that are picked by distinct names have distinct names
one_new : (name other : List ℕ) (found : Option Plain) (rest : List Element) → bytes_eq name other ≡ false → is_named name rest ≡ false
    → is_named name (picked_one other found ++ rest) ≡ false
one_new name other None rest differs new = new
one_new name other (Some v) rest differs new = or_from (bytes_eq name other) (is_named name rest) differs new

one_apart : (name : List ℕ) (found : Option Plain) (rest : List Element) → is_named name rest ≡ false → Distinct rest → Distinct (picked_one name found ++ rest)
one_apart name None rest new apart = apart
one_apart name (Some v) rest new apart = (new, apart)

picked_new : (name : List ℕ) (names : List (List ℕ)) (was : List Element) → list_any (bytes_eq name) names ≡ false → is_named name (picked names was) ≡ false
picked_new name [] was new = refl
picked_new name (other ∷ names) was new =
    let parts = or_parts (bytes_eq name other) (list_any (bytes_eq name) names) new in
    one_new name other (value_named other was) (picked names was) parts.0 (picked_new name names was parts.1)

abbrev AreApart : List (List ℕ) → Type 0
AreApart [] = Unit {0}
AreApart (name ∷ names) = (list_any (bytes_eq name) names ≡ false) × AreApart names

picked_apart : (names : List (List ℕ)) (was : List Element) → AreApart names → Distinct (picked names was)
picked_apart [] was apart = tt
picked_apart (name ∷ names) was apart =
    one_apart name (value_named name was) (picked names was) (picked_new name names was apart.0) (picked_apart names was apart.1)

extra_apart : (was : List Element) → Distinct (picked extra_names was)
extra_apart was = picked_apart extra_names was (refl, (refl, (refl, (refl, (refl, tt)))))

module _ (payload : InsertPayload) (was : List Element) where
  abbrev Tail : List Element
  Tail = picked_one (codes "g") (edges_value payload.g) ++ picked extra_names was

  tail_new : (name : List ℕ) → list_any (bytes_eq name) (codes "g" ∷ extra_names) ≡ false → is_named name Tail ≡ false
  tail_new name new =
      let parts = or_parts (bytes_eq name (codes "g")) (list_any (bytes_eq name) extra_names) new in
      one_new name (codes "g") (edges_value payload.g) (picked extra_names was) parts.0 (picked_new name extra_names was parts.1)

  needed_apart : Distinct (needed_elements payload ++ Tail)
  needed_apart = (
    tail_new (codes "d") refl,
    (
      tail_new (codes "s") refl,
      (
        tail_new (codes "p") refl,
        (
          tail_new (codes "u") refl,
          (
            tail_new (codes "t") refl,
            (
              tail_new (codes "v") refl,
              (
                tail_new (codes "e") refl,
                (
                  tail_new (codes "l") refl,
                  (tail_new (codes "k") refl, one_apart (codes "g") (edges_value payload.g) (picked extra_names was) (picked_new (codes "g") extra_names was refl) (extra_apart was)),
                ),
              ),
            ),
          ),
        ),
      ),
    ),
  )

  insert_distinct : payload.extra ≡ picked extra_names was → Distinct (insert_elements payload)
  insert_distinct is = subst (λ (extra : List Element). Distinct (needed_elements payload ++ (picked_one (codes "g") (edges_value payload.g) ++ extra))) (sym is) needed_apart

range_distinct : (payload : FindRange) (was : List Element) → payload.extra ≡ picked extra_names was → Distinct (range_elements payload)
range_distinct payload was is =
    let new : (name : List ℕ) → list_any (bytes_eq name) extra_names ≡ false → is_named name (picked extra_names was) ≡ false = λ name. picked_new name extra_names was in
    subst (λ (extra : List Element). Distinct (head_elements payload (inner_elements payload) ++ extra)) (sym is)
    (new (codes "payload") refl, (new (codes "payloadId") refl, (new (codes "firstOperator") refl, (new (codes "secondOperator") refl, extra_apart was))))

edge_near : (edge : EdgeTokens) (was : List Element) → HasEdge edge was → AreNear was (edge_elements edge)
edge_near edge was has =
    are_near was (edge_elements edge) (refl, (refl, (refl, (refl, tt))))
    (there was (codes "d") _ has.d, (there was (codes "s") _ has.s, (there was (codes "l") _ has.l, (there was (codes "p") _ has.p, tt))))

edges_each : (edges : List EdgeTokens) (items : List Plain) → HasEach HasEdge edges items → EachNear items (map (λ edge. p.Doc (edge_elements edge)) edges)
edges_each [] [] has = tt
edges_each [] (item ∷ items) has = absurd has
edges_each (edge ∷ edges) [] has = absurd has
edges_each (edge ∷ edges) (item ∷ items) has = (
  subst (λ v. IsNear v (p.Doc (edge_elements edge))) (sym has.0.1.0) (doc_near has.0.0 (edge_elements edge) (edge_near edge has.0.0 has.0.1.1)),
  edges_each edges items has.1,
)

edges_there : (was : List Element) (g : Option (List EdgeTokens)) → HasEdges g (value_named (codes "g") was) → AllByRecursion (HasNear was) (picked_one (codes "g") (edges_value g))
edges_there was None has = tt
edges_there was (Some edges) has =
    ((p.Array has.0, (has.1.0, array_near has.0 (map (λ edge. p.Doc (edge_elements edge)) edges) (edges_each edges has.0 has.1.1))), tt)

insert_near : (payload : InsertPayload) (was : List Element) → HasInsert payload was → AreNear was (insert_elements payload)
insert_near payload was has =
    let extra = subst (AllByRecursion (HasNear was)) (sym has.extra) (picked_there was extra_names) in
    are_near was (insert_elements payload) (insert_distinct payload was has.extra)
    (all_append (HasNear was) (needed_elements payload) (picked_one (codes "g") (edges_value payload.g) ++ payload.extra) (
      there was (codes "d") _ has.d,
      (
        there was (codes "s") _ has.s,
        (
          there was (codes "p") _ has.p,
          (
            there was (codes "u") _ has.u,
            (there was (codes "t") _ has.t, (there was (codes "v") _ has.v, (there was (codes "e") _ has.e, (there was (codes "l") _ has.l, (there was (codes "k") _ has.k, tt))))),
          ),
        ),
      ),
    ) (all_append (HasNear was) (picked_one (codes "g") (edges_value payload.g)) payload.extra (edges_there was payload.g has.g) extra))

equal_near : (payload : FindEqual) (was : List Element) → HasEqual payload was → AreNear was (equal_elements payload)
equal_near payload was has =
    are_near was (equal_elements payload) (refl, (refl, (refl, (refl, tt))))
    (there was (codes "d") _ has.d, (there was (codes "s") _ has.s, (there was (codes "l") _ has.l, (there was (codes "cm") _ has.cm, tt))))

find_edge_near : (edge : FindEdge) (was : List Element) → HasFindEdge edge was → AreNear was (find_edge_elements edge)
find_edge_near edge was has =
    are_near was (find_edge_elements edge) (refl, (refl, (refl, tt)))
    (there was (codes "d") _ has.d, (there was (codes "s") _ has.s, (there was (codes "l") _ has.l, tt)))

find_edges_each : (edges : List FindEdge) (items : List Plain) → HasEach HasFindEdge edges items → EachNear items (map (λ edge. p.Doc (find_edge_elements edge)) edges)
find_edges_each [] [] has = tt
find_edges_each [] (item ∷ items) has = absurd has
find_edges_each (edge ∷ edges) [] has = absurd has
find_edges_each (edge ∷ edges) (item ∷ items) has = (
  subst (λ v. IsNear v (p.Doc (find_edge_elements edge))) (sym has.0.1.0) (doc_near has.0.0 (find_edge_elements edge) (find_edge_near edge has.0.0 has.0.1.1)),
  find_edges_each edges items has.1,
)

range_near : (payload : FindRange) (was : List Element) → HasRange payload was → AreNear was (range_elements payload)
range_near payload was has =
    let edges = map (λ (edge : FindEdge). p.Doc (find_edge_elements edge)) payload.g in
    let inner : AreNear has.inner (inner_elements payload) =
    are_near has.inner (inner_elements payload) (refl, (refl, tt))
    ((p.Array has.items, (has.g, array_near has.items edges (find_edges_each payload.g has.items has.edges))), (there has.inner (codes "cm") _ has.cm, tt)) in
    let extra = subst (AllByRecursion (HasNear was)) (sym has.extra) (picked_there was extra_names) in
    are_near was (range_elements payload) (range_distinct payload was has.extra)
    (all_append (HasNear was) (head_elements payload (inner_elements payload)) payload.extra (
      (p.Doc has.inner, (has.payload_doc, doc_near has.inner (inner_elements payload) inner)),
      (there was (codes "payloadId") _ has.payload_id, (there was (codes "firstOperator") _ has.first, (there was (codes "secondOperator") _ has.second, tt))),
    ) extra)

-- a blob of elements that are near
blob_whole : (kind : ℕ) (was is : List Element) (blob : List ℕ) → IsBlob kind was blob → AreNear was is → IsDocument is × (suc (length (document_bytes is)) ≤ length blob)
blob_whole kind was is blob of near =
    let long : length of.rest ≡ length (document_bytes was) = ap length (sym (take-length of.rest) ∙ of.document.front) in
    let whole : length blob ≡ suc (length of.rest) = ap length of.first in
    let one = document_lengths was in
    let two = document_lengths is in (
      record { fits = near.fits 100 of.document.document.fits; short = omega (arith, one, two, near.short, of.document.document.short) },
      omega (arith, long, whole, one, two, near.short),
    )

insert_whole : (payload : InsertPayload) (blob : List ℕ) → AreBytes blob → insert_at blob ≡ Ok payload → IsDocument (insert_elements payload) × (length (written_insert payload) ≤ length blob)
unfolding written_insert
insert_whole payload blob are is =
    let laid = insert_blobs.read_is_laid payload blob are is in
    blob_whole 11 laid.elements (insert_elements payload) blob laid.blob_is (insert_near payload laid.elements (insert_has payload laid.elements laid.payload_is))

equal_whole : (payload : FindEqual) (blob : List ℕ) → AreBytes blob → equal_at blob ≡ Ok payload → length (written_equal payload) ≤ length blob
unfolding written_equal
equal_whole payload blob are is =
    let laid = equal_blobs.read_is_laid payload blob are is in
    (blob_whole 12 laid.elements (equal_elements payload) blob laid.blob_is (equal_near payload laid.elements (equal_has payload laid.elements laid.payload_is))).1

range_whole : (payload : FindRange) (blob : List ℕ) → AreBytes blob → range_at blob ≡ Ok payload → IsDocument (range_elements payload) × (length (written_range payload) ≤ length blob)
unfolding written_range
range_whole payload blob are is =
    let laid = range_blobs.read_is_laid payload blob are is in
    blob_whole 13 laid.elements (range_elements payload) blob laid.blob_is (range_near payload laid.elements (range_has payload laid.elements laid.payload_is))

-- the value that a blob was read of
blob_is : (kind : ℕ) (name : List ℕ) (value : Plain) (blob : List ℕ) → blob_reads kind name value ≡ Ok blob → value ≡ p.Binary 6 blob
blob_is kind name (p.Binary s b) blob is = by_subtype (s == 6) refl is
  where
    by_first : (other : Bool) → (if other then wrong name KindDiffers else Ok b) ≡ Ok blob → b ≡ blob
    by_first true is = absurd (cc)
    by_first false is = cc

    by_subtype : (same : Bool) → (s == 6) ≡ same → bind (of_type name (if same then Some b else None)) (of_first kind name) ≡ Ok blob → p.Binary s b ≡ p.Binary 6 blob
    by_subtype true one is = ap (λ n. p.Binary n b) (eqb-true s 6 one) ∙ ap (λ bytes. p.Binary 6 bytes) (by_first (begins_otherwise kind b) is)
    by_subtype false other is = absurd (cc)
blob_is kind name _ blob is = absurd (cc)

binary_bytes : (s : ℕ) (b : List ℕ) → AreBytes (spelled (p.Binary s b)).bytes → AreBytes b
binary_bytes s b are = AreBytes-rest s b (right_bytes (to_le_bytes w32 (length b)) (s ∷ b) (subst (λ (x : Spelled). AreBytes x.bytes) (spelled-Binary s b) are))

binary_near : (s : ℕ) (was is : List ℕ) → length is ≤ length was → IsNear (p.Binary s was) (p.Binary s is)
binary_near s was is short = record {
  short = let one = value_length-Binary s was in let two = value_length-Binary s is in omega (arith, one, two, short);
  fits = λ room fits. subst (λ o. Fits_with (FieldsFit room) (ItemsFit room) o) (sym (out-Binary s is)) tt;
}

-- what was read of a value is written as one that is near, and without a fault
pub insert_value_near : (range : Bool) (id : List ℕ) (kind greatest : ℕ) (name : List ℕ) (value : Plain) (x : InsertPayload)
    → insert_reads_of range id kind greatest name value ≡ Ok x → AreBytes (spelled value).bytes
    → IsNear value (p.Binary 6 (written_insert x)) × (fault_in (written_as (insert_elements x) (written_insert x)) ≡ None)
insert_value_near range id kind greatest name value x is are =
    let found = bind_ok (payload_reads 11 insert_at name value) (of_field range id kind greatest name) x is in
    let same : x ≡ found.0 = (of_field_ok range id kind greatest name found.0 x found.1.1).same in
    let read = payload_ok 11 insert_at name value found.0 found.1.0 in
    let value_is = blob_is 11 name value read.0 read.1.0 in
    let blob_are = binary_bytes 6 read.0 (subst (λ v. AreBytes (spelled v).bytes) value_is are) in
    let whole = insert_whole x read.0 blob_are (read.1.1 ∙ ap (λ y. Ok y) (sym same)) in (
      subst (λ v. IsNear v (p.Binary 6 (written_insert x))) (sym value_is) (binary_near 6 read.0 (written_insert x) whole.1),
      ap fault_in (written_whole (insert_elements x) (written_insert x) whole.0),
    )

pub equal_value_near : (greatest : ℕ) (name : List ℕ) (value : Plain) (x : FindEqual) → equal_reads_of greatest name value ≡ Ok x → AreBytes (spelled value).bytes
    → IsNear value (p.Binary 6 (written_equal x))
equal_value_near greatest name value x is are =
    let found = bind_ok (payload_reads 12 equal_at name value) (λ payload. factor_within greatest (nat_abs payload.cm) name payload) x is in
    let same : x ≡ found.0 = (factor_ok greatest (nat_abs found.0.cm) name found.0 x found.1.1).0 in
    let read = payload_ok 12 equal_at name value found.0 found.1.0 in
    let value_is = blob_is 12 name value read.0 read.1.0 in
    let blob_are = binary_bytes 6 read.0 (subst (λ v. AreBytes (spelled v).bytes) value_is are) in
    subst (λ v. IsNear v (p.Binary 6 (written_equal x))) (sym value_is)
    (binary_near 6 read.0 (written_equal x) (equal_whole x read.0 blob_are (read.1.1 ∙ ap (λ y. Ok y) (sym same))))

pub range_value_near : (greatest : ℕ) (name : List ℕ) (value : Plain) (x : FindRange) → range_reads_of greatest name value ≡ Ok x → AreBytes (spelled value).bytes
    → IsNear value (p.Binary 6 (written_range x)) × (fault_in (written_as (range_elements x) (written_range x)) ≡ None)
range_value_near greatest name value x is are =
    let found = bind_ok (payload_reads 13 range_at name value) (λ payload. factor_within greatest (nat_abs payload.cm) name payload) x is in
    let same : x ≡ found.0 = (factor_ok greatest (nat_abs found.0.cm) name found.0 x found.1.1).0 in
    let read = payload_ok 13 range_at name value found.0 found.1.0 in
    let value_is = blob_is 13 name value read.0 read.1.0 in
    let blob_are = binary_bytes 6 read.0 (subst (λ v. AreBytes (spelled v).bytes) value_is are) in
    let whole = range_whole x read.0 blob_are (read.1.1 ∙ ap (λ y. Ok y) (sym same)) in (
      subst (λ v. IsNear v (p.Binary 6 (written_range x))) (sym value_is) (binary_near 6 read.0 (written_range x) whole.1),
      ap fault_in (written_whole (range_elements x) (written_range x) whole.0),
    )
