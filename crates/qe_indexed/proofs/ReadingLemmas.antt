-- The parts that bytes are cut into are those of the value that they are laid out as.
use Rattle.std.proofs.Common.{◌≡◌, ◌≢◌, ℕ, ◌*◌, ◌-◌, ◌≤◌, List, [], ◌∷◌, ◌++◌, length, take, drop, refl, ap, sym, ◌∙◌, arith, Bool, true, false, ◌==◌, if◌then◌else◌, Some, None, Ok, Err, length-drop}
use Rattle.std.specs.Prelude.{slice_get, slice_index}
use Rattle.std.proofs.lemmas.List.{take_at, drop_at, drop-drop, drop_more}
use Rattle.qe_indexed.specs.declared.fault.IndexedFault.TheVariants.{Short, BlobSubtype}
use Rattle.qe_indexed.specs.Parts.{Indexed, most_blocks}
use Rattle.qe_indexed.specs.Spelling.{first_byte, edge_count, joined, head_length, IsLaidOut, HasShape}
use Rattle.qe_indexed.specs.Faults.{refusal_of, equality_refusal, range_refusal, unless_refused}
use Rattle.qe_indexed.specs.Reading.{blocks_in, parts_by, is_range, count_in, shape_at, indexed_at}
use Rattle.qe_indexed.proofs.FaultLemmas.{refused_empty, refusal_of-other}
use Rattle.qe_indexed.proofs.JoinLemmas.{AreBlocks-blocks_in}
use Rattle.qe_indexed.proofs.SpellingLemmas.{tail_of, written-parts, length-written, IsLaidOut-cut, IsLaidOut-one}
use Rattle.qe_indexed.proofs.LawLemmas.{accepted}

length-edges : (range : Bool) (count : ℕ) → length (edge_count range count) ≡ head_length range - 18
length-edges false count = refl
length-edges true count = refl

-- the bytes of a value have its shape
shape_of : (value : Indexed) (bytes : List ℕ) → IsLaidOut value bytes → HasShape value.range (length value.blocks) bytes
shape_of value bytes is =
    let front = first_byte value.range ∷ value.key_id in
    let parts : bytes ≡ front ++ (value.value_kind ∷ tail_of value) = is.bytes_are ∙ written-parts value in
    let front_long : length front ≡ 17 = omega (arith, is.key_id_long) in
    let behind : drop 18 bytes ≡ tail_of value =
    sym (drop-drop 1 17 bytes) ∙ ap (λ bs. drop 1 (drop 17 bs)) parts ∙ ap (drop 1) (drop_at front (value.value_kind ∷ tail_of value) 17 front_long) in
    let long = ap length is.bytes_are ∙ length-written value is.key_id_long is.blocks_long in
    record {
      first = ap (take 1) parts;
      counted =
          ap (take (head_length value.range - 18)) behind
          ∙ take_at (edge_count value.range (length value.blocks)) (value.server_value ++ joined value.blocks) (head_length value.range - 18)
          (length-edges value.range (length value.blocks));
      some = is.within.some;
      few = is.within.few;
      long = omega (arith, long, is.within.long);
    }

-- the first byte tells the kind
is_range-first : (range : Bool) (bytes : List ℕ) → slice_index bytes 0 ≡ first_byte range → is_range bytes ≡ range
is_range-first false bytes first = ap (λ byte. byte == 15) first
is_range-first true bytes first = ap (λ byte. byte == 15) first

-- and so the number of blocks is known
count_in-known : (range : Bool) (bytes : List ℕ) (count : ℕ) → is_range bytes ≡ range → take (head_length range - 18) (drop 18 bytes) ≡ edge_count range count
    → 19 ≤ length bytes → (range ≡ false → count ≡ 1) → count_in bytes ≡ count
count_in-known false bytes count kind counted long one = ap (λ range. if range then slice_index bytes 18 else 1) kind ∙ sym (one refl)
count_in-known true bytes count kind counted long one =
    ap (λ range. if range then slice_index bytes 18 else 1) kind
    ∙ ap (λ bs. slice_index bs 0) (sym (ap (take 1) (drop_more bytes 18 0 long)) ∙ counted)

-- the parts are the value's
pub parts_are : (value : Indexed) (bytes : List ℕ) → IsLaidOut value bytes → indexed_at bytes ≡ Ok value
unfolding indexed_at
parts_are value bytes is =
    let shape = shape_of value bytes is in
    let count = length value.blocks in
    let body = drop (head_length value.range) bytes in
    let tail = drop (length body - 96 * count) body in
    let tail_long : length tail ≡ 96 * count =
    length-drop (length body - 96 * count) body ∙ omega (arith, length-drop (head_length value.range) bytes, shape.long) in
    let cut : IsLaidOut (parts_by value.range count bytes) bytes =
    IsLaidOut-cut value.range count bytes (take (head_length value.range) bytes) body (take (length body - 96 * count) body) tail _ _ (blocks_in count tail)
    shape refl refl refl refl (AreBlocks-blocks_in count tail tail_long).0 refl refl in
    let kind : is_range bytes ≡ value.range =
    is_range-first value.range bytes
    (ap (λ bs. slice_index bs 0) (sym (ap (take 1) (drop_more bytes 0 0 (omega (arith, shape.long)))) ∙ shape.first)) in
    let counted : count_in bytes ≡ count = count_in-known value.range bytes count kind shape.counted (omega (arith, shape.long))
    (λ equality. omega (arith, is.within.some, is.within.few, ap most_blocks equality)) in
    ap (λ due. unless_refused due (parts_by (is_range bytes) (count_in bytes) bytes)) (accepted value bytes is)
    ∙ ap (λ range. Ok (parts_by range (count_in bytes) bytes)) kind ∙ ap (λ n. Ok (parts_by value.range n bytes)) counted
    ∙ ap Ok (IsLaidOut-one (parts_by value.range count bytes) value bytes cut is)

-- the shape, by the first byte
pub shape_at-none : (bytes : List ℕ) → None ≡ slice_get bytes 0 → shape_at bytes ≡ Err Short
unfolding shape_at
shape_at-none bytes is = rw (refused_empty bytes is)

pub shape_at-14 : (bytes : List ℕ) (first : ℕ) → Some first ≡ slice_get bytes 0 → first ≡ 14
    → shape_at bytes ≡ unless_refused (equality_refusal (length bytes)) (false, 1)
unfolding refusal_of shape_at
shape_at-14 [] first is same = absurd (cc)
shape_at-14 (b ∷ rest) first is same =
    let begins : first ≡ b = cc in
    rw (sym begins ∙ same) refl

pub shape_at-15 : (bytes : List ℕ) (first : ℕ) → Some first ≡ slice_get bytes 0 → first ≡ 15
    → shape_at bytes ≡ unless_refused (range_refusal (length bytes) (slice_index bytes 18)) (true, slice_index bytes 18)
unfolding refusal_of shape_at
shape_at-15 [] first is same = absurd (cc)
shape_at-15 (b ∷ rest) first is same =
    let begins : first ≡ b = cc in
    rw (sym begins ∙ same) refl

pub shape_at-other : (bytes : List ℕ) (first : ℕ) → Some first ≡ slice_get bytes 0 → first ≢ 14 → first ≢ 15 → shape_at bytes ≡ Err (BlobSubtype first)
unfolding shape_at
shape_at-other bytes first is not_14 not_15 = rw (refusal_of-other bytes first is not_14 not_15)
