-- Nothing is refused exactly where the bytes are a value's.
use Rattle.std.proofs.Common.{◌≡◌, ◌≢◌, ℕ, ◌+◌, ◌*◌, ◌-◌, ◌<◌, ◌≤◌, List, [], ◌∷◌, ◌++◌, length, get_or, take, drop, refl, ap, sym, ◌∙◌, arith, inl, inr, Bool, true, false, nat_lt, ◌==◌, if◌then◌else◌, Option, Some, None, length-drop}
use Rattle.std.specs.Prelude.{slice_get, slice_index}
use Rattle.std.proofs.lemmas.Bool.{le-ltb, ltb-false, eqb-false, ne_eqb, cond-false}
use Rattle.std.proofs.lemmas.Bool.Decides.{eqb_tells}
use Rattle.std.proofs.lemmas.List.{drop_more, get_or-append_right}
use Rattle.qe_base.specs.Bytes.{AreBytes}
use Rattle.qe_indexed.specs.declared.fault.IndexedFault.{IndexedFault}
use Rattle.qe_indexed.specs.declared.fault.IndexedFault.TheVariants.{Short, EdgeCountZero, LengthWrong}
use Rattle.qe_indexed.specs.Parts.{Indexed}
use Rattle.qe_indexed.specs.Spelling.{first_byte, edge_count, joined, head_length, IsLaidOut, HasShape}
use Rattle.qe_indexed.specs.Reading.{blocks_in}
use Rattle.qe_indexed.specs.Faults.{refusal_of, range_refusal}
use Rattle.qe_indexed.proofs.FaultLemmas.{refusal_of-14, refusal_of-15, refusal_of-other}
use Rattle.qe_indexed.proofs.JoinLemmas.{AreBlocks-blocks_in}
use Rattle.qe_indexed.proofs.SpellingLemmas.{tail_of, written-parts, length-written, IsLaidOut-cut}

-- bytes that are long enough for their count
none_refused : (range : Bool) (bytes : List ℕ) (count : ℕ) → Some (first_byte range) ≡ slice_get bytes 0 → head_length range + 16 + 96 * count ≤ length bytes
    → 1 ≤ count → (range ≡ true → slice_index bytes 18 ≡ count) → refusal_of bytes ≡ None
none_refused false bytes count first long some counted =
    refusal_of-14 bytes 14 first refl ∙ cond-false (nat_lt (length bytes) 130) (Some Short) None (le-ltb (length bytes) 130 (omega arith))
none_refused true bytes count first long some counted =
    let is : slice_index bytes 18 ≡ count = counted refl in
    let third : Option IndexedFault = if nat_lt (length bytes) (35 + 96 * count) then Some LengthWrong else None in
    let second : Option IndexedFault = if count == 0 then Some EdgeCountZero else third in
    refusal_of-15 bytes 15 first refl ∙ ap (range_refusal (length bytes)) is
    ∙ cond-false (nat_lt (length bytes) 19) (Some Short) second (le-ltb (length bytes) 19 (omega arith))
    ∙ cond-false (count == 0) (Some EdgeCountZero) third (ne_eqb count 0 (λ zero. absurd (omega arith)))
    ∙ cond-false (nat_lt (length bytes) (35 + 96 * count)) (Some LengthWrong) None (le-ltb (length bytes) (35 + 96 * count) (omega arith))

pub accepted : (value : Indexed) (bytes : List ℕ) → IsLaidOut value bytes → refusal_of bytes ≡ None
accepted value bytes is =
    let parts : bytes ≡ (first_byte value.range ∷ value.key_id) ++ (value.value_kind ∷ tail_of value) = is.bytes_are ∙ written-parts value in
    let long = ap length is.bytes_are ∙ length-written value is.key_id_long is.blocks_long in
    none_refused value.range bytes (length value.blocks) (ap (λ bs. slice_get bs 0) (sym parts)) (omega (arith, long, is.within.long)) is.within.some
    (λ range. ap (λ bs. get_or bs 18 0) parts
    ∙ get_or-append_right (first_byte value.range ∷ value.key_id) (value.value_kind ∷ tail_of value) 17 18 0 (omega (arith, is.key_id_long)) (omega arith)
    ∙ ap (λ r. get_or (edge_count r (length value.blocks) ++ (value.server_value ++ joined value.blocks)) 0 0) range)

-- a test that refuses nothing
no_fault : (test : Bool) (fault : IndexedFault) (rest : Option IndexedFault) → (if test then Some fault else rest) ≡ None → (test ≡ false) × (rest ≡ None)
no_fault true fault rest none = absurd (cc)
no_fault false fault rest none = (refl, none)

equality_shape : (b : ℕ) (rest : List ℕ) → b ≡ 14 → refusal_of (b ∷ rest) ≡ None → HasShape false 1 (b ∷ rest)
equality_shape b rest same none =
    let tested = no_fault (nat_lt (length (b ∷ rest)) 130) Short None (sym (refusal_of-14 (b ∷ rest) b refl same) ∙ none) in
    record {
      first = ap (λ byte. byte ∷ []) same;
      counted = refl;
      some = omega arith;
      few = omega arith;
      long = ltb-false (length (b ∷ rest)) 130 tested.0;
    }

range_shape : (b : ℕ) (rest : List ℕ) → AreBytes (b ∷ rest) → b ≡ 15 → refusal_of (b ∷ rest) ≡ None → HasShape true (slice_index (b ∷ rest) 18) (b ∷ rest)
range_shape b rest are_bytes same none =
    let bytes = b ∷ rest in
    let count = slice_index bytes 18 in
    let third : Option IndexedFault = if nat_lt (length bytes) (35 + 96 * count) then Some LengthWrong else None in
    let second : Option IndexedFault = if count == 0 then Some EdgeCountZero else third in
    let head = no_fault (nat_lt (length bytes) 19) Short second (sym (refusal_of-15 bytes b refl same) ∙ none) in
    let counted = no_fault (count == 0) EdgeCountZero third head.1 in
    let size = no_fault (nat_lt (length bytes) (35 + 96 * count)) LengthWrong None counted.1 in
    let head_long : 19 ≤ length bytes = ltb-false (length bytes) 19 head.0 in
    let count_fits : count < 256 = are_bytes 18 in
    let not_zero : count ≢ 0 = eqb-false count 0 counted.0 in
    record {
      first = ap (λ byte. byte ∷ []) same;
      counted = ap (take 1) (drop_more bytes 18 0 (omega arith));
      some = omega (arith, not_zero);
      few = omega (arith, count_fits);
      long = omega (arith, ltb-false (length bytes) (35 + 96 * count) size.0);
    }

shape_found : (bytes : List ℕ) → AreBytes bytes → refusal_of bytes ≡ None → (range : Bool) × (count : ℕ) × HasShape range count bytes
unfolding refusal_of
shape_found [] are_bytes none = absurd (cc)
shape_found (b ∷ rest) are_bytes none =
    elim (eqb_tells b 14) [
      | inl equality ↦ (false, 1, equality_shape b rest equality.1 none)
      | inr not_14 ↦ elim (eqb_tells b 15) [
        | inl range ↦ (true, slice_index (b ∷ rest) 18, range_shape b rest are_bytes range.1 none)
        | inr not_15 ↦ absurd (let other = sym (refusal_of-other (b ∷ rest) b refl not_14.1 not_15.1) ∙ none in cc)
      ]
    ]

pub found : (bytes : List ℕ) → AreBytes bytes → refusal_of bytes ≡ None → (value : Indexed) × IsLaidOut value bytes
found bytes are_bytes none =
    let shape = shape_found bytes are_bytes none in
    let range = shape.0 in
    let count = shape.1 in
    let head = take (head_length range) bytes in
    let body = drop (head_length range) bytes in
    let tail = drop (length body - 96 * count) body in
    let tail_long : length tail ≡ 96 * count =
    length-drop (length body - 96 * count) body ∙ omega (arith, length-drop (head_length range) bytes, shape.2.long) in (
      record {
        range = range;
        key_id = take 16 (drop 1 head);
        value_kind = get_or head 17 0;
        server_value = take (length body - 96 * count) body;
        blocks = blocks_in count tail;
      },
      IsLaidOut-cut range count bytes head body (take (length body - 96 * count) body) tail (take 16 (drop 1 head)) (get_or head 17 0) (blocks_in count tail)
          shape.2 refl refl refl refl (AreBlocks-blocks_in count tail tail_long).0 refl refl,
    )
