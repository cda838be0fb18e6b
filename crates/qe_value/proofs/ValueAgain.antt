-- A value that is spelled is read again, if what documents and arrays hold is.
use Rattle.std.proofs.Common.{◌≡◌, ℕ, ℤ, ◌+◌, ◌-◌, ◌^◌, ◌<◌, List, [], ◌∷◌, ◌++◌, length, map, Result, Ok, refl, sym, ap, subst, ◌∙◌, arith}
use Rattle.std.specs.Prelude.{FitsSigned}
use Rattle.std.specs.Int.{w32, w64, to_le_bytes, from_le_bytes, cast_signed, cast_unsigned}
use Rattle.std.proofs.Math.Facts.{Fits-lt-pow, Fits-of_z}
use Rattle.std.proofs.lemmas.Int.{to_z-of_z}
use Rattle.std.proofs.lemmas.List.{length-append}
use Rattle.std.proofs.lemmas.Nat.{from_le_bytes-to_le_bytes_4, from_le_bytes-to_le_bytes_8}
use Rattle.qe_value.specs.declared.fault.BsonFault.{BsonFault}
use Rattle.qe_value.specs.declared.value.Plain.{Plain, roll-Plain, out-Plain}
use Rattle.qe_value.specs.declared.value.Plain.TheOpen.{Plain-F}
use Rattle.qe_value.specs.declared.value.Plain.TheVariants as p
use Rattle.qe_value.specs.Reading.{frame_at, value_with}
use Rattle.qe_value.specs.Spelling.{Spelled, framed, fields_bytes, items_bytes, spelled, spelled_field, string, binary, Fits_with, IsCounted}
use Rattle.qe_value.proofs.PartAgain.{string_again, binary_again, bool_again, frame_again}
use Rattle.qe_value.proofs.PlainLemmas as tree
use Rattle.qe_value.proofs.ReaderTools.{fixed_again}

-- the number of four and of eight bytes that spell it
signed_again_4 : (z : ℤ) → FitsSigned w32 z → cast_signed w32 (from_le_bytes w32 (to_le_bytes w32 (cast_unsigned w32 z))) ≡ z
signed_again_4 z fits = ap (λ (k : ℕ). cast_signed w32 k) (from_le_bytes-to_le_bytes_4 (cast_unsigned w32 z) (Fits-lt-pow {w = w32} {n = cast_unsigned w32 z} (Fits-of_z {w = w32} {z = z} fits))) ∙ to_z-of_z w32 z fits

signed_again_8 : (z : ℤ) → FitsSigned w64 z → cast_signed w64 (from_le_bytes w64 (to_le_bytes w64 (cast_unsigned w64 z))) ≡ z
signed_again_8 z fits = ap (λ (k : ℕ). cast_signed w64 k) (from_le_bytes-to_le_bytes_8 (cast_unsigned w64 z) (Fits-lt-pow {w = w64} {n = cast_unsigned w64 z} (Fits-of_z {w = w64} {z = z} fits))) ∙ to_z-of_z w64 z fits

-- the lengths of few bytes are counted
short_out : (w : Plain-F Plain) → length (spelled (roll-Plain w)).bytes < 2 ^ 31 → IsCounted w
short_out (Plain-F.Str t) short = let s : length (string t) < 2 ^ 31 = rw (p.rolls-Str t, tree.spelled-Str t) at short in omega (arith, s, length-append t (0 ∷ []))
short_out (Plain-F.Doc fs) short = rw (p.rolls-Doc fs, tree.spelled-Doc fs) at short
short_out (Plain-F.Array vs) short = rw (p.rolls-Array vs, tree.spelled-Array vs) at short
short_out (Plain-F.Binary s b) short = let whole : length (binary s b) < 2 ^ 31 = rw (p.rolls-Binary s b, tree.spelled-Binary s b) at short in omega (arith, whole)
short_out _ short = tt

pub short_counted : (v : Plain) → length (spelled v).bytes < 2 ^ 31 → IsCounted (out-Plain v)
short_counted v short = short_out (out-Plain v) (rw (tree.rolled v) short)

module _ (Fields : List (List ℕ × Plain) → Type 0) (Items : List Plain → Type 0) (fields : ℕ → List ℕ → Result (List (List ℕ × Plain)) BsonFault) (items : ℕ → List ℕ → Result (List Plain) BsonFault) where
  -- what documents and arrays hold is read again
  pub record InnerReads : Type 0 where
    pub fields_again : (end : ℕ) (fs : List (List ℕ × Plain)) → Fields fs → length (fields_bytes (map spelled_field fs)) < 2 ^ 31 → fields end (fields_bytes (map spelled_field fs) ++ (0 ∷ [])) ≡ Ok fs
    pub items_again : (end : ℕ) (vs : List Plain) → Items vs → length (items_bytes 0 (map spelled vs)) < 2 ^ 31 → items end (items_bytes 0 (map spelled vs) ++ (0 ∷ [])) ≡ Ok vs

  -- the value of this spelling is read, whatever stands around it
  abbrev ReadsAs : Type 0 → Spelled → Plain → Type 0
  ReadsAs Counted s v = (end : ℕ) (rest : List ℕ) → 0 < length rest → Counted → value_with fields items s.kind end (s.bytes ++ rest) ≡ Ok (v, rest)

  reads_by : (Counted : Type 0) (s : Spelled) (u v : Plain) → u ≡ v → spelled v ≡ s → ReadsAs Counted s v → ReadsAs Counted (spelled u) u
  reads_by Counted s u v rolls is reads = subst (λ (t : Plain). ReadsAs Counted (spelled t) t) (sym rolls) (subst (λ (t : Spelled). ReadsAs Counted t v) (sym is) reads)

  framed_again : (end : ℕ) (elements rest : List ℕ) → 0 < length rest → length (framed elements) < 2 ^ 31 → frame_at end (framed elements ++ rest) ≡ Ok (elements ++ (0 ∷ []), rest)
  framed_again end elements rest more short =
      let inside : List ℕ = elements ++ (0 ∷ []) in
      let len : length inside ≡ length elements + 1 = length-append elements (0 ∷ []) in
      let whole : length (framed elements) ≡ 4 + length inside = length-append (to_le_bytes w32 (length elements + 5)) inside in
      let counted : length elements + 5 ≡ length inside + 4 = omega (arith, len) in
      ap (λ (k : ℕ). frame_at end ((to_le_bytes w32 k ++ inside) ++ rest)) counted ∙ frame_again end inside rest (omega (arith, len)) (omega (arith, whole)) more

  inside_short : (elements : List ℕ) → length (framed elements) < 2 ^ 31 → length elements < 2 ^ 31
  inside_short elements short = omega (arith, length-append (to_le_bytes w32 (length elements + 5)) (elements ++ (0 ∷ [])), length-append elements (0 ∷ []))

  -- each value that fits is read again
  pub value_again_out : InnerReads → (w : Plain-F Plain) → Fits_with Fields Items w → ReadsAs (IsCounted w) (spelled (roll-Plain w)) (roll-Plain w)
  value_again_out inner (Plain-F.Double b) fits = reads_by _ _ _ (p.Double b) (p.rolls-Double b) (tree.spelled-Double b) (λ end rest more short. rw (fixed_again 8 end b rest fits more) refl)
  value_again_out inner (Plain-F.Str t) fits = reads_by _ _ _ (p.Str t) (p.rolls-Str t) (tree.spelled-Str t) (λ end rest more short. rw (string_again end t rest fits short more) refl)
  value_again_out inner (Plain-F.Doc fs) fits = reads_by _ _ _ (p.Doc fs) (p.rolls-Doc fs) (tree.spelled-Doc fs) (λ end rest more short. rw (framed_again end (fields_bytes (map spelled_field fs)) rest more short, inner.fields_again (end - length rest) fs fits (inside_short (fields_bytes (map spelled_field fs)) short)) refl)
  value_again_out inner (Plain-F.Array vs) fits = reads_by _ _ _ (p.Array vs) (p.rolls-Array vs) (tree.spelled-Array vs) (λ end rest more short. rw (framed_again end (items_bytes 0 (map spelled vs)) rest more short, inner.items_again (end - length rest) vs fits (inside_short (items_bytes 0 (map spelled vs)) short)) refl)
  value_again_out inner (Plain-F.Binary s b) fits = reads_by _ _ _ (p.Binary s b) (p.rolls-Binary s b) (tree.spelled-Binary s b) (λ end rest more short. rw (binary_again end s b rest short more) refl)
  value_again_out inner (Plain-F.ObjectId b) fits = reads_by _ _ _ (p.ObjectId b) (p.rolls-ObjectId b) (tree.spelled-ObjectId b) (λ end rest more short. rw (fixed_again 12 end b rest fits more) refl)
  value_again_out inner (Plain-F.Bool b) fits = reads_by _ _ _ (p.Bool b) (p.rolls-Bool b) (tree.spelled-Bool b) (λ end rest more short. rw (bool_again end b rest more) refl)
  value_again_out inner (Plain-F.Date z) fits = reads_by _ _ _ (p.Date z) (p.rolls-Date z) (tree.spelled-Date z) (λ end rest more short. rw (fixed_again 8 end (to_le_bytes w64 (cast_unsigned w64 z)) rest refl more, signed_again_8 z fits) refl)
  value_again_out inner Plain-F.Null fits = reads_by _ _ _ p.Null p.rolls-Null tree.spelled-Null (λ end rest more short. refl)
  value_again_out inner (Plain-F.Int32 z) fits = reads_by _ _ _ (p.Int32 z) (p.rolls-Int32 z) (tree.spelled-Int32 z) (λ end rest more short. rw (fixed_again 4 end (to_le_bytes w32 (cast_unsigned w32 z)) rest refl more, signed_again_4 z fits) refl)
  value_again_out inner (Plain-F.Timestamp n) fits = reads_by _ _ _ (p.Timestamp n) (p.rolls-Timestamp n) (tree.spelled-Timestamp n) (λ end rest more short. rw (fixed_again 8 end (to_le_bytes w64 n) rest refl more, from_le_bytes-to_le_bytes_8 n fits) refl)
  value_again_out inner (Plain-F.Int64 z) fits = reads_by _ _ _ (p.Int64 z) (p.rolls-Int64 z) (tree.spelled-Int64 z) (λ end rest more short. rw (fixed_again 8 end (to_le_bytes w64 (cast_unsigned w64 z)) rest refl more, signed_again_8 z fits) refl)
  value_again_out inner (Plain-F.Decimal b) fits = reads_by _ _ _ (p.Decimal b) (p.rolls-Decimal b) (tree.spelled-Decimal b) (λ end rest more short. rw (fixed_again 16 end b rest fits more) refl)

  -- each value that fits is read again
  pub value_again : InnerReads → (v : Plain) → Fits_with Fields Items (out-Plain v) → ReadsAs (IsCounted (out-Plain v)) (spelled v) v
  value_again inner v fits = subst (λ (t : Plain). ReadsAs (IsCounted (out-Plain v)) (spelled t) t) (tree.rolled v) (value_again_out inner (out-Plain v) fits)
