-- What fits has no more levels than its room and no name with a byte 0, so it is written; and so is each of its values alone.
use Rattle.std.proofs.Common.{◌≡◌, Result, Ok, Err, ℕ, zero, suc, ◌+◌, ◌≤◌, Bool, true, false, List, [], ◌∷◌, length, map, if◌then◌else◌, Some, refl, subst, sym, ap, ◌∙◌, arith, rules}
use Rattle.std.specs.Prelude.{bytes_eq, IfOk}
use Rattle.std.specs.List.{AllByRecursion}
use Rattle.std.proofs.lemmas.Bool.{or_from}
use Rattle.std.proofs.lemmas.List.{length-append}
use Rattle.qe_value.specs.declared.fault.EncodeFault.{EncodeFault}
use Rattle.qe_value.specs.declared.value.Plain.{Plain, roll-Plain, out-Plain, the_lemmas}
use Rattle.qe_value.specs.declared.value.Plain.TheOpen.{Plain-F}
use Rattle.qe_value.specs.declared.value.Plain.TheVariants as p
use Rattle.qe_value.specs.Names.{value_named}
use Rattle.qe_value.specs.Reading.{alone_at}
use Rattle.qe_value.specs.Types.{type_byte}
use Rattle.qe_value.specs.Spelling.{element, fields_bytes, spelled, spelled_field, document_bytes, Fits_with, FieldsFit, ItemsFit, IsDocument}
use Rattle.qe_value.specs.Measures.{greatest, depth, fields_depth, items_depth, zero_in, zero_in_fields, zero_in_items}
use Rattle.qe_encode.specs.Writing.{written_as, WritingLaws}
use Rattle.qe_encode.proofs.RefusalLemmas.{written_then}
use Rattle.qe_value.proofs.AloneLemmas.{alone_length, alone_fits, alone_again}
use Rattle.qe_value.proofs.ValueAgain.{short_counted}
use Rattle.qe_value.proofs.DepthLemmas.{depth-Doc, depth-Array, zero_in-Doc, zero_in-Array}
use Rattle.qe_value.proofs.OneLevelLemmas.{FieldFits, ItemFits}
use Rattle.qe_value.proofs.PlainLemmas as tree

-- few levels, and no name with a byte 0
abbrev IsFlat : ℕ → Plain → Type 0
IsFlat room v = (depth v ≤ room) × (zero_in v ≡ false)

abbrev AreFlatFields : ℕ → List (List ℕ × Plain) → Type 0
AreFlatFields room fs = (fields_depth fs ≤ room) × (zero_in_fields fs ≡ false)

abbrev AreFlatItems : ℕ → List Plain → Type 0
AreFlatItems room vs = (items_depth vs ≤ room) × (zero_in_items vs ≡ false)

module _ (room : ℕ) (fields_flat : (fs : List (List ℕ × Plain)) → FieldsFit room fs → AreFlatFields room fs) (items_flat : (vs : List Plain) → ItemsFit room vs → AreFlatItems room vs) where
  value_flat_out : (w : Plain-F Plain) → Fits_with (FieldsFit room) (ItemsFit room) w → IsFlat room (roll-Plain w)
  unfolding depth zero_in
  value_flat_out (Plain-F.Doc fs) fits =
      let flat = fields_flat fs fits in
      subst (IsFlat room) (sym (p.rolls-Doc fs)) (omega (arith, depth-Doc fs, flat.0), zero_in-Doc fs ∙ flat.1)
  value_flat_out (Plain-F.Array vs) fits =
      let flat = items_flat vs fits in
      subst (IsFlat room) (sym (p.rolls-Array vs)) (omega (arith, depth-Array vs, flat.0), zero_in-Array vs ∙ flat.1)
  value_flat_out _ fits = (search (rules, the_lemmas), search (rules, the_lemmas))

  value_flat : (v : Plain) → Fits_with (FieldsFit room) (ItemsFit room) (out-Plain v) → IsFlat room v
  value_flat v fits = subst (IsFlat room) (tree.rolled v) (value_flat_out (out-Plain v) fits)

  each_field_flat : (fs : List (List ℕ × Plain)) → AllByRecursion (FieldFits (FieldsFit room) (ItemsFit room)) fs
      → (greatest (map (λ f. depth f.1) fs) ≤ room) × (zero_in_fields fs ≡ false)
  each_field_flat [] each = (omega arith, refl)
  each_field_flat (f ∷ fs) each =
      let one = value_flat f.1 each.0.1 in
      let later = each_field_flat fs each.1 in
      (omega (arith, one.0, later.0), or_from _ _ (or_from _ _ each.0.0.no_zero one.1) later.1)

  each_item_flat : (vs : List Plain) → AllByRecursion (ItemFits (FieldsFit room) (ItemsFit room)) vs → (greatest (map depth vs) ≤ room) × (zero_in_items vs ≡ false)
  each_item_flat [] each = (omega arith, refl)
  each_item_flat (v ∷ vs) each =
      let one = value_flat v each.0 in
      let later = each_item_flat vs each.1 in
      (omega (arith, one.0, later.0), or_from _ _ one.1 later.1)

-- documents and arrays of every level
levels_flat : (room : ℕ) → ((fs : List (List ℕ × Plain)) → FieldsFit room fs → AreFlatFields room fs) × ((vs : List Plain) → ItemsFit room vs → AreFlatItems room vs)
unfolding FieldsFit
levels_flat zero = (λ fs fits. absurd fits, λ vs fits. absurd fits)
levels_flat (suc room) =
    let inner = levels_flat room in (
      λ fs fits. let flat = each_field_flat room inner.0 inner.1 fs fits.1 in (omega (arith, flat.0), flat.1),
      λ vs fits. let flat = each_item_flat room inner.0 inner.1 vs fits in (omega (arith, flat.0), flat.1),
    )

-- a document of the profile has no refusal
pub written_whole : (fs : List (List ℕ × Plain)) (bytes : List ℕ) → IsDocument fs → written_as fs bytes ≡ Ok bytes
written_whole fs bytes is = let flat = (levels_flat 100).0 fs is.fits in written_then fs bytes is.short flat.0 flat.1

-- a value whose document fits is read again from its bytes
pub value_read_again : (v : Plain) (r : Result (List ℕ) EncodeFault) → IfOk r (λ out. out ≡ (spelled v).bytes) → IfOk r (λ _. IsDocument (([], v) ∷ []))
    → IfOk r (λ out. alone_at (type_byte (spelled v).kind) out ≡ Ok v)
unfolding FieldsFit
value_read_again v (Ok out) ok is =
    let counted = short_counted v (omega (arith, alone_length v, is.short)) in
    alone_again (type_byte (spelled v).kind) out v record { type_is = refl; bytes_are = ok; fits = is.fits.1.0.1; counted = counted }
value_read_again v (Err fault) ok is = tt

-- a value of a document fits as its fields do
part_fits : (Fields : List (List ℕ × Plain) → Type 0) (Items : List Plain → Type 0) (fs : List (List ℕ × Plain)) (name : List ℕ) (v : Plain)
    → AllByRecursion (FieldFits Fields Items) fs → value_named name fs ≡ Some v → Fits_with Fields Items (out-Plain v)
part_fits Fields Items [] name v each found = absurd cc
part_fits Fields Items (f ∷ fs) name v each found = by_test (bytes_eq name f.0) found (part_fits Fields Items fs name v each.1)
  where
    by_test : (b : Bool) → (if b then Some f.1 else value_named name fs) ≡ Some v → (value_named name fs ≡ Some v → Fits_with Fields Items (out-Plain v)) → Fits_with Fields Items (out-Plain v)
    by_test true is later = let same : f.1 ≡ v = cc in subst (λ (x : Plain). Fits_with Fields Items (out-Plain x)) same each.0.1
    by_test false is later = later is

-- and has fewer bytes than they
part_short : (fs : List (List ℕ × Plain)) (name : List ℕ) (v : Plain) → value_named name fs ≡ Some v
    → length (spelled v).bytes + 2 ≤ length (fields_bytes (map spelled_field fs))
part_short [] name v found = absurd cc
part_short (f ∷ fs) name v found = by_test (bytes_eq name f.0) found (part_short fs name v)
  where
    by_test : (b : Bool) → (if b then Some f.1 else value_named name fs) ≡ Some v
        → (value_named name fs ≡ Some v → length (spelled v).bytes + 2 ≤ length (fields_bytes (map spelled_field fs)))
        → length (spelled v).bytes + 2 ≤ length (fields_bytes (map spelled_field (f ∷ fs)))
    by_test true is later =
        let same : f.1 ≡ v = cc in
        let bytes : length (spelled f.1).bytes ≡ length (spelled v).bytes = ap (λ (x : Plain). length (spelled x).bytes) same in
        omega (arith, bytes, length-append (element f.0 (spelled f.1)) (fields_bytes (map spelled_field fs)), length-append f.0 (0 ∷ (spelled f.1).bytes))
    by_test false is later = omega (arith, later is, length-append (element f.0 (spelled f.1)) (fields_bytes (map spelled_field fs)))

part_alone : (fs : List (List ℕ × Plain)) (name : List ℕ) (v : Plain) → IsDocument fs → value_named name fs ≡ Some v → IsDocument (([], v) ∷ [])
unfolding FieldsFit
part_alone fs name v is found =
    let elements : List ℕ = fields_bytes (map spelled_field fs) in
    record {
      fits = alone_fits v (part_fits (FieldsFit 99) (ItemsFit 99) fs name v is.fits.1 found);
      short = omega (arith, alone_length v, part_short fs name v found, is.short, length-append elements (0 ∷ []));
    }

pub writing_laws : WritingLaws
writing_laws = record { written = λ fs. written_whole fs (document_bytes fs); value = λ v. written_whole (([], v) ∷ []) (spelled v).bytes; alone = part_alone }
