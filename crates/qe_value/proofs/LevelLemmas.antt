-- Documents and arrays of every level: read as they are spelled, and spelled as they are read.
use Rattle.std.proofs.Common.{◌≡◌, ℕ, zero, suc, ◌+◌, List, [], ◌∷◌, ◌++◌, length, map, sym, ap, subst, ◌∙◌, arith}
use Rattle.std.specs.List.{AllByRecursion}
use Rattle.std.proofs.lemmas.List.{length-append}
use Rattle.qe_value.specs.declared.value.Plain.{Plain}
use Rattle.qe_value.specs.Names.{Distinct}
use Rattle.qe_value.specs.Reading.{value_at, field_at, item_at, all_at, fields_in, items_in}
use Rattle.qe_value.specs.Spelling.{spelled, spelled_field, fields_bytes, items_bytes, FieldsFit, ItemsFit}
use Rattle.qe_value.proofs.AllLemmas.{spelled_from, all_takes, all_again}
use Rattle.qe_value.proofs.ElementLemmas.{ValueTakes, ValueReads}
use Rattle.qe_value.proofs.OneLevelLemmas.{field_bytes, item_bytes, fields_spelled, items_spelled, FieldFits, ItemFits, FieldRead, ItemRead, FieldStands, ItemStands, read_fit, read_apart, items_fit, fields_stand, items_stand, field_one_takes, item_one_takes, field_one_reads, item_one_reads}
use Rattle.qe_value.proofs.ValueAgain.{InnerReads, short_counted, value_again}
use Rattle.qe_value.proofs.ValueTakes.{InnerTakes, value_takes}

-- what is read at some level is spelled so, and fits
pub level_takes : (room : ℕ) → InnerTakes (FieldsFit room) (ItemsFit room) (fields_in room) (items_in room)
unfolding fields_in FieldsFit
level_takes zero = record { fields_take = λ end bytes fs fits e. absurd cc; items_take = λ end bytes vs fits e. absurd cc }
level_takes (suc room) =
    let F = FieldsFit room in
    let I = ItemsFit room in
    let takes : ValueTakes F I (value_at room) = value_takes F I (fields_in room) (items_in room) (level_takes room) in
    record {
      fields_take = λ end bytes fs fits e.
          let t = all_takes (field_at (value_at room)) field_bytes (FieldRead F I) (field_one_takes F I (value_at room) takes) (length bytes) [] end bytes fs fits e in
          subst (λ (all : List (List ℕ × Plain)). (bytes ≡ fields_bytes (map spelled_field all) ++ (0 ∷ [])) × (Distinct all × AllByRecursion (FieldFits F I) all)) (sym t.1)
          (t.2 ∙ ap (λ (b : List ℕ). b ++ (0 ∷ [])) (fields_spelled [] t.0), (read_apart F I [] t.0 t.3 tt, read_fit F I [] t.0 t.3));
      items_take = λ end bytes vs fits e.
          let t = all_takes (item_at (value_at room)) item_bytes (ItemRead F I) (item_one_takes F I (value_at room) takes) (length bytes) [] end bytes vs fits e in
          subst (λ (all : List Plain). (bytes ≡ items_bytes 0 (map spelled all) ++ (0 ∷ [])) × AllByRecursion (ItemFits F I) all) (sym t.1)
          (t.2 ∙ ap (λ (b : List ℕ). b ++ (0 ∷ [])) (items_spelled [] t.0), items_fit F I [] t.0 t.3);
    }

-- what is spelled at some level, and fits, is read again
pub level_again : (room : ℕ) → InnerReads (FieldsFit room) (ItemsFit room) (fields_in room) (items_in room)
unfolding fields_in FieldsFit
level_again zero = record { fields_again = λ end fs fit short. absurd fit; items_again = λ end vs fit short. absurd fit }
level_again (suc room) =
    let F = FieldsFit room in
    let I = ItemsFit room in
    let reads : ValueReads F I (value_at room) = λ v fits end rest more short. value_again F I (fields_in room) (items_in room) (level_again room) v fits end rest more (short_counted v short) in
    record {
      fields_again = λ end fs fit short.
          let elements = fields_bytes (map spelled_field fs) in
          let spelling : spelled_from field_bytes [] fs ≡ elements = fields_spelled [] fs in
          let len : length (elements ++ (0 ∷ [])) ≡ length elements + 1 = length-append elements (0 ∷ []) in
          let again = all_again (field_at (value_at room)) field_bytes (FieldStands F I) (field_one_reads F I (value_at room) reads) (length (elements ++ (0 ∷ []))) [] end fs
          (fields_stand F I [] fs fit.0 fit.1 short) (omega (arith, len, ap (λ (b : List ℕ). length b) spelling)) in
          ap (λ (b : List ℕ). all_at (field_at (value_at room)) (length (elements ++ (0 ∷ []))) [] end (b ++ (0 ∷ []))) (sym spelling) ∙ again;
      items_again = λ end vs fit short.
          let elements = items_bytes 0 (map spelled vs) in
          let spelling : spelled_from item_bytes [] vs ≡ elements = items_spelled [] vs in
          let len : length (elements ++ (0 ∷ [])) ≡ length elements + 1 = length-append elements (0 ∷ []) in
          let again = all_again (item_at (value_at room)) item_bytes (ItemStands F I) (item_one_reads F I (value_at room) reads) (length (elements ++ (0 ∷ []))) [] end vs
          (items_stand F I [] vs fit (omega arith) short) (omega (arith, len, ap (λ (b : List ℕ). length b) spelling)) in
          ap (λ (b : List ℕ). all_at (item_at (value_at room)) (length (elements ++ (0 ∷ []))) [] end (b ++ (0 ∷ []))) (sym spelling) ∙ again;
    }
