-- Slots of fields, taken one after another: the tokens in them.
use Rattle.std.proofs.Common.{◌≡◌, ℕ, suc, ◌+◌, ◌<◌, List, [], ◌∷◌, ◌++◌, length, drop, refl, sym, ap, ◌∙◌, arith, Option, None}
use Rattle.std.specs.Prelude.{slice_index_or, slice_set}
use Rattle.std.proofs.lemmas.List.{drop_more, drop_all, drop-set-lt, get_or-drop, drop-drop, append_assoc, append-nil}
use Rattle.qe_tokens.specs.declared.words.FieldToken.{FieldToken}
use Rattle.qe_layout.specs.Layouts.{in_slot}
use Rattle.qe_command_parts.specs.TokenDocuments.{token_at, tokens_from}

-- a slot is taken: the others stay, and its place says what stood there at first
pub slot_taken : {A : Type 0} (p : ℕ) (all now : List (Option A)) → p < length all → drop p now ≡ drop p all
    → (in_slot now p ≡ in_slot all p) × (drop (p + 1) (slice_set now p None) ≡ drop (p + 1) all)
slot_taken p all now less left =
    let zero_more : p + 0 ≡ p = omega arith in
    let here : slice_index_or now p None ≡ slice_index_or all p None =
    sym (ap (λ n. slice_index_or now n None) zero_more) ∙ sym (get_or-drop p now 0 None) ∙ ap (λ xs. slice_index_or xs 0 None) left
    ∙ get_or-drop p all 0 None ∙ ap (λ n. slice_index_or all n None) zero_more in
    (here, drop-set-lt (p + 1) now p None (omega arith) ∙ sym (drop-drop 1 p now) ∙ ap (drop 1) left ∙ drop-drop 1 p all)

-- so far the tokens of the slots before, and the slots behind are as they were
pub record Gathering (i : ℕ) (all now : List (Option (List ℕ))) (tokens : List FieldToken) : Type 0 where
  pub left : drop i now ≡ drop i all
  pub so_far : tokens ++ tokens_from i (drop i all) ≡ tokens_from 0 all

pub gathering_begins : (all : List (Option (List ℕ))) (tokens : List FieldToken) → tokens ≡ [] → Gathering 0 all all tokens
gathering_begins all tokens none = record { left = refl; so_far = ap (λ made. made ++ tokens_from 0 all) none }

pub gathering_goes_on : (i : ℕ) (all now after : List (Option (List ℕ))) (tokens more : List FieldToken) (slot : Option (List ℕ))
    → Gathering i all now tokens → i < length all → slot ≡ in_slot now i → after ≡ slice_set now i None → more ≡ tokens ++ token_at i slot
    → Gathering (i + 1) all after more
gathering_goes_on i all now after tokens more slot g less slot_is after_is more_is =
    let taken = slot_taken i all now less g.left in
    let there : slot ≡ slice_index_or all i None = slot_is ∙ taken.0 in
    let rest = tokens_from (i + 1) (drop (i + 1) all) in
    let ahead : drop i all ≡ slot ∷ drop (i + 1) all = drop_more all i None less ∙ ap (λ s. s ∷ drop (i + 1) all) (sym there) in
    record {
      left = ap (drop (i + 1)) after_is ∙ taken.1;
      so_far = ap (λ made. made ++ rest) more_is ∙ append_assoc tokens (token_at i slot) rest ∙ ap (λ slots. tokens ++ tokens_from i slots) (sym ahead) ∙ g.so_far;
    }

pub gathering_ends : (i : ℕ) (all now : List (Option (List ℕ))) (tokens : List FieldToken) → Gathering i all now tokens → length all ≡ i → tokens ≡ tokens_from 0 all
gathering_ends i all now tokens g long =
    sym (append-nil tokens) ∙ ap (λ slots. tokens ++ tokens_from i slots) (sym (drop_all i all (omega (arith, long)))) ∙ g.so_far
