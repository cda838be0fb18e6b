-- Keys of which none repeats a root.
use Rattle.std.proofs.Common.{◌≡◌, ℕ, ◌+◌, inl, inr, List, [], ◌∷◌, ◌++◌, Option, None, Some, option_map, refl, sym, subst, arith}
use Rattle.std.specs.Prelude.{bytes_eq}
use Rattle.std.specs.List.{AllByRecursion, AllPairs}
use Rattle.std.specs.Option.{option_or}
use Rattle.std.proofs.lemmas.Bool.{cases_Bool}
use Rattle.std.proofs.lemmas.List.{append-nil, append_assoc}
use Rattle.std.proofs.lemmas.List.Elements.{All-from_recursion}
use Rattle.std.proofs.lemmas.List.Quantifiers.{all_pairs_push}
use Rattle.qe_field.proofs.GaveLemmas.{unmapped}
use Rattle.qe_schema.specs.Keys.{AreApart, root_from, root_of, roots_from, same_root}

no_root : (i : ℕ) (key : List ℕ) (earlier : List (List ℕ)) → root_from i key earlier ≡ None → AllByRecursion (λ other. AreApart other key) earlier
no_root i key [] h = tt
no_root i key (other ∷ earlier) h =
    elim (cases_Bool (bytes_eq (root_of other) (root_of key))) [
      | inl sure ↦ let found = rw sure at h in cc
      | inr failed ↦ (failed, no_root (i + 1) key earlier (rw failed at h))
    ]

-- where there is neither of two
neither : {A : Type 0} (x y : Option A) → option_or x y ≡ None → (x ≡ None) × (y ≡ None)
neither None y h = (refl, h)
neither (Some a) y h = cc

pub roots_apart : (numbers : List ℕ) (i : ℕ) (earlier keys : List (List ℕ)) → AllPairs AreApart earlier → roots_from numbers i earlier keys ≡ None
    → AllPairs AreApart (earlier ++ keys)
roots_apart numbers i earlier [] apart h = subst (AllPairs AreApart) (sym (append-nil earlier)) apart
roots_apart numbers i earlier (key ∷ keys) apart h =
    let both = neither (option_map (same_root numbers i) (root_from 0 key earlier)) (roots_from numbers (i + 1) (earlier ++ key ∷ []) keys) h in
    let fresh = All-from_recursion (λ other. AreApart other key) earlier (no_root 0 key earlier (unmapped (same_root numbers i) _ both.0)) in
    let rest = roots_apart numbers (i + 1) (earlier ++ key ∷ []) keys (all_pairs_push AreApart earlier key apart fresh) both.1 in
    subst (AllPairs AreApart) (append_assoc earlier (key ∷ []) keys) rest

pub all_apart : (numbers : List ℕ) (keys : List (List ℕ)) → roots_from numbers 0 [] keys ≡ None → AllPairs AreApart keys
all_apart numbers keys h = roots_apart numbers 0 [] keys (λ n m d lt past. absurd (omega arith)) h
