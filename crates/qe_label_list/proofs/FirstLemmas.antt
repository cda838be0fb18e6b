-- Of all keys that stood before, `repeat_after` finds the first, and where it first stood.
use Rattle.std.proofs.Common.{◌≡◌, ℕ, zero, suc, ◌+◌, ◌<◌, ◌≤◌, Bool, true, false, cond, List, [], ◌∷◌, ◌++◌, length, None, Some, refl, sym, ap, ◌∙◌, subst, arith, ◌⊎◌, inl, inr}
use Rattle.std.proofs.lemmas.List.{append_assoc, length_push}
use Rattle.std.proofs.lemmas.Bool.{cases_eq, cases_lt}
use Rattle.std.specs.Prelude.{slice_get}
use Rattle.std.specs.List.{position_from}
use Rattle.qe_labels.specs.Clashes.{settle, repeat_after}

some_same : {A : Type 0} (x y : A) → Some x ≡ Some y → x ≡ y
some_same x y is = cc

module _ {K : Type 0} where
  -- ---- an item of lists one behind another
  pub get_left : (xs ys : List K) (i : ℕ) → i < length xs → slice_get (xs ++ ys) i ≡ slice_get xs i
  get_left [] ys i within = absurd (omega arith)
  get_left (x ∷ xs) ys zero within = refl
  get_left (x ∷ xs) ys (suc i) within = get_left xs ys i (omega arith)

  pub get_seam : (xs : List K) (y : K) (ys : List K) → slice_get (xs ++ y ∷ ys) (length xs) ≡ Some y
  get_seam [] y ys = refl
  get_seam (x ∷ xs) y ys = get_seam xs y ys

  -- ---- what `position_from` finds
  pub record IsPlace (t : K → Bool) (xs : List K) (place : ℕ) : Type 0 where
    pub item : K
    pub at : slice_get xs place ≡ Some item
    pub passes : t item ≡ true
    pub within : place < length xs
    pub none_before : (i : ℕ) (x : K) → i < place → slice_get xs i ≡ Some x → t x ≡ false

  abbrev next_place : (K → Bool) → K → List K → ℕ → ℕ → Type 0
  next_place t y ys from found = (place : ℕ) × (found ≡ from + place) × IsPlace t (y ∷ ys) place

  place_found : (t : K → Bool) (xs : List K) (from found : ℕ) → position_from t from xs ≡ Some found → (place : ℕ) × (found ≡ from + place) × IsPlace t xs place
  place_found t [] from found is = absurd (cc)
  place_found t (y ∷ ys) from found is =
      (elim (t y) as (λ b. t y ≡ b → cond b (Some from) (position_from t (from + 1) ys) ≡ Some found → next_place t y ys from found) [
        | true ↦ λ passes here.
            let same : from ≡ found = some_same from found here in
            (0, omega arith, record { item = y; at = refl; passes = passes; within = omega arith; none_before = λ i x low at. absurd (omega arith) })
        | false ↦ λ fails behind.
            let rest = place_found t ys (from + 1) found behind in
            let is_rest = rest.2 in (
              suc rest.0,
              omega (arith, rest.1),
              record {
                item = is_rest.item;
                at = is_rest.at;
                passes = is_rest.passes;
                within = omega (arith, is_rest.within);
                none_before = λ i x low at. before_next t y ys rest.0 is_rest fails i x low at;
              },
            )
      ]) refl is
    where
      before_next : (t : K → Bool) (y : K) (ys : List K) (place : ℕ) → IsPlace t ys place → t y ≡ false → (i : ℕ) (x : K) → i < suc place → slice_get (y ∷ ys) i ≡ Some x → t x ≡ false
      before_next t y ys place is fails zero x low at = ap t (sym (some_same y x at)) ∙ fails
      before_next t y ys place is fails (suc i) x low at = is.none_before i x (omega arith) at

  place_none : (t : K → Bool) (xs : List K) (from : ℕ) → position_from t from xs ≡ None → (i : ℕ) (x : K) → slice_get xs i ≡ Some x → t x ≡ false
  place_none t [] from none i x at = absurd (cc)
  place_none t (y ∷ ys) from none i x at =
      (elim (t y) as (λ b. t y ≡ b → cond b (Some from) (position_from t (from + 1) ys) ≡ None → t x ≡ false) [
        | true ↦ λ passes here. absurd (cc)
        | false ↦ λ fails behind. at_next t y ys fails (λ j z at_z. place_none t ys (from + 1) behind j z at_z) i x at
      ]) refl none
    where
      at_next : (t : K → Bool) (y : K) (ys : List K) → t y ≡ false → ((j : ℕ) (z : K) → slice_get ys j ≡ Some z → t z ≡ false) → (i : ℕ) (x : K) → slice_get (y ∷ ys) i ≡ Some x → t x ≡ false
      at_next t y ys fails rest zero x at = ap t (sym (some_same y x at)) ∙ fails
      at_next t y ys fails rest (suc i) x at = rest i x at

  -- ---- what `repeat_after` finds
  module _ (same : K → K → Bool) where
    -- two places with one key, of which the second is the first from a place on, and the first is then
    pub record IsFirst (all : List K) (from first second : ℕ) : Type 0 where
      pub one : K
      pub other : K
      pub at_first : slice_get all first ≡ Some one
      pub at_second : slice_get all second ≡ Some other
      pub before : first < second
      pub behind : from ≤ second
      pub met : same other one ≡ true
      pub second_least : (i j : ℕ) (x y : K) → from ≤ j → i < j → slice_get all i ≡ Some x → slice_get all j ≡ Some y → same y x ≡ true → second ≤ j
      pub first_least : (i : ℕ) (x : K) → i < second → slice_get all i ≡ Some x → same other x ≡ true → first ≤ i

    not_both : (b : Bool) → b ≡ true → b ≡ false → ⊥
    not_both b passes fails = cc

    here_first : (before : List K) (k : K) (ks : List K) (first : ℕ) → position_from (same k) 0 before ≡ Some first → IsFirst (before ++ k ∷ ks) (length before) first (length before)
    here_first before k ks first found =
        let place = place_found (same k) before 0 first found in
        let at = place.2 in
        let is : first ≡ place.0 = omega (arith, place.1) in
        let low : first < length before = omega (arith, is, at.within) in
        record {
          one = at.item;
          other = k;
          at_first = get_left before (k ∷ ks) first low ∙ ap (slice_get before) is ∙ at.at;
          at_second = get_seam before k ks;
          before = low;
          behind = omega arith;
          met = at.passes;
          second_least = λ i j x y later up at_i at_j meets. later;
          first_least = λ i x up at_i meets. least i x up at_i meets (cases_lt i first);
        }
      where
        least : (i : ℕ) (x : K) → i < length before → slice_get (before ++ k ∷ ks) i ≡ Some x → same k x ≡ true → (i < first) ⊎ (first ≤ i) → first ≤ i
        least i x up at_i meets (inr high) = high
        least i x up at_i meets (inl low) =
            let place = place_found (same k) before 0 first found in
            let is : first ≡ place.0 = omega (arith, place.1) in
            let fails = place.2.none_before i x (omega (arith, is, low)) (sym (get_left before (k ∷ ks) i up) ∙ at_i) in
            absurd (not_both (same k x) meets fails)

    -- a place further on, where the key at the place isn't one that stood before
    on_first : (before : List K) (k : K) (ks : List K) (first second : ℕ) → position_from (same k) 0 before ≡ None
        → IsFirst (before ++ k ∷ ks) (length before + 1) first second → IsFirst (before ++ k ∷ ks) (length before) first second
    on_first before k ks first second none is = record {
      one = is.one;
      other = is.other;
      at_first = is.at_first;
      at_second = is.at_second;
      before = is.before;
      behind = omega (arith, is.behind);
      met = is.met;
      second_least = λ i j x y later up at_i at_j meets. least i j x y later up at_i at_j meets (cases_eq j (length before));
      first_least = is.first_least;
    }
      where
        least : (i j : ℕ) (x y : K) → length before ≤ j → i < j → slice_get (before ++ k ∷ ks) i ≡ Some x → slice_get (before ++ k ∷ ks) j ≡ Some y → same y x ≡ true
            → (j ≡ length before) ⊎ (j ≡ length before → ⊥) → second ≤ j
        least i j x y later up at_i at_j meets (inr apart) = is.second_least i j x y (omega arith) up at_i at_j meets
        least i j x y later up at_i at_j meets (inl here) =
            let low : i < length before = omega arith in
            let key : k ≡ y = some_same k y (sym (get_seam before k ks) ∙ sym (ap (slice_get (before ++ k ∷ ks)) here) ∙ at_j) in
            let fails = place_none (same k) before 0 none i x (sym (get_left before (k ∷ ks) i low) ∙ at_i) in
            let passes : same k x ≡ true = ap (λ z. same z x) key ∙ meets in
            absurd (not_both (same k x) passes fails)

    pub repeat_found : (ks before : List K) (first second : ℕ) → repeat_after same before ks ≡ Some (first, second) → IsFirst (before ++ ks) (length before) first second
    repeat_found [] before first second is = absurd (cc)
    repeat_found (k ∷ ks) before first second is =
        (elim (position_from (same k) 0 before) as (λ o. position_from (same k) 0 before ≡ o → settle o (length before) (repeat_after same (before ++ k ∷ []) ks) ≡ Some (first, second)
        → IsFirst (before ++ k ∷ ks) (length before) first second) [
          | None ↦ λ none rest.
              let on = repeat_found ks (before ++ k ∷ []) first second rest in
              let moved : IsFirst (before ++ k ∷ ks) (length before + 1) first second =
              subst (λ n. IsFirst (before ++ k ∷ ks) n first second) (length_push before k)
              (subst (λ all. IsFirst all (length (before ++ k ∷ [])) first second) (append_assoc before (k ∷ []) ks) on) in
              on_first before k ks first second none moved
          | Some place ↦ λ found here.
              let pair : (place, length before) ≡ (first, second) = some_same (place, length before) (first, second) here in
              let one : place ≡ first = ap (λ (p : ℕ × ℕ). p.0) pair in
              let two : length before ≡ second = ap (λ (p : ℕ × ℕ). p.1) pair in
              subst (λ n. IsFirst (before ++ k ∷ ks) (length before) first n) two
              (subst (λ n. IsFirst (before ++ k ∷ ks) (length before) n (length before)) one (here_first before k ks place found))
        ]) refl is
