-- The walk to the first key that stood before: what is noted of the keys passed, one key more.
use Rattle.std.proofs.Common.{◌≡◌, ℕ, ◌+◌, ◌<◌, ◌≤◌, Bool, true, false, cond, List, [], ◌∷◌, ◌++◌, map, length, take, drop, get_or, Option, None, Some, refl, sym, ap, ◌∙◌, arith, length-take-le}
use Rattle.std.proofs.lemmas.Bool.{false_from_ne_true}
use Rattle.std.proofs.lemmas.List.{map-append, drop_more, take_more, length-map, drop_all, get_or_default}
use Rattle.std.specs.List.{position_from}
use Rattle.qe_labels.specs.Clashes.{settle, repeat_after, first_repeat}

-- the first of two places
or_else : Option ℕ → Option ℕ → Option ℕ
or_else None other = other
or_else (Some place) other = Some place

or_none : (o : Option ℕ) → or_else o None ≡ o
unfolding or_else
or_none None = refl
or_none (Some place) = refl

module _ {K : Type 0} where
  -- where a key stands among keys and one more
  position_push : (t : K → Bool) (x : K) (place : ℕ) (xs : List K)
      → position_from t place (xs ++ x ∷ []) ≡ or_else (position_from t place xs) (cond (t x) (Some (place + length xs)) None)
  unfolding or_else
  position_push t x place [] = let same : place ≡ place + 0 = omega arith in ap (λ p. cond (t x) (Some p) None) same
  position_push t x place (y ∷ ys) =
      elim (t y) as (λ b. cond b (Some place) (position_from t (place + 1) (ys ++ x ∷ [])) ≡ or_else (cond b (Some place) (position_from t (place + 1) ys)) (cond (t x) (Some (place + length (y ∷ ys))) None)) [
        | true ↦ refl
        | false ↦
            let same : (place + 1) + length ys ≡ place + length (y ∷ ys) = omega arith in
            position_push t x (place + 1) ys ∙ ap (λ n. or_else (position_from t (place + 1) ys) (cond (t x) (Some n) None)) same
      ]

  module _ (same : K → K → Bool) (exact : (a b : K) → same a b ≡ true → a ≡ b) (itself : (a : K) → same a a ≡ true) where
    -- a map from keys to their first places, with a key more that isn't there
    noted : (k q : K) (before : List K) → position_from (same k) 0 before ≡ None
        → cond (same k q) (Some (length before)) (position_from (same q) 0 before) ≡ position_from (same q) 0 (before ++ k ∷ [])
    unfolding or_else
    noted k q before none =
        let zero : 0 + length before ≡ length before = omega arith in
        (elim (same k q) as (λ b. same k q ≡ b → cond b (Some (length before)) (position_from (same q) 0 before) ≡ position_from (same q) 0 (before ++ k ∷ [])) [
          | true ↦ λ is.
              let one : k ≡ q = exact k q is in
              let not_before : position_from (same q) 0 before ≡ None = ap (λ x. position_from (same x) 0 before) (sym one) ∙ none in
              let here : same q k ≡ true = ap (λ x. same q x) one ∙ itself q in
              sym (position_push (same q) k 0 before
              ∙ ap (λ o. or_else o (cond (same q k) (Some (0 + length before)) None)) not_before
              ∙ ap (λ b. cond b (Some (0 + length before)) None) here
              ∙ ap Some zero)
          | false ↦ λ is.
              let apart : same q k ≡ false = false_from_ne_true (same q k) (λ met.
              let one : q ≡ k = exact q k met in
              let back : same k q ≡ true = ap (λ x. same k x) one ∙ itself k in
              let both : true ≡ false = sym back ∙ is in
              cc) in
              sym (position_push (same q) k 0 before
              ∙ ap (λ b. or_else (position_from (same q) 0 before) (cond b (Some (0 + length before)) None)) apart
              ∙ or_none (position_from (same q) 0 before))
        ]) refl

    module _ {R : Type 0} (key : R → K) (rows : List R) where
      abbrev before : ℕ → List K
      before place = map key (take place rows)

      abbrev behind : ℕ → List K
      behind place = map key (drop place rows)

      pub keys_taken : (place : ℕ) (row : R) → place < length rows → row ≡ get_or rows place row → before (place + 1) ≡ before place ++ key row ∷ []
      keys_taken place row within is =
          ap (map key) (take_more rows place row within) ∙ map-append key (take place rows) (get_or rows place row ∷ [])
          ∙ ap (λ x. before place ++ key x ∷ []) (sym is)

      pub keys_left : (place : ℕ) (row : R) → place < length rows → row ≡ get_or rows place row → behind place ≡ key row ∷ behind (place + 1)
      keys_left place row within is = ap (map key) (drop_more rows place row within) ∙ ap (λ x. key x ∷ behind (place + 1)) (sym is)

      keys_many : (place : ℕ) → place ≤ length rows → length (before place) ≡ place
      keys_many place within = length-map (take place rows) key ∙ length-take-le place rows within

      -- the walk stands at a place: `repeat_after` of the rest is the answer
      abbrev pub Walks : ℕ → Type 0
      Walks place = repeat_after same (before place) (behind place) ≡ first_repeat same (map key rows)

      abbrev settled : ℕ → K → Option ℕ → Option (ℕ × ℕ)
      settled place k o = settle o (length (before place)) (repeat_after same (before place ++ k ∷ []) (behind (place + 1)))

      step : (place : ℕ) (row : R) → place < length rows → row ≡ get_or rows place row
          → repeat_after same (before place) (behind place) ≡ settled place (key row) (position_from (same (key row)) 0 (before place))
      step place row within is = ap (repeat_after same (before place)) (keys_left place row within is)

      pub at_hit : (place first : ℕ) (row : R) → place < length rows → row ≡ get_or rows place row → Walks place
          → position_from (same (key row)) 0 (before place) ≡ Some first → Some (first, place) ≡ first_repeat same (map key rows)
      at_hit place first row within is walks found =
          let many : place ≡ length (before place) = sym (keys_many place (omega arith)) in
          ap (λ n. Some (first, n)) many ∙ sym (step place row within is ∙ ap (settled place (key row)) found) ∙ walks

      pub at_miss : (place : ℕ) (row : R) → place < length rows → row ≡ get_or rows place row → Walks place
          → position_from (same (key row)) 0 (before place) ≡ None → Walks (place + 1)
      at_miss place row within is walks none =
          ap (λ ks. repeat_after same ks (behind (place + 1))) (keys_taken place row within is)
          ∙ sym (step place row within is ∙ ap (settled place (key row)) none) ∙ walks

      pub noted_more : (place : ℕ) (row : R) (q : K) → place < length rows → row ≡ get_or rows place row
          → position_from (same (key row)) 0 (before place) ≡ None
          → cond (same (key row) q) (Some place) (position_from (same q) 0 (before place)) ≡ position_from (same q) 0 (before (place + 1))
      noted_more place row q within is none =
          let many : place ≡ length (before place) = sym (keys_many place (omega arith)) in
          ap (λ n. cond (same (key row) q) (Some n) (position_from (same q) 0 (before place))) many
          ∙ noted (key row) q (before place) none
          ∙ ap (position_from (same q) 0) (sym (keys_taken place row within is))

      pub at_end : (place : ℕ) → length rows ≤ place → Walks place → None ≡ first_repeat same (map key rows)
      at_end place past walks = sym (ap (λ xs. repeat_after same (before place) (map key xs)) (drop_all place rows past)) ∙ walks

      -- .. by what the key of the row at the place was found to be
      pub hit_by : (place first : ℕ) (d : R) (k : K) → k ≡ key (get_or rows place d) → place < length rows → Walks place
          → position_from (same k) 0 (before place) ≡ Some first → Some (first, place) ≡ first_repeat same (map key rows)
      hit_by place first d k is within walks found =
          at_hit place first (get_or rows place d) within (get_or_default rows place d (get_or rows place d) within) walks
          (ap (λ x. position_from (same x) 0 (before place)) (sym is) ∙ found)

      pub miss_by : (place : ℕ) (d : R) (k : K) → k ≡ key (get_or rows place d) → place < length rows → Walks place
          → position_from (same k) 0 (before place) ≡ None
          → ((q : K) → cond (same k q) (Some place) (position_from (same q) 0 (before place)) ≡ position_from (same q) 0 (before (place + 1))) × Walks (place + 1)
      miss_by place d k is within walks none =
          let row : R = get_or rows place d in
          let here : row ≡ get_or rows place row = get_or_default rows place d row within in
          let not_there : position_from (same (key row)) 0 (before place) ≡ None = ap (λ x. position_from (same x) 0 (before place)) (sym is) ∙ none in (
            λ q. ap (λ x. cond (same x q) (Some place) (position_from (same q) 0 (before place))) is ∙ noted_more place row q within here not_there,
            at_miss place row within here walks not_there,
          )
