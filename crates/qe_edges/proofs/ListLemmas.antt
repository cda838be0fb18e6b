-- Lists of prefixes by their members and their order.
use Rattle.std.proofs.Common.{◌≡◌, ℕ, zero, suc, ◌<◌, List, [], ◌∷◌, ◌++◌, get_or, inl, inr, ◌⊎◌, refl, sym, ap, ap₂, ◌∙◌, subst, arith}
use Rattle.std.specs.List.{All, Contains}
use Rattle.std.proofs.lemmas.List.Elements.{Contains-get_or, Contains-append_cases}
use Rattle.qe_edges.specs.Prefixes.{Lists, Rises, OneEdgeList, OneCoverList, IsEdgeOf, IsInCover, lowest_of}
use Rattle.qe_edges.specs.declared.edge.Edge.{Edge}

-- what holds of each member holds of each place
pub all_members : (P : Edge → Type 0) (xs : List Edge) → ((e : Edge) → Contains xs e → P e) → All P xs
all_members P xs each k d within = each (get_or xs k d) (Contains-get_or xs k d within)

-- a member is the first or one behind it
contains_cases : (x : Edge) (xs : List Edge) (e : Edge) → Contains (x ∷ xs) e → (x ≡ e) ⊎ Contains xs e
contains_cases x xs e (zero, within, at) = inl at
contains_cases x xs e (suc k, within, at) = inr (k, omega arith, at)

contains_first : (x : Edge) (xs : List Edge) → Contains (x ∷ xs) x
contains_first x xs = (0, omega arith, refl)

contains_rest : (x : Edge) (xs : List Edge) (e : Edge) → Contains xs e → Contains (x ∷ xs) e
contains_rest x xs e (k, within, at) = (suc k, omega arith, at)

-- the first is below those behind it, and these rise
first_below : (number : Edge → ℕ) (x : Edge) (xs : List Edge) → Rises number (x ∷ xs) → (e : Edge) → Contains xs e
    → number x < number e
first_below number x xs rises e (k, within, at) = subst (λ f. number x < number f) at (rises 0 (suc k) e (omega arith) (omega arith))

rest_rises : (number : Edge → ℕ) (x : Edge) (xs : List Edge) → Rises number (x ∷ xs) → Rises number xs
rest_rises number x xs rises i j d less within = rises (suc i) (suc j) d (omega arith) (omega arith)

-- a list rises behind a first that is below its members
rises_cons : (number : Edge → ℕ) (x : Edge) (xs : List Edge) → Rises number xs
    → ((e : Edge) → Contains xs e → number x < number e) → Rises number (x ∷ xs)
rises_cons number x xs rises below zero zero d less within = absurd (omega arith)
rises_cons number x xs rises below zero (suc j) d less within = below (get_or xs j d) (Contains-get_or xs j d (omega arith))
rises_cons number x xs rises below (suc i) zero d less within = absurd (omega arith)
rises_cons number x xs rises below (suc i) (suc j) d less within = rises i j d (omega arith) (omega arith)

-- .. and behind a list that is
pub rises_behind : (number : Edge → ℕ) (xs ys : List Edge) → Rises number xs → Rises number ys
    → ((e f : Edge) → Contains xs e → Contains ys f → number e < number f) → Rises number (xs ++ ys)
rises_behind number [] ys xs_rise ys_rise below = ys_rise
rises_behind number (x ∷ xs) ys xs_rise ys_rise below = rises_cons number x (xs ++ ys)
    (rises_behind number xs ys (rest_rises number x xs xs_rise) ys_rise (λ e f has. below e f (contains_rest x xs e has)))
    (λ f has. elim (Contains-append_cases xs ys f has) [
      | inl behind ↦ first_below number x xs xs_rise f behind
      | inr above ↦ below x f (contains_first x xs) above
    ])

-- rising lists with the same members are one
one_rising : (number : Edge → ℕ) (xs ys : List Edge) → Rises number xs → Rises number ys
    → ((e : Edge) → Contains xs e → Contains ys e) → ((e : Edge) → Contains ys e → Contains xs e) → xs ≡ ys
one_rising number [] [] xs_rise ys_rise to from = refl
one_rising number [] (y ∷ ys) xs_rise ys_rise to from = let none = from y (contains_first y ys) in absurd (omega (arith, none.1))
one_rising number (x ∷ xs) [] xs_rise ys_rise to from = let none = to x (contains_first x xs) in absurd (omega (arith, none.1))
one_rising number (x ∷ xs) (y ∷ ys) xs_rise ys_rise to from =
    let same : x ≡ y = elim (contains_cases y ys x (to x (contains_first x xs))) [
      | inl same ↦ sym same
      | inr behind ↦ elim (contains_cases x xs y (from y (contains_first y ys))) [
        | inl same ↦ same
        | inr back ↦
            let up = first_below number y ys ys_rise x behind in
            let down = first_below number x xs xs_rise y back in
            absurd (omega arith)
      ]
    ] in
    let rest = one_rising number xs ys (rest_rises number x xs xs_rise) (rest_rises number y ys ys_rise)
    (λ e has. elim (contains_cases y ys e (to e (contains_rest x xs e has))) [
      | inl first ↦ let up = first_below number x xs xs_rise e has in let even = ap number (same ∙ first) in absurd (omega arith)
      | inr behind ↦ behind
    ])
    (λ e has. elim (contains_cases x xs e (from e (contains_rest y ys e has))) [
      | inl first ↦ let up = first_below number y ys ys_rise e has in let even = ap number (sym same ∙ first) in absurd (omega arith)
      | inr behind ↦ behind
    ])
    in
    ap₂ (λ (z : Edge) (zs : List Edge). z ∷ zs) same rest

-- rising lists of one set are one
one_listed : (number : Edge → ℕ) (set : Edge → Type 0) (xs ys : List Edge) → Lists set xs → Rises number xs
    → Lists set ys → Rises number ys → xs ≡ ys
one_listed number set xs ys in_xs xs_rise in_ys ys_rise = one_rising number xs ys xs_rise ys_rise
    (λ e has. (in_ys e).1 ((in_xs e).0 has)) (λ e has. (in_xs e).1 ((in_ys e).0 has))

pub one_edge_list : OneEdgeList
one_edge_list rules v = one_listed (λ e. e.len) (IsEdgeOf rules v)

pub one_cover_list : OneCoverList
one_cover_list rules lo hi = one_listed (lowest_of rules) (IsInCover rules lo hi)
