-- Facts on the elements of lists of numbers, and on links along them.
use Rattle.std.proofs.Common.{◌≡◌, ℕ, zero, suc, ◌≤◌, List, [], ◌∷◌, ◌++◌, length, Option, None, Some, refl, sym, ◌∙◌, ap, subst, arith}
use Rattle.qe_chains.specs.Linked.{first_or, last_or, Each, Apart, Distinct, Follows, Precedes, walk}

-- Some has one argument
pub same_some : (x y : ℕ) → Some x ≡ Some y → x ≡ y
same_some x y e = cc

-- EACH

pub each_map : (P Q : ℕ → Type 0) → ((x : ℕ) → P x → Q x) → (xs : List ℕ) → Each P xs → Each Q xs
each_map P Q f [] h = tt
each_map P Q f (x ∷ xs) h = (f x h.0, each_map P Q f xs h.1)

pub each_both : (P Q : ℕ → Type 0) (xs : List ℕ) → Each P xs → Each Q xs → Each (λ x. P x × Q x) xs
each_both P Q [] h k = tt
each_both P Q (x ∷ xs) h k = ((h.0, k.0), each_both P Q xs h.1 k.1)

pub each_append : (P : ℕ → Type 0) (xs ys : List ℕ) → Each P xs → Each P ys → Each P (xs ++ ys)
each_append P [] ys h k = k
each_append P (x ∷ xs) ys h k = (h.0, each_append P xs ys h.1 k)

pub each_left : (P : ℕ → Type 0) (xs ys : List ℕ) → Each P (xs ++ ys) → Each P xs
each_left P [] ys h = tt
each_left P (x ∷ xs) ys h = (h.0, each_left P xs ys h.1)

pub each_right : (P : ℕ → Type 0) (xs ys : List ℕ) → Each P (xs ++ ys) → Each P ys
each_right P [] ys h = h
each_right P (x ∷ xs) ys h = each_right P xs ys h.1

-- an element moves from the middle of one list to the front of the next
pub each_moved : (P : ℕ → Type 0) (n : ℕ) (xs ys zs : List ℕ) → Each P ((xs ++ n ∷ ys) ++ zs) → Each P ((xs ++ ys) ++ n ∷ zs)
each_moved P n xs ys zs h =
    let both = each_left P (xs ++ n ∷ ys) zs h in
    let behind = each_right P xs (n ∷ ys) both in
    each_append P (xs ++ ys) (n ∷ zs) (each_append P xs ys (each_left P xs (n ∷ ys) both) behind.1) (behind.0, each_right P (xs ++ n ∷ ys) zs h)

-- the last and the first are among the elements
pub last_has : (P : ℕ → Type 0) (x : ℕ) (xs : List ℕ) → Each P (x ∷ xs) → (l : ℕ) → last_or (Some x) xs ≡ Some l → P l
last_has P x [] h l e = subst P (same_some x l e) h.0
last_has P x (y ∷ xs) h l e = last_has P y xs h.1 l e

pub last_among : (P : ℕ → Type 0) (xs : List ℕ) → Each P xs → (l : ℕ) → last_or None xs ≡ Some l → P l
last_among P [] h l e = absurd (cc)
last_among P (x ∷ xs) h l e = last_has P x xs h l e

pub first_among : (P : ℕ → Type 0) (xs : List ℕ) → Each P xs → (l : ℕ) → first_or None xs ≡ Some l → P l
first_among P [] h l e = absurd (cc)
first_among P (x ∷ xs) h l e = subst P (same_some x l e) h.0

-- a list that is not empty has a last
pub last_some : (x : ℕ) (xs : List ℕ) → (l : ℕ) × (last_or (Some x) xs ≡ Some l)
last_some x [] = (x, refl)
last_some x (y ∷ xs) = last_some y xs

pub last_push : (b : Option ℕ) (n : ℕ) (xs : List ℕ) → last_or b (xs ++ n ∷ []) ≡ Some n
last_push b n [] = refl
last_push b n (x ∷ xs) = last_push (Some x) n xs

pub last_skip : (b : Option ℕ) (n y : ℕ) (xs ys : List ℕ) → last_or b (xs ++ n ∷ y ∷ ys) ≡ last_or b (xs ++ y ∷ ys)
last_skip b n y [] ys = refl
last_skip b n y (x ∷ xs) ys = last_skip (Some x) n y xs ys

-- DISTINCT

apart_sym : (x y : ℕ) → (x ≡ y → ⊥) → y ≡ x → ⊥
apart_sym x y h e = h (sym e)

pub distinct_push : (n : ℕ) (xs : List ℕ) → Distinct xs → Apart n xs → Distinct (xs ++ n ∷ [])
distinct_push n [] d a = (tt, tt)
distinct_push n (x ∷ xs) d a = (each_append (λ y. y ≡ x → ⊥) xs (n ∷ []) d.0 (apart_sym x n a.0, tt), distinct_push n xs d.1 a.1)

distinct_insert : (n : ℕ) (ys zs : List ℕ) → Apart n (ys ++ zs) → Distinct (ys ++ zs) → Distinct (ys ++ n ∷ zs)
distinct_insert n [] zs a d = (a, d)
distinct_insert n (y ∷ ys) zs a d = (
  each_append (λ j. j ≡ y → ⊥) ys (n ∷ zs) (each_left (λ j. j ≡ y → ⊥) ys zs d.0) (apart_sym y n a.0, each_right (λ j. j ≡ y → ⊥) ys zs d.0),
  distinct_insert n ys zs a.1 d.1,
)

pub distinct_moved : (n : ℕ) (xs ys zs : List ℕ) → Distinct ((xs ++ n ∷ ys) ++ zs) → Distinct ((xs ++ ys) ++ n ∷ zs)
distinct_moved n [] ys zs d = distinct_insert n ys zs d.0 d.1
distinct_moved n (x ∷ xs) ys zs d = (each_moved (λ j. j ≡ x → ⊥) n xs ys zs d.0, distinct_moved n xs ys zs d.1)

pub distinct_left : (xs ys : List ℕ) → Distinct (xs ++ ys) → Distinct xs
distinct_left [] ys d = tt
distinct_left (x ∷ xs) ys d = (each_left (λ j. j ≡ x → ⊥) xs ys d.0, distinct_left xs ys d.1)

pub distinct_right : (xs ys : List ℕ) → Distinct (xs ++ ys) → Distinct ys
distinct_right [] ys d = d
distinct_right (x ∷ xs) ys d = distinct_right xs ys d.1

-- what stands behind is apart from what stands before
pub apart_middle : (n : ℕ) (xs ys : List ℕ) → Distinct (xs ++ n ∷ ys) → Apart n xs
apart_middle n [] ys d = tt
apart_middle n (x ∷ xs) ys d = (apart_sym n x (each_right (λ j. j ≡ x → ⊥) xs (n ∷ ys) d.0).0, apart_middle n xs ys d.1)

pub apart_behind : (xs ys : List ℕ) → Distinct (xs ++ ys) → Each (λ y. Apart y xs) ys
apart_behind [] ys d = each_map (λ y. Unit {0}) (λ y. Apart y []) (λ y h. h) ys (each_unit ys)
  where
    each_unit : (ys : List ℕ) → Each (λ y. Unit {0}) ys
    each_unit [] = tt
    each_unit (y ∷ ys) = (tt, each_unit ys)
apart_behind (x ∷ xs) ys d = each_map (λ y. (y ≡ x → ⊥) × Apart y xs) (λ y. Apart y (x ∷ xs)) (λ y h. (apart_sym y x h.0, h.1)) ys
    (each_both (λ y. y ≡ x → ⊥) (λ y. Apart y xs) ys (each_right (λ j. j ≡ x → ⊥) xs ys d.0) (apart_behind xs ys d.1))

-- LINKS

pub follows_kept : (next next' : ℕ → Option ℕ) (e : Option ℕ) (xs : List ℕ) → Each (λ x. next' x ≡ next x) xs → Follows next xs e → Follows next' xs e
follows_kept next next' e [] h f = tt
follows_kept next next' e (x ∷ xs) h f = (h.0 ∙ f.0, follows_kept next next' e xs h.1 f.1)

pub precedes_kept : (prev prev' : ℕ → Option ℕ) (b : Option ℕ) (xs : List ℕ) → Each (λ x. prev' x ≡ prev x) xs → Precedes prev b xs → Precedes prev' b xs
precedes_kept prev prev' b [] h p = tt
precedes_kept prev prev' b (x ∷ xs) h p = (h.0 ∙ p.0, precedes_kept prev prev' (Some x) xs h.1 p.1)

-- what the links of an element in the middle are
pub follows_at : (next : ℕ → Option ℕ) (e : Option ℕ) (n : ℕ) (xs ys : List ℕ) → Follows next (xs ++ n ∷ ys) e → next n ≡ first_or e ys
follows_at next e n [] ys f = f.0
follows_at next e n (x ∷ xs) ys f = follows_at next e n xs ys f.1

pub precedes_at : (prev : ℕ → Option ℕ) (b : Option ℕ) (n : ℕ) (xs ys : List ℕ) → Precedes prev b (xs ++ n ∷ ys) → prev n ≡ last_or b xs
precedes_at prev b n [] ys p = p.0
precedes_at prev b n (x ∷ xs) ys p = precedes_at prev (Some x) n xs ys p.1

-- the links along a list give it, walked long enough
pub walk_is : (next : ℕ → Option ℕ) (xs : List ℕ) (n : ℕ) → length xs ≤ n → Follows next xs None → walk next n (first_or None xs) ≡ xs
walk_is next [] zero le f = refl
walk_is next [] (suc n) le f = refl
walk_is next (x ∷ xs) zero le f = absurd (omega arith)
walk_is next (x ∷ xs) (suc n) le f = ap (λ rest. x ∷ rest) (subst (λ o. walk next n o ≡ xs) (sym f.0) (walk_is next xs n (omega arith) f.1))
