-- Doubly linked lists whose elements are numbers, each linked by two functions: the element after one, and the one before.
use Rattle.std.specs.Prelude.{◌≡◌, ℕ, zero, suc, Bool, List, [], ◌∷◌, filter, Option, None, Some}

-- the first and the last of a list, or `other` where it is empty
abbrev pub first_or : Option ℕ → List ℕ → Option ℕ
first_or other [] = other
first_or other (x ∷ xs) = Some x

abbrev pub last_or : Option ℕ → List ℕ → Option ℕ
last_or other [] = other
last_or other (x ∷ xs) = last_or (Some x) xs

-- each element meets P
abbrev pub Each : (ℕ → Type 0) → List ℕ → Type 0
Each P [] = Unit {0}
Each P (x ∷ xs) = P x × Each P xs

-- n is none of the elements
abbrev pub Apart : ℕ → List ℕ → Type 0
Apart n xs = Each (λ x. x ≡ n → ⊥) xs

-- no element stands twice
abbrev pub Distinct : List ℕ → Type 0
Distinct [] = Unit {0}
Distinct (x ∷ xs) = Apart x xs × Distinct xs

-- the links forward go along the list, and the last one to `end`
abbrev pub Follows : (ℕ → Option ℕ) → List ℕ → Option ℕ → Type 0
Follows next [] end = Unit {0}
Follows next (x ∷ xs) end = (next x ≡ first_or end xs) × Follows next xs end

-- the links back go along the list, and the first one to `start`
abbrev pub Precedes : (ℕ → Option ℕ) → Option ℕ → List ℕ → Type 0
Precedes prev start [] = Unit {0}
Precedes prev start (x ∷ xs) = (prev x ≡ start) × Precedes prev (Some x) xs

-- the links both ways, and the two ends, are those of the list
pub record IsList (next prev : ℕ → Option ℕ) (first last : Option ℕ) (xs : List ℕ) : Type 0 where
  pub follows : Follows next xs None
  pub precedes : Precedes prev None xs
  pub starts : first ≡ first_or None xs
  pub ends : last ≡ last_or None xs

-- those of the list that have the key
abbrev pub those : {K : Type 0} → (K → K → Bool) → (ℕ → K) → K → List ℕ → List ℕ
those eq key k xs = filter (λ x. eq k (key x)) xs

-- for each key the links are those of a list: of those that have it
abbrev pub AreLists : {K : Type 0} → (K → K → Bool) → (ℕ → K) → (ℕ → Option ℕ) → (ℕ → Option ℕ) → (K → Option ℕ) → (K → Option ℕ) → List ℕ → Type 0
AreLists {K} eq key next prev first last xs = (k : K) → IsList next prev (first k) (last k) (those eq key k xs)

-- the elements from one on along the links, at most n of them
abbrev pub walk : (ℕ → Option ℕ) → ℕ → Option ℕ → List ℕ
walk next zero from = []
walk next (suc n) None = []
walk next (suc n) (Some x) = x ∷ walk next n (next x)

-- n comes after the last: what the links and ends are then
pub record Pushes (n : ℕ) (next prev : ℕ → Option ℕ) (first last : Option ℕ) (next' prev' : ℕ → Option ℕ) (first' last' : Option ℕ) : Type 0 where
  pub nexts : (j : ℕ) → (j ≡ n → ⊥) → (last ≡ Some j → ⊥) → next' j ≡ next j
  pub joins : (l : ℕ) → last ≡ Some l → next' l ≡ Some n
  pub here_next : next' n ≡ None
  pub prevs : (j : ℕ) → (j ≡ n → ⊥) → prev' j ≡ prev j
  pub here_prev : prev' n ≡ last
  pub starts_new : last ≡ None → first' ≡ Some n
  pub starts_old : (l : ℕ) → last ≡ Some l → first' ≡ first
  pub ends : last' ≡ Some n

-- n is taken out: its neighbours are linked, and an end that it was moves
pub record Takes (n : ℕ) (next prev : ℕ → Option ℕ) (first last : Option ℕ) (next' prev' : ℕ → Option ℕ) (first' last' : Option ℕ) : Type 0 where
  pub nexts : (j : ℕ) → (prev n ≡ Some j → ⊥) → next' j ≡ next j
  pub joins_next : (l : ℕ) → prev n ≡ Some l → next' l ≡ next n
  pub prevs : (j : ℕ) → (next n ≡ Some j → ⊥) → prev' j ≡ prev j
  pub joins_prev : (f : ℕ) → next n ≡ Some f → prev' f ≡ prev n
  pub starts_new : prev n ≡ None → first' ≡ next n
  pub starts_old : (l : ℕ) → prev n ≡ Some l → first' ≡ first
  pub ends_new : next n ≡ None → last' ≡ prev n
  pub ends_old : (f : ℕ) → next n ≡ Some f → last' ≡ last
