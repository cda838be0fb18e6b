-- Loops that make a list, item by item, where a number is carried from each to the next.
use Rattle.std.proofs.Common.{◌≡◌, ◌<◌, ◌≤◌, ◌+◌, ℕ, List, [], ◌∷◌, ◌++◌, length, get_or, drop, sym, ap, ap₂, ◌∙◌, append_assoc}
use Rattle.std.proofs.lemmas.List.{append-nil, drop_more, drop_all}

module _ {A B : Type 0} (F : List A → ℕ → List B) (made_of : A → ℕ → B) (next : A → ℕ → ℕ)
    (steps : (x : A) (xs : List A) (n : ℕ) → F (x ∷ xs) n ≡ made_of x n ∷ F xs (next x n)) where
  -- one more of them
  pub loop_next : (xs : List A) (i n m : ℕ) (x : A) (made whole : List B) (y : B) → i < length xs → x ≡ get_or xs i x → y ≡ made_of x n → m ≡ next x n
      → made ++ F (drop i xs) n ≡ whole → (made ++ y ∷ []) ++ F (drop (i + 1) xs) m ≡ whole
  loop_next xs i n m x made whole y less is one place so_far =
      let rest = F (drop (i + 1) xs) in
      let first : drop i xs ≡ x ∷ drop (i + 1) xs = drop_more xs i x less ∙ ap (λ z. z ∷ drop (i + 1) xs) (sym is) in
      let more : F (drop i xs) n ≡ made_of x n ∷ rest (next x n) = ap (λ zs. F zs n) first ∙ steps x (drop (i + 1) xs) n in
      ap₂ (λ z k. (made ++ z ∷ []) ++ rest k) one place
      ∙ append_assoc made (made_of x n ∷ []) (rest (next x n)) ∙ ap (λ after. made ++ after) (sym more) ∙ so_far

  -- all of them
  pub loop_end : ((n : ℕ) → F [] n ≡ []) → (xs : List A) (i n : ℕ) (made whole : List B) → length xs ≤ i → made ++ F (drop i xs) n ≡ whole → made ≡ whole
  loop_end none xs i n made whole past so_far =
      let rest : F (drop i xs) n ≡ [] = ap (λ zs. F zs n) (drop_all i xs past) ∙ none n in
      sym (append-nil made) ∙ ap (λ after. made ++ after) (sym rest) ∙ so_far
