-- What another table, other keys and kept links do to the lists of all keys; and which pairs sound parts show.
use Rattle.std.proofs.Common.{◌≡◌, ℕ, Bool, true, false, cond, nat_eq, bytes_eq, List, [], ◌∷◌, ◌++◌, length, map, IfSome, Option, None, Some, refl, sym, ◌∙◌, ap, subst, arith}
use Rattle.std.proofs.lemmas.Bool.{eqb-true, eq-eqb}
use Rattle.std.proofs.lemmas.Slice.Eq.{bytes_eq-Decides}
use Rattle.qe_chains.specs.declared.nodes.Side.TheVariants.{All}
use Rattle.qe_chains.specs.declared.nodes.Ends.{Ends}
use Rattle.qe_chains.specs.declared.nodes.Node.{Node}
use Rattle.qe_chains.specs.Linked.{Each, IsList, those, AreLists, walk}
use Rattle.qe_chains.specs.Nodes.{after, tag_at, doc_at, pair_at, first_of, pairs_from}
use Rattle.qe_chains.specs.Sound.{Sound, Sets}
use Rattle.qe_chains.proofs.LinkLemmas.{last_among, first_among, follows_at, precedes_at, walk_is}
use Rattle.qe_chains.proofs.ListLemmas.{kept}
use Rattle.qe_chains.proofs.KeyLemmas.{each_filter, filter_agrees}

-- tags and numbers are equal exactly where their tests say so
pub tag_sound : (a b : List ℕ) → bytes_eq a b ≡ true → a ≡ b
tag_sound a b = (bytes_eq-Decides a b).0

pub tag_same : (a : List ℕ) → bytes_eq a a ≡ true
tag_same a = (bytes_eq-Decides a a).1 refl

pub doc_sound : (a b : ℕ) → nat_eq a b ≡ true → a ≡ b
doc_sound a b = eqb-true a b

pub doc_same : (a : ℕ) → nat_eq a a ≡ true
doc_same a = eq-eqb a a refl

-- a part of what a table gives, after ends were set
pub sets_part : {K : Type 0} (eq : K → K → Bool) (part : Option Ends → Option ℕ) (old new : K → Option Ends) (key at : K) (ends : Option Ends) → at ≡ key → Sets eq old new key ends
    → (q : K) → part (new q) ≡ cond (eq at q) (part ends) (part (old q))
sets_part eq part old new key at ends same sets q =
    ap part (sets q) ∙ apart (eq key q) ∙ ap (λ k. cond (eq k q) (part ends) (part (old q))) (sym same)
  where
    apart : (b : Bool) → part (cond b ends (old q)) ≡ cond b (part ends) (part (old q))
    apart true = refl
    apart false = refl

-- the same lists by other names of the same keys
pub rekeyed : {K : Type 0} (eq : K → K → Bool) (key key' : ℕ → K) (next prev : ℕ → Option ℕ) (first last : K → Option ℕ) (xs : List ℕ) → ((j : ℕ) → key' j ≡ key j) → AreLists eq key next prev first last xs → AreLists eq key' next prev first last xs
rekeyed eq key key' next prev first last xs same lists k =
    subst (λ zs. IsList next prev (first k) (last k) zs) (filter_agrees (λ j. eq k (key j)) (λ j. eq k (key' j)) xs (all xs)) (lists k)
  where
    all : (xs : List ℕ) → Each (λ j. eq k (key j) ≡ eq k (key' j)) xs
    all [] = tt
    all (x ∷ xs) = (ap (eq k) (sym (same x)), all xs)

-- lists whose members keep their links
pub lists_kept : {K : Type 0} (eq : K → K → Bool) (key : ℕ → K) (next prev next' prev' : ℕ → Option ℕ) (first last : K → Option ℕ) (xs : List ℕ)
    → Each (λ j. next' j ≡ next j) xs → Each (λ j. prev' j ≡ prev j) xs → AreLists eq key next prev first last xs → AreLists eq key next' prev' first last xs
lists_kept eq key next prev next' prev' first last xs nexts prevs lists k =
    kept next prev next' prev' (first k) (last k) (those eq key k xs)
    (each_filter (λ j. next' j ≡ next j) (λ j. eq k (key j)) xs nexts) (each_filter (λ j. prev' j ≡ prev j) (λ j. eq k (key j)) xs prevs) (lists k)

if_some : (P : ℕ → Type 0) (o : Option ℕ) → ((l : ℕ) → o ≡ Some l → P l) → IfSome o P
if_some P None h = tt
if_some P (Some x) h = h x refl

-- the neighbours of a member meet what each member does
pub neighbours : (P : ℕ → Type 0) (n : ℕ) (next prev : ℕ → Option ℕ) (first last : Option ℕ) (xs ys : List ℕ) → IsList next prev first last (xs ++ n ∷ ys) → Each P xs → Each P ys → IfSome (prev n) P × IfSome (next n) P
neighbours P n next prev first last xs ys is front back = (
  if_some P (prev n) (λ l e. last_among P xs front l (sym (precedes_at prev None n xs ys is.precedes) ∙ e)),
  if_some P (next n) (λ l e. first_among P ys back l (sym (follows_at next None n xs ys is.follows) ∙ e)),
)

-- PAIRS

pub map_same : (old new : List Node) (xs : List ℕ) → Each (λ j. pair_at new j ≡ pair_at old j) xs → map (pair_at new) xs ≡ map (pair_at old) xs
map_same old new [] h = refl
map_same old new (x ∷ xs) h =
    ap (λ p. p ∷ map (pair_at new) xs) h.0 ∙ ap (λ rest. pair_at old x ∷ rest) (map_same old new xs h.1)

pub pair_same : (old new : List Node) (i j : ℕ) → tag_at new i ≡ tag_at old j → doc_at new i ≡ doc_at old j → pair_at new i ≡ pair_at old j
pair_same old new i j t d = cc

pub map_length : (f : ℕ → List ℕ × ℕ) (xs : List ℕ) → length (map f xs) ≡ length xs
map_length f [] = refl
map_length f (x ∷ xs) = ap (λ n. n) (let rest = map_length f xs in omega arith)

module _ (nodes : List Node) (all : Option Ends) (free : Option ℕ) (tags : List ℕ → Option Ends) (docs : ℕ → Option Ends) (order spares : List ℕ) (sound : Sound nodes all free tags docs order spares) where
  pub pairs_are : pairs_from nodes All (first_of all) ≡ map (pair_at nodes) order
  pairs_are = ap (map (pair_at nodes)) (ap (walk (after nodes All) (length nodes)) sound.whole.starts ∙ walk_is (after nodes All) order (length nodes) (omega (arith, sound.count)) sound.whole.follows)

  pub pairs_count : length (pairs_from nodes All (first_of all)) ≡ length order
  pairs_count = ap length pairs_are ∙ map_length (pair_at nodes) order
