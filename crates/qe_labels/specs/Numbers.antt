-- How often a run indexed each of its words. A word that was only searched for, and a stray word, have 0.
use Rattle.std.specs.Prelude.{◌≡◌, ◌≤◌, ℕ, ◌+◌, List, [], ◌∷◌, Some, unwrap_or, if◌then◌else◌}
use Rattle.std.specs.declared.cmp.Ordering.{Ordering}
use Rattle.std.specs.declared.cmp.Ordering.TheVariants.{Less, Greater}
use Rattle.std.specs.Ordering.{nat_cmp, ordering_then}
use Rattle.std.specs.Cmp.Lexicographic.{slice_cmp}
use Rattle.std.specs.FinMap.{FinMap, get, insert, contains_key}
use Rattle.qe_tokens.specs.declared.words.Word.{Word}
use Rattle.qe_tokens.specs.declared.words.Word.TheVariants.{Item, Stray}

-- items before strays: items by field, bytes and contention factor, strays by token
abbrev pub word_cmp : Word → Word → Ordering
word_cmp (Item f x u) (Item g y v) = ordering_then (nat_cmp f g) (ordering_then (slice_cmp nat_cmp x y) (nat_cmp u v))
word_cmp (Item f x u) (Stray t) = Less
word_cmp (Stray s) (Item g y v) = Greater
word_cmp (Stray s) (Stray t) = slice_cmp nat_cmp s t

-- the words of a run, each with its number
abbrev pub Numbers : Type 0
Numbers = FinMap word_cmp ℕ

-- the word is one of the run's, and was indexed so often
abbrev pub counted : Numbers → Word → ℕ → Type 0
counted numbers word n = get numbers word ≡ Some n

-- the word is one of the run's from now on
abbrev pub learned : Numbers → Word → Numbers
learned numbers word = if contains_key numbers word then numbers else insert numbers word 0

-- the word was indexed once more
abbrev pub raised : Numbers → Word → Numbers
raised numbers word = insert numbers word (unwrap_or (get numbers word) 0 + 1)

abbrev pub all_learned : Numbers → List Word → Numbers
all_learned numbers [] = numbers
all_learned numbers (word ∷ words) = all_learned (learned numbers word) words

abbrev pub all_raised : Numbers → List Word → Numbers
all_raised numbers [] = numbers
all_raised numbers (word ∷ words) = all_raised (raised numbers word) words

-- a later time of a run: each word is still there, and was indexed as often at least
pub record Later (before after : Numbers) : Type 0 where
  pub at : (word : Word) (n : ℕ) → get before word ≡ Some n → (k : ℕ) × (get after word ≡ Some k) × (n ≤ k)

-- a stray word was never indexed
pub record StraysAreZero (numbers : Numbers) : Type 0 where
  pub zero : (token : List ℕ) (n : ℕ) → get numbers (Stray token) ≡ Some n → n ≡ 0
