-- The entries of a map of words, as the numbers that contracts see.
use Rattle.std.proofs.Common.{◌≡◌, ◌&&◌, ℕ, ◌+◌, Bool, true, false, cond, T, List, [], ◌∷◌, map, Some, Ordering, Less, Equal, Greater, refl, sym, ap, ◌∙◌}
use Rattle.std.proofs.lemmas.Bool.{cond-true, cond-false}
use Rattle.std.proofs.lemmas.List.{nil_from_length}
use Rattle.std.specs.BTreeMap.{is_at}
use Rattle.std.specs.Cmp.{eq_by_cmp_equiv}
use Rattle.std.specs.FinMap.{entries, entries-insert, find, from_entries, get, get-from_entries, get-insert, insert, len-empty, len-entries, put, same_map}
use Rattle.std.specs.FinMap.Entries.{below_all, by_order, is_sorted}
use Rattle.std.specs.List.{AllByRecursion}
use Rattle.std.specs.List.Sorted.{IsStrictlySortedBy}
use Rattle.std.specs.Map.{lookup}
use Rattle.std.specs.Ordering.{is_lt}
use Rattle.std.specs.Prelude.{is_some, unwrap_or}
use Rattle.qe_tokens.specs.declared.words.Word.{Word}
use Rattle.qe_labels.specs.Numbers.{Numbers, learned, raised, word_cmp}
use Rattle.qe_labels.proofs.OrderLemmas.{words_exact, words_total}

abbrev pub Entries : Type 0
Entries = List (Word × ℕ)

abbrev pub numbers_in : Entries → Numbers
numbers_in es = from_entries es

-- ---- what the map answers
bridge : (word : Word) (es : Entries) → find word_cmp word es ≡ lookup (is_at (word_cmp word)) es
bridge word [] = refl
bridge word (e ∷ es) = ap (cond (is_at (word_cmp word) e.0) (Some e.1)) (bridge word es)

got : (es : Entries) (word : Word) → get (numbers_in es) word ≡ lookup (is_at (word_cmp word)) es
got es word = get-from_entries words_total es word ∙ bridge word es

-- an entry more, as a map says what an insert does
abbrev pub Updated : Entries → Entries → Word → ℕ → Type 0
Updated es fs word n = (other : Word) → lookup (is_at (word_cmp other)) fs ≡ cond (is_at (word_cmp word) other) (Some n) (lookup (is_at (word_cmp other)) es)

inserted : (es fs : Entries) (word : Word) (n : ℕ) → Updated es fs word n → numbers_in fs ≡ insert (numbers_in es) word n
inserted es fs word n updated = same_map words_total words_exact (numbers_in fs) (insert (numbers_in es) word n) (λ other.
    let turned = (eq_by_cmp_equiv words_total).symm other word in
    got fs other ∙ updated other ∙ sym (get-insert words_total (numbers_in es) word n other ∙ (λ i. cond (turned i) (Some n) (got es other i))))

pub learned_known : (es : Entries) (word : Word) → is_some (lookup (is_at (word_cmp word)) es) ≡ true → numbers_in es ≡ learned (numbers_in es) word
learned_known es word known = sym (cond-true (is_some (get (numbers_in es) word)) (numbers_in es) (insert (numbers_in es) word 0) (ap is_some (got es word) ∙ known))

pub learned_new : (es fs : Entries) (word : Word) → is_some (lookup (is_at (word_cmp word)) es) ≡ false → Updated es fs word 0 → numbers_in fs ≡ learned (numbers_in es) word
learned_new es fs word unknown updated =
    inserted es fs word 0 updated
    ∙ sym (cond-false (is_some (get (numbers_in es) word)) (numbers_in es) (insert (numbers_in es) word 0) (ap is_some (got es word) ∙ unknown))

pub raised_by : (es fs : Entries) (word : Word) (number next : ℕ) → number ≡ unwrap_or (lookup (is_at (word_cmp word)) es) 0 → next ≡ number + 1 → Updated es fs word next
    → numbers_in fs ≡ raised (numbers_in es) word
raised_by es fs word number next is one_more updated =
    let same : next ≡ unwrap_or (get (numbers_in es) word) 0 + 1 = one_more ∙ ap (λ n. n + 1) is ∙ ap (λ o. unwrap_or o 0 + 1) (sym (got es word)) in
    inserted es fs word next updated ∙ ap (insert (numbers_in es) word) same

-- ---- the entries of the map that is made of rising ones
put_front : (e : Word × ℕ) (es : Entries) → AllByRecursion (λ word. word_cmp e.0 word ≡ Less) (map (λ x. x.0) es) → put word_cmp e.0 e.1 es ≡ e ∷ es
put_front e [] up = refl
put_front e (x ∷ es) up = ap (λ o. by_order o ((e.0, e.1) ∷ x ∷ es) ((x.0, e.1) ∷ es) (x ∷ put word_cmp e.0 e.1 es)) up.0

none_first : entries (numbers_in []) ≡ []
none_first = nil_from_length (entries (numbers_in [])) (sym (len-entries (numbers_in [])) ∙ len-empty word_cmp ℕ)

pub risen : (es : Entries) → IsStrictlySortedBy word_cmp (map (λ e. e.0) es) → entries (numbers_in es) ≡ es
unfolding IsStrictlySortedBy
risen [] rise = none_first
risen (e ∷ es) rise = entries-insert words_total (numbers_in es) e.0 e.1 ∙ ap (put word_cmp e.0 e.1) (risen es rise.1) ∙ put_front e es rise.0

-- ---- a list that is sorted by a test
less : (o : Ordering) → T (is_lt o) → o ≡ Less
less Less h = refl
less Equal h = absurd h
less Greater h = absurd h

both_parts : (a b : Bool) → T (a && b) → T a × T b
both_parts true b h = (tt, h)
both_parts false b h = absurd h

below_to : (word : Word) (es : Entries) → T (below_all word_cmp word es) → AllByRecursion (λ x. word_cmp word x ≡ Less) (map (λ e. e.0) es)
below_to word [] all = tt
below_to word (e ∷ es) all =
    let parts = both_parts (is_lt (word_cmp word e.0)) (below_all word_cmp word es) all in
    (less (word_cmp word e.0) parts.0, below_to word es parts.1)

pub sorted_to : (es : Entries) → T (is_sorted word_cmp es) → IsStrictlySortedBy word_cmp (map (λ e. e.0) es)
unfolding IsStrictlySortedBy
sorted_to [] rise = tt
sorted_to (e ∷ es) rise =
    let parts = both_parts (below_all word_cmp e.0 es) (is_sorted word_cmp es) rise in
    (below_to e.0 es parts.0, sorted_to es parts.1)
