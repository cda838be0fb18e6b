-- The list of labels has each label of a run once, in order.
use Rattle.std.proofs.Common.{◌≡◌, ◌&&◌, ℕ, zero, suc, ◌+◌, ◌*◌, ◌<◌, ◌≤◌, Bool, true, false, T, List, [], ◌∷◌, ◌++◌, Some, Ordering, Less, Equal, Greater, refl, sym, ap, ◌∙◌, subst, arith, inl, inr, ⊎_elim}
use Rattle.std.proofs.lemmas.Bool.{cond_both, cond-true, cond-false, cases_eq}
use Rattle.std.specs.Prelude.{unwrap_or}
use Rattle.std.specs.List.Sorted.{IsStrictlySortedBy}
use Rattle.std.specs.Ordering.{is_lt, is_eq, eq_by_cmp, nat_cmp, ordering_then, ordering_reverse}
use Rattle.std.specs.Cmp.{tied_itself, nat_cmp_total, nat_cmp_is, eq_by_cmp_equiv}
use Rattle.std.specs.FinMap.{get, entries, entries_sorted, get-entries, find}
use Rattle.std.specs.FinMap.Entries.{is_sorted, below_all}
use Rattle.qe_tokens.specs.Labels.{IsLabel, HasLabels, first_number}
use Rattle.qe_tokens.specs.declared.words.Label.{Label}
use Rattle.qe_tokens.specs.declared.words.LabelKind.{LabelKind}
use Rattle.qe_tokens.specs.declared.words.LabelKind.TheVariants.{Position, Anchor, Tag}
use Rattle.qe_tokens.specs.declared.words.Word.{Word}
use Rattle.qe_tokens.specs.declared.words.Word.TheVariants.{Item, Stray}
use Rattle.qe_labels.specs.Numbers.{Numbers, word_cmp, counted}
use Rattle.qe_labels.specs.Listed.{labels, labels_in, of_kind, numbered, how_many, label_cmp, kind_place}
use Rattle.qe_labels.specs.Laws.{ListsLabels}
use Rattle.qe_labels.proofs.AmongLemmas.{IsAmong, place_of, among_at, among_left, among_right, among_cases, each_from, each_at}
use Rattle.qe_labels.proofs.OrderLemmas.{words_total, words_exact, tied}

both_parts : (a b : Bool) → T (a && b) → T a × T b
both_parts true b h = (tt, h)
both_parts false b h = absurd h

less : (o : Ordering) → T (is_lt o) → o ≡ Less
less Less h = refl
less Equal h = absurd h
less Greater h = absurd h

-- ---- the entries of a map, and what it answers
entry_from_find : (word : Word) (n : ℕ) (es : List (Word × ℕ)) → find word_cmp word es ≡ Some n → IsAmong (word, n) es
entry_from_find word n [] is = cc
entry_from_find word n (e ∷ es) is =
    cond_both (eq_by_cmp word_cmp word e.0) (Some e.1) (find word_cmp word es) (λ o. o ≡ Some n → IsAmong (word, n) (e ∷ es))
    (λ tie found.
    let same : word ≡ e.0 = words_exact word e.0 (tied (word_cmp word e.0) tie) in
    let number : e.1 ≡ n = ap (λ o. unwrap_or o n) found in
    inl (λ i. (same i, sym number i)))
    (λ _ found. inr (entry_from_find word n es found)) is

below_among : (first word : Word) (n : ℕ) (es : List (Word × ℕ)) → T (below_all word_cmp first es) → IsAmong (word, n) es → word_cmp first word ≡ Less
below_among first word n [] below among = absurd among
below_among first word n (e ∷ es) below among =
    let parts = both_parts (is_lt (word_cmp first e.0)) (below_all word_cmp first es) below in
    ⊎_elim (λ (here : (word, n) ≡ e). ap (λ (p : Word × ℕ). word_cmp first p.0) here ∙ less (word_cmp first e.0) parts.0)
    (λ (behind : IsAmong (word, n) es). below_among first word n es parts.1 behind) among

find_from_entry : (word : Word) (n : ℕ) (es : List (Word × ℕ)) → T (is_sorted word_cmp es) → IsAmong (word, n) es → find word_cmp word es ≡ Some n
find_from_entry word n [] rise among = absurd among
find_from_entry word n (e ∷ es) rise among =
    let parts = both_parts (below_all word_cmp e.0 es) (is_sorted word_cmp es) rise in
    ⊎_elim
    (λ (here : (word, n) ≡ e).
    let tie : eq_by_cmp word_cmp word e.0 ≡ true =
    ap (λ (p : Word × ℕ). eq_by_cmp word_cmp word p.0) (sym here) ∙ (eq_by_cmp_equiv words_total).refl word in
    cond-true (eq_by_cmp word_cmp word e.0) (Some e.1) (find word_cmp word es) tie ∙ ap (λ (p : Word × ℕ). Some p.1) (sym here))
    (λ (behind : IsAmong (word, n) es).
    let up : word_cmp e.0 word ≡ Less = below_among e.0 word n es parts.0 behind in
    let no_tie : eq_by_cmp word_cmp word e.0 ≡ false = ap is_eq (words_total.antisymm word e.0 ∙ ap ordering_reverse up) in
    cond-false (eq_by_cmp word_cmp word e.0) (Some e.1) (find word_cmp word es) no_tie ∙ find_from_entry word n es parts.1 behind)
    among

pub entry_from_get : (numbers : Numbers) (word : Word) (n : ℕ) → get numbers word ≡ Some n → IsAmong (word, n) (entries numbers)
entry_from_get numbers word n is = entry_from_find word n (entries numbers) (sym (get-entries numbers word) ∙ is)

pub get_from_entry : (numbers : Numbers) (word : Word) (n : ℕ) → IsAmong (word, n) (entries numbers) → get numbers word ≡ Some n
get_from_entry numbers word n among = get-entries numbers word ∙ find_from_entry word n (entries numbers) (entries_sorted numbers) among

-- ---- labels of one word
abbrev label : LabelKind → Word → ℕ → Label
label kind word number = record { kind = kind; word = word; number = number }

pub record IsNumbered (group : LabelKind) (one : Word) (from more : ℕ) (l : Label) : Type 0 where
  pub kind : l.kind ≡ group
  pub word : l.word ≡ one
  pub low : from ≤ l.number
  pub high : l.number < from + more

numbered_has : (kind : LabelKind) (word : Word) (more from i : ℕ) → from ≤ i → i < from + more → IsAmong (label kind word i) (numbered kind word from more)
numbered_has kind word zero from i low high = absurd (omega arith)
numbered_has kind word (suc more) from i low high = ⊎_elim
    (λ (same : i ≡ from). inl (ap (label kind word) same))
    (λ (apart : i ≡ from → ⊥). inr (numbered_has kind word more (from + 1) i (omega arith) (omega arith)))
    (cases_eq i from)

numbered_only : (kind : LabelKind) (word : Word) (more from : ℕ) (l : Label) → IsAmong l (numbered kind word from more) → IsNumbered kind word from more l
numbered_only kind word zero from l among = absurd among
numbered_only kind word (suc more) from l among = ⊎_elim
    (λ (here : l ≡ label kind word from).
    let number : l.number ≡ from = ap (λ (x : Label). x.number) here in
    record { kind = ap (λ (x : Label). x.kind) here; word = ap (λ (x : Label). x.word) here; low = omega arith; high = omega arith })
    (λ (behind : IsAmong l (numbered kind word (from + 1) more)).
    let rest = numbered_only kind word more (from + 1) l behind in
    record { kind = rest.kind; word = rest.word; low = omega (arith, rest.low); high = omega (arith, rest.high) })
    among

-- ---- labels of one kind
pub record IsOfKind (group : LabelKind) (es : List (Word × ℕ)) (l : Label) : Type 0 where
  pub n : ℕ
  pub entry : IsAmong (l.word, n) es
  pub kind : l.kind ≡ group
  pub low : first_number group ≤ l.number
  pub high : l.number < first_number group + how_many group l.word n

of_kind_has : (kind : LabelKind) (word : Word) (n i : ℕ) (es : List (Word × ℕ)) → IsAmong (word, n) es → first_number kind ≤ i → i < first_number kind + how_many kind word n
    → IsAmong (label kind word i) (of_kind kind es)
of_kind_has kind word n i [] among low high = absurd among
of_kind_has kind word n i (e ∷ es) among low high = ⊎_elim
    (λ (here : (word, n) ≡ e).
    among_left (label kind word i) (numbered kind e.0 (first_number kind) (how_many kind e.0 e.1)) (of_kind kind es)
    (subst (λ (p : Word × ℕ). IsAmong (label kind word i) (numbered kind p.0 (first_number kind) (how_many kind p.0 p.1))) here
    (numbered_has kind word (how_many kind word n) (first_number kind) i low high)))
    (λ (behind : IsAmong (word, n) es).
    among_right (label kind word i) (numbered kind e.0 (first_number kind) (how_many kind e.0 e.1)) (of_kind kind es) (of_kind_has kind word n i es behind low high))
    among

of_kind_only : (kind : LabelKind) (es : List (Word × ℕ)) (l : Label) → IsAmong l (of_kind kind es) → IsOfKind kind es l
of_kind_only kind [] l among = absurd among
of_kind_only kind (e ∷ es) l among = ⊎_elim
    (λ (front : IsAmong l (numbered kind e.0 (first_number kind) (how_many kind e.0 e.1))).
    let is = numbered_only kind e.0 (how_many kind e.0 e.1) (first_number kind) l front in
    record {
      n = e.1;
      entry = inl (λ i. (is.word i, e.1));
      kind = is.kind;
      low = is.low;
      high = subst (λ w. l.number < first_number kind + how_many kind w e.1) (sym is.word) is.high;
    })
    (λ (back : IsAmong l (of_kind kind es)).
    let rest = of_kind_only kind es l back in
    record { n = rest.n; entry = inr rest.entry; kind = rest.kind; low = rest.low; high = rest.high })
    (among_cases l (numbered kind e.0 (first_number kind) (how_many kind e.0 e.1)) (of_kind kind es) among)

-- ---- all labels
module _ (numbers : Numbers) where
  abbrev es : List (Word × ℕ)
  es = entries numbers

  listed_by : (kind : LabelKind) (word : Word) (n i : ℕ) → get numbers word ≡ Some n → HasLabels kind word → first_number kind ≤ i → i ≤ 2 * n + 2 → IsAmong (label kind word i) (labels numbers)
  listed_by Position word n i known has low high =
      among_left (label Position word i) (of_kind Position es) (of_kind Anchor es ++ of_kind Tag es)
      (of_kind_has Position word n i es (entry_from_get numbers word n known) low (omega arith))
  listed_by Anchor word n i known has low high =
      among_right (label Anchor word i) (of_kind Position es) (of_kind Anchor es ++ of_kind Tag es)
      (among_left (label Anchor word i) (of_kind Anchor es) (of_kind Tag es) (of_kind_has Anchor word n i es (entry_from_get numbers word n known) low (omega arith)))
  listed_by Tag (Item field item factor) n i known has low high =
      among_right (label Tag (Item field item factor) i) (of_kind Position es) (of_kind Anchor es ++ of_kind Tag es)
      (among_right (label Tag (Item field item factor) i) (of_kind Anchor es) (of_kind Tag es)
      (of_kind_has Tag (Item field item factor) n i es (entry_from_get numbers (Item field item factor) n known) low (omega arith)))
  listed_by Tag (Stray token) n i known has low high = absurd has

  pub label_listed : (l : Label) → IsLabel (counted numbers) l → IsAmong l (labels numbers)
  label_listed l is = listed_by l.kind l.word is.count l.number is.known is.has is.low is.high

  label_by : (kind : LabelKind) (word : Word) (n i : ℕ) → get numbers word ≡ Some n → first_number kind ≤ i → i < first_number kind + how_many kind word n → IsLabel (counted numbers) (label kind word i)
  label_by Position word n i known low high = record { count = n; known = known; has = tt; low = low; high = omega arith }
  label_by Anchor word n i known low high = record { count = n; known = known; has = tt; low = low; high = omega arith }
  label_by Tag (Item field item factor) n i known low high = record { count = n; known = known; has = tt; low = low; high = omega arith }
  label_by Tag (Stray token) n i known low high = absurd (omega arith)

  label_of : (kind : LabelKind) (l : Label) → IsOfKind kind es l → IsLabel (counted numbers) l
  label_of kind l is =
      subst (λ k. IsLabel (counted numbers) (label k l.word l.number)) (sym is.kind)
      (label_by kind l.word is.n l.number (get_from_entry numbers l.word is.n is.entry) is.low is.high)

  pub listed_label : (l : Label) → IsAmong l (labels numbers) → IsLabel (counted numbers) l
  listed_label l among = ⊎_elim
      (λ (one : IsAmong l (of_kind Position es)). label_of Position l (of_kind_only Position es l one))
      (λ (others : IsAmong l (of_kind Anchor es ++ of_kind Tag es)). ⊎_elim
      (λ (two : IsAmong l (of_kind Anchor es)). label_of Anchor l (of_kind_only Anchor es l two))
      (λ (three : IsAmong l (of_kind Tag es)). label_of Tag l (of_kind_only Tag es l three))
      (among_cases l (of_kind Anchor es) (of_kind Tag es) others))
      (among_cases l (of_kind Position es) (of_kind Anchor es ++ of_kind Tag es) among)

-- ---- in order
nat_less : (a b : ℕ) → a < b → nat_cmp a b ≡ Less
nat_less a b less_than = sym (nat_cmp_is a b Less less_than)

by_kind : (one other : Label) → kind_place one.kind < kind_place other.kind → label_cmp one other ≡ Less
by_kind one other up =
    ap (λ o. ordering_then o (ordering_then (word_cmp one.word other.word) (nat_cmp one.number other.number))) (nat_less (kind_place one.kind) (kind_place other.kind) up)

same_kind : (one other : Label) → one.kind ≡ other.kind → label_cmp one other ≡ ordering_then (word_cmp one.word other.word) (nat_cmp one.number other.number)
same_kind one other same =
    ap (λ o. ordering_then o (ordering_then (word_cmp one.word other.word) (nat_cmp one.number other.number)))
    (ap (λ k. nat_cmp (kind_place k) (kind_place other.kind)) same ∙ tied_itself nat_cmp_total (kind_place other.kind))

by_word : (one other : Label) → one.kind ≡ other.kind → word_cmp one.word other.word ≡ Less → label_cmp one other ≡ Less
by_word one other same up = same_kind one other same ∙ ap (λ o. ordering_then o (nat_cmp one.number other.number)) up

by_number : (one other : Label) → one.kind ≡ other.kind → one.word ≡ other.word → one.number < other.number → label_cmp one other ≡ Less
by_number one other same word up =
    same_kind one other same
    ∙ ap (λ o. ordering_then o (nat_cmp one.number other.number)) (ap (λ w. word_cmp w other.word) word ∙ tied_itself words_total other.word)
    ∙ nat_less one.number other.number up

sorted_append : (xs ys : List Label) → IsStrictlySortedBy label_cmp xs → IsStrictlySortedBy label_cmp ys → ((x y : Label) → IsAmong x xs → IsAmong y ys → label_cmp x y ≡ Less)
    → IsStrictlySortedBy label_cmp (xs ++ ys)
unfolding IsStrictlySortedBy
sorted_append [] ys front back up = back
sorted_append (x ∷ xs) ys front back up = (
  each_from (λ y. label_cmp x y ≡ Less) (xs ++ ys) (λ y among. ⊎_elim
      (λ (near : IsAmong y xs). each_at (λ z. label_cmp x z ≡ Less) xs y front.0 near)
      (λ (far : IsAmong y ys). up x y (inl refl) far)
      (among_cases y xs ys among)),
  sorted_append xs ys front.1 back (λ z y in_front in_back. up z y (inr in_front) in_back),
)

numbered_sorted : (kind : LabelKind) (word : Word) (more from : ℕ) → IsStrictlySortedBy label_cmp (numbered kind word from more)
unfolding IsStrictlySortedBy
numbered_sorted kind word zero from = tt
numbered_sorted kind word (suc more) from = (
  each_from (λ y. label_cmp (label kind word from) y ≡ Less) (numbered kind word (from + 1) more) (λ y among.
      let is = numbered_only kind word more (from + 1) y among in
      by_number (label kind word from) y (sym is.kind) (sym is.word) (omega (arith, is.low))),
  numbered_sorted kind word more (from + 1),
)

of_kind_sorted : (kind : LabelKind) (es : List (Word × ℕ)) → T (is_sorted word_cmp es) → IsStrictlySortedBy label_cmp (of_kind kind es)
unfolding IsStrictlySortedBy
of_kind_sorted kind [] rise = tt
of_kind_sorted kind (e ∷ es) rise =
    let parts = both_parts (below_all word_cmp e.0 es) (is_sorted word_cmp es) rise in
    sorted_append (numbered kind e.0 (first_number kind) (how_many kind e.0 e.1)) (of_kind kind es) (numbered_sorted kind e.0 (how_many kind e.0 e.1) (first_number kind))
    (of_kind_sorted kind es parts.1) (λ x y in_front in_back.
    let one = numbered_only kind e.0 (how_many kind e.0 e.1) (first_number kind) x in_front in
    let other = of_kind_only kind es y in_back in
    by_word x y (one.kind ∙ sym other.kind) (ap (λ w. word_cmp w y.word) one.word ∙ below_among e.0 y.word other.n es parts.0 other.entry))

pub labels_in_sorted : (es : List (Word × ℕ)) → T (is_sorted word_cmp es) → IsStrictlySortedBy label_cmp (labels_in es)
labels_in_sorted es rise =
    sorted_append (of_kind Position es) (of_kind Anchor es ++ of_kind Tag es) (of_kind_sorted Position es rise)
    (sorted_append (of_kind Anchor es) (of_kind Tag es) (of_kind_sorted Anchor es rise) (of_kind_sorted Tag es rise)
    (λ x y in_front in_back.
    let one = ap kind_place (of_kind_only Anchor es x in_front).kind in
    let other = ap kind_place (of_kind_only Tag es y in_back).kind in
    by_kind x y (omega (arith, one, other))))
    (λ x y in_front in_back.
    let one = ap kind_place (of_kind_only Position es x in_front).kind in
    ⊎_elim
    (λ (two : IsAmong y (of_kind Anchor es)). let other = ap kind_place (of_kind_only Anchor es y two).kind in by_kind x y (omega (arith, one, other)))
    (λ (three : IsAmong y (of_kind Tag es)). let other = ap kind_place (of_kind_only Tag es y three).kind in by_kind x y (omega (arith, one, other)))
    (among_cases y (of_kind Anchor es) (of_kind Tag es) in_back))

pub labels_sorted : (numbers : Numbers) → IsStrictlySortedBy label_cmp (labels numbers)
labels_sorted numbers = labels_in_sorted (entries numbers) (entries_sorted numbers)

pub lists_labels : (numbers : Numbers) → ListsLabels numbers
lists_labels numbers = record {
  all = λ l. (λ is. place_of l (labels numbers) (label_listed numbers l is), λ at. listed_label numbers l (among_at l (labels numbers) at.0 at.1));
  sorted = labels_sorted numbers;
}
