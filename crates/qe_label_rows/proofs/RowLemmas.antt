-- Rows before and after they have their identifiers.
use Rattle.std.proofs.Common.{◌≡◌, ℕ, zero, suc, ◌+◌, ◌-◌, ◌*◌, ◌<◌, ◌≤◌, List, [], ◌∷◌, ◌++◌, map, length, take, drop, get_or, set, min, refl, sym, ap, ◌∙◌, false, arith}
use Rattle.std.proofs.lemmas.List.{map-append, map_push, map_more, append_assoc, length_push, length-map, length-take-le, get_or_at, drop_more, set_at, take_min, drop_min, take_at, drop_at, take_rest, drop-drop, drop_all, append-nil, length-append}
use Rattle.std.proofs.lemmas.List.Elements.{All-append, All-drop, All-from_recursion, All-map, All-same, All-set, All-take}
use Rattle.std.specs.List.{AllByRecursion}
use borrow.Rule.Slice.PartMut.{put_mid}
use Rattle.qe_tokens.specs.Labels.{first_number}
use Rattle.qe_tokens.specs.declared.words.LabelKind.{LabelKind}
use Rattle.qe_tokens.specs.declared.words.LabelKind.TheVariants.{Anchor}
use Rattle.qe_label_rows.specs.declared.row.Row.{Row}
use Rattle.qe_label_rows.specs.declared.row.WordTokens.{WordTokens}
use Rattle.qe_label_rows.specs.Batches.{HaveWords, blank, identified, identified_by, key_at}
use Rattle.qe_label_rows.proofs.KeyLemmas.{batch_behind, batch_more}
use Rattle.qe_label_rows.specs.Made.{count_for, key_for, row_for, rows_from, rows_of_kind, rows_of_word}

-- one row more
pub rows_push : (kind : LabelKind) (place : ℕ) (key : List ℕ) (more from : ℕ)
    → rows_from kind place key from (suc more) ≡ rows_from kind place key from more ++ row_for kind place key (from + more) ∷ []
rows_push kind place key zero from = let same : from ≡ from + 0 = omega arith in ap (λ n. row_for kind place key n ∷ []) same
rows_push kind place key (suc more) from =
    let same : (from + 1) + more ≡ from + suc more = omega arith in
    ap (λ rows. row_for kind place key from ∷ rows) (rows_push kind place key more (from + 1))
    ∙ ap (λ n. row_for kind place key from ∷ (rows_from kind place key (from + 1) more ++ row_for kind place key n ∷ [])) same

-- .. of a word's numbers, from the first up to a number
pub rows_next : (kind : LabelKind) (place : ℕ) (key : List ℕ) (first number : ℕ) → first ≤ number
    → rows_from kind place key first (number - first) ++ row_for kind place key number ∷ [] ≡ rows_from kind place key first ((number + 1) - first)
rows_next kind place key first number low =
    let one : first + (number - first) ≡ number = omega arith in
    let two : suc (number - first) ≡ (number + 1) - first = omega arith in
    sym (ap (rows_from kind place key first) (sym two) ∙ rows_push kind place key (number - first) first
    ∙ ap (λ n. rows_from kind place key first (number - first) ++ row_for kind place key n ∷ []) one)

-- .. without identifiers, behind other rows
pub blanks_next : (old now : List Row) (kind : LabelKind) (place : ℕ) (key : List ℕ) (first number : ℕ) → first ≤ number
    → now ≡ old ++ map blank (rows_from kind place key first (number - first))
    → now ++ blank (row_for kind place key number) ∷ [] ≡ old ++ map blank (rows_from kind place key first ((number + 1) - first))
blanks_next old now kind place key first number low are =
    ap (λ rows. rows ++ blank (row_for kind place key number) ∷ []) are
    ∙ append_assoc old (map blank (rows_from kind place key first (number - first))) (blank (row_for kind place key number) ∷ [])
    ∙ ap (λ rows. old ++ rows) (sym (map_push blank (rows_from kind place key first (number - first)) (row_for kind place key number))
    ∙ ap (map blank) (rows_next kind place key first number low))

-- one row more that has its identifier
pub identified_next : (f : Row → List ℕ) (old now : List Row) (at : ℕ) (d : Row) (identifier : List ℕ) → at < length old
    → now ≡ map (identified_by f) (take at old) ++ drop at old → identifier ≡ f (get_or old at d)
    → set now at (record (get_or now at d) { identifier = identifier }) ≡ map (identified_by f) (take (at + 1) old) ++ drop (at + 1) old
identified_next f old now at d identifier within are is =
    let front = map (identified_by f) (take at old) in
    let row = get_or old at d in
    let long : length front ≡ at = length-map (take at old) (identified_by f) ∙ length-take-le at old (omega arith) in
    let split : now ≡ front ++ row ∷ drop (at + 1) old = are ∙ ap (λ rows. front ++ rows) (drop_more old at d within) in
    let here : get_or now at d ≡ row = ap (λ rows. get_or rows at d) split ∙ get_or_at front row (drop (at + 1) old) d at long in
    (λ i. set (split i) at (record (here i) { identifier = is i }))
    ∙ set_at front row (drop (at + 1) old) (identified_by f row) at long
    ∙ sym (append_assoc front (identified_by f row ∷ []) (drop (at + 1) old))
    ∙ ap (λ rows. rows ++ drop (at + 1) old) (sym (map_more (identified_by f) old at d within))

-- .. of the first sixteen, or of all where there are fewer
pub identified_first : (f : Row → List ℕ) (old : List Row) (at : ℕ) → at ≡ min 16 (length old)
    → map (identified_by f) (take at old) ++ drop at old ≡ map (identified_by f) (take 16 old) ++ drop 16 old
identified_first f old at is =
    (λ i. map (identified_by f) (take (is i) old) ++ drop (is i) old)
    ∙ (λ i. map (identified_by f) (take_min 16 old i) ++ drop_min 16 old i)

-- a list that was written from a place to the end
pub put_behind : {X : Type 0} (now new : List X) (at : ℕ) → at ≤ length now → put_mid at (length now - at) now new ≡ take at now ++ new
put_behind now new at within =
    let none : drop (length now - at) (drop at now) ≡ [] = drop-drop (length now - at) at now ∙ drop_all (at + (length now - at)) now (omega arith) in
    ap (λ rest. take at now ++ (new ++ rest)) none ∙ ap (λ rest. take at now ++ rest) (append-nil new)

-- sixteen more that have their identifiers
pub identified_more : (f : Row → Row) (old now new : List Row) (i : ℕ) → 16 * i ≤ length old → length now ≡ length old
    → now ≡ map f (take (16 * i) old) ++ drop (16 * i) old
    → new ≡ map f (take 16 (take (length now - 16 * i) (drop (16 * i) now))) ++ drop 16 (take (length now - 16 * i) (drop (16 * i) now))
    → put_mid (16 * i) (length now - 16 * i) now new ≡ map f (take (16 * (i + 1)) old) ++ drop (16 * (i + 1)) old
identified_more f old now new i within same are is =
    let at = 16 * i in
    let front = map f (take at old) in
    let long : length front ≡ at = length-map (take at old) f ∙ length-take-le at old within in
    let before : take at now ≡ front = ap (take at) are ∙ take_at front (drop at old) at long in
    let behind : take (length now - at) (drop at now) ≡ drop at old = take_rest now at ∙ ap (drop at) are ∙ drop_at front (drop at old) at long in
    put_behind now new at (omega arith)
    ∙ (λ j. before j ++ (is ∙ (λ k. map f (take 16 (behind k)) ++ drop 16 (behind k))) j)
    ∙ sym (append_assoc front (map f (take 16 (drop at old))) (drop 16 (drop at old)))
    ∙ (λ j. sym (map-append f (take at old) (take 16 (drop at old))) j ++ batch_behind old i j)
    ∙ ap (λ rows. map f rows ++ drop (16 * (i + 1)) old) (batch_more old i)

-- ---- words of rows
pub words_part : (count at long : ℕ) (rows : List Row) → HaveWords count rows → HaveWords count (take long (drop at rows))
words_part count at long rows have =
    All-take (λ (row : Row). row.word < count) long (drop at rows) (All-drop (λ (row : Row). row.word < count) at rows have)

pub words_set : (count at : ℕ) (rows : List Row) (d : Row) (identifier : List ℕ) → at < length rows → HaveWords count rows
    → HaveWords count (set rows at (record (get_or rows at d) { identifier = identifier }))
words_set count at rows d identifier within have =
    All-set (λ (row : Row). row.word < count) rows at (record (get_or rows at d) { identifier = identifier }) (have at d within) have

pub words_put : (count at : ℕ) (now new : List Row) → at ≤ length now → HaveWords count now → HaveWords count new
    → HaveWords count (put_mid at (length now - at) now new)
words_put count at now new within have new_have =
    All-same (λ (row : Row). row.word < count) (put_mid at (length now - at) now new) (take at now ++ new) (put_behind now new at within)
    (All-append (λ (row : Row). row.word < count) (take at now) new (All-take (λ (row : Row). row.word < count) at now have) new_have)

-- ---- rows of words
module _ (kind : LabelKind) (words : List WordTokens) where
  filled_from : (place : ℕ) (key : List ℕ) → key_at kind words place ≡ key → (more from : ℕ)
      → map (identified kind words) (map blank (rows_from kind place key from more)) ≡ rows_from kind place key from more
  filled_from place key is zero from = refl
  filled_from place key is (suc more) from =
      let rest = filled_from place key is more (from + 1) in
      λ i. row_for kind place (is i) from ∷ rest i

  -- the rows of words behind others: their identifiers are those of their words' tokens
  filled_behind : (front es : List WordTokens) (place : ℕ) → words ≡ front ++ es → length front ≡ place
      → map (identified kind words) (map blank (rows_of_kind kind place es)) ≡ rows_of_kind kind place es
  filled_behind front [] place is many = refl
  filled_behind front (e ∷ es) place is many =
      let none : WordTokens = record { rows = []; tags = []; has_tags = false; end = 0 } in
      let here : key_at kind words place ≡ key_for kind e =
      ap (λ ws. key_for kind (get_or ws place none)) is ∙ ap (key_for kind) (get_or_at front e es none place many) in
      let next : words ≡ (front ++ e ∷ []) ++ es = is ∙ sym (append_assoc front (e ∷ []) es) in
      let longer : length (front ++ e ∷ []) ≡ place + 1 = length_push front e ∙ ap (λ n. n + 1) many in
      ap (map (identified kind words)) (map-append blank (rows_of_word kind place e) (rows_of_kind kind (place + 1) es))
      ∙ map-append (identified kind words) (map blank (rows_of_word kind place e)) (map blank (rows_of_kind kind (place + 1) es))
      ∙ (λ i. filled_from place (key_for kind e) here (count_for kind e) (first_number kind) i ++ filled_behind (front ++ e ∷ []) es (place + 1) next longer i)

  pub filled : map (identified kind words) (map blank (rows_of_kind kind 0 words)) ≡ rows_of_kind kind 0 words
  filled = filled_behind [] words 0 refl refl

-- ---- each row's word is one of so many
known_from : (count : ℕ) (kind : LabelKind) (place : ℕ) (key : List ℕ) (more from : ℕ) → place < count
    → AllByRecursion (λ row. row.word < count) (rows_from kind place key from more)
known_from count kind place key zero from within = tt
known_from count kind place key (suc more) from within = (within, known_from count kind place key more (from + 1) within)

pub known_both : (count : ℕ) (one other : List Row) → AllByRecursion (λ row. row.word < count) one → AllByRecursion (λ row. row.word < count) other
    → AllByRecursion (λ row. row.word < count) (one ++ other)
known_both count [] other known rest = rest
known_both count (row ∷ one) other known rest = (known.0, known_both count one other known.1 rest)

pub known_kind : (count : ℕ) (kind : LabelKind) (words : List WordTokens) (place : ℕ) → place + length words ≤ count
    → AllByRecursion (λ row. row.word < count) (rows_of_kind kind place words)
known_kind count kind [] place within = tt
known_kind count kind (one ∷ words) place within =
    known_both count (rows_of_word kind place one) (rows_of_kind kind (place + 1) words)
    (known_from count kind place (key_for kind one) (count_for kind one) (first_number kind) (omega arith)) (known_kind count kind words (place + 1) (omega arith))

-- .. behind others, without identifiers
pub known_behind : (count : ℕ) (kind : LabelKind) (words : List WordTokens) (old now : List Row) (at : ℕ) → length words ≡ count → at ≡ length old
    → now ≡ old ++ map blank (rows_of_kind kind 0 words) → HaveWords count (take (length now - at) (drop at now))
known_behind count kind words old now at many is are =
    let blanks = map blank (rows_of_kind kind 0 words) in
    let behind : drop at now ≡ blanks = ap (drop at) are ∙ drop_at old blanks at (sym is) in
    let known : HaveWords count blanks =
    All-map (λ (row : Row). row.word < count) blank (rows_of_kind kind 0 words)
    (All-from_recursion (λ (row : Row). row.word < count) (rows_of_kind kind 0 words) (known_kind count kind words 0 (omega arith))) in
    All-take (λ (row : Row). row.word < count) (length now - at) (drop at now) (All-same (λ (row : Row). row.word < count) (drop at now) blanks behind known)

-- rows that got their identifiers in place, behind others
pub identified_behind : (kind : LabelKind) (words : List WordTokens) (old now new : List Row) (at : ℕ) → at ≡ length old → now ≡ old ++ map blank (rows_of_kind kind 0 words)
    → new ≡ map (identified kind words) (take (length now - at) (drop at now)) → take at now ++ new ≡ old ++ rows_of_kind kind 0 words
identified_behind kind words old now new at is are made =
    let blanks = map blank (rows_of_kind kind 0 words) in
    let front : take at now ≡ old = ap (take at) are ∙ take_at old blanks at (sym is) in
    let behind : drop at now ≡ blanks = ap (drop at) are ∙ drop_at old blanks at (sym is) in
    (λ i. front i ++ made i)
    ∙ ap (λ rows. old ++ map (identified kind words) rows) (take_rest now at ∙ behind) ∙ ap (λ rows. old ++ rows) (filled kind words)

-- what a vector holds that was written from a place to the end
pub written_behind : {X : Type 0} (now new past : List X) (at long k : ℕ) → at ≤ length now → length new ≡ length now - at → long ≡ length now
    → take long (put_mid at (length now - at) now new ++ drop k past) ≡ take at now ++ new
written_behind now new past at long k within many is =
    let all : length (take at now ++ new) ≡ long = length-append (take at now) new ∙ omega (arith, length-take-le at now within) in
    ap (λ xs. take long (xs ++ drop k past)) (put_behind now new at within) ∙ take_at (take at now ++ new) (drop k past) long all

-- a word's anchors begin at 0
pub anchors_are : (kind : LabelKind) (word : ℕ) (tokens : WordTokens) → kind ≡ Anchor
    → rows_from kind word (key_for kind tokens) 0 (tokens.end - 0) ≡ rows_of_word kind word tokens
anchors_are kind word tokens is =
    let first : 0 ≡ first_number kind = ap first_number (sym is) in
    let all : tokens.end - 0 ≡ tokens.end = omega arith in
    let count : tokens.end - 0 ≡ count_for kind tokens = all ∙ ap (λ k. count_for k tokens) (sym is) in
    λ i. rows_from kind word (key_for kind tokens) (first i) (count i)
