-- The first clash of a list, from the places of its rows.
use Rattle.std.proofs.Common.{◌≡◌, ℕ, ◌<◌, List, [], ◌∷◌, map, length, get_or, Option, None, Some, refl, sym, ap, ◌∙◌, arith}
use Rattle.std.proofs.lemmas.List.{length-map}
use Rattle.std.proofs.lemmas.Option.{slice_get_within}
use Rattle.std.specs.Prelude.{option_map}
use Rattle.qe_tokens.specs.declared.words.Label.{Label}
use Rattle.qe_tokens.specs.declared.words.LabelKind.TheVariants.{Position}
use Rattle.qe_tokens.specs.declared.words.Word.{Word}
use Rattle.qe_tokens.specs.declared.words.Word.TheVariants.{Stray}
use Rattle.qe_labels.specs.Clashes.{first_clash, first_repeat, key_of, pair_at, same_key}
use Rattle.qe_label_rows.specs.declared.row.Row.{Row}
use Rattle.qe_label_list.specs.Keys.{key_at}
use Rattle.qe_label_list.specs.Rows.{entries_of}
use Rattle.qe_label_list.proofs.FirstLemmas.{repeat_found}

abbrev first_in : List Row → Option (ℕ × ℕ)
first_in rows = first_repeat same_key (map key_at rows)

keys_held : (words : List Word) (rows : List Row) → map key_of (entries_of words rows) ≡ map key_at rows
keys_held words [] = refl
keys_held words (row ∷ rows) = ap (λ ks. key_at row ∷ ks) (keys_held words rows)

many_held : (words : List Word) (rows : List Row) → length (entries_of words rows) ≡ length rows
many_held words [] = refl
many_held words (row ∷ rows) = let rest = many_held words rows in omega arith

pub found_within : (words : List Word) (rows : List Row) (entries : List (Label × List ℕ)) (first second : ℕ) → entries_of words rows ≡ entries
    → Some (first, second) ≡ first_in rows → (first < length entries) × (second < length entries)
found_within words rows entries first second is found =
    let places = repeat_found same_key (map key_at rows) [] first second (sym found) in
    let low = slice_get_within (map key_at rows) first places.one places.at_first in
    let high = slice_get_within (map key_at rows) second places.other places.at_second in
    let keys : length (map key_at rows) ≡ length rows = length-map rows key_at in
    let many : length entries ≡ length rows = ap length (sym is) ∙ many_held words rows in
    (omega arith, omega arith)

clash_held : (words : List Word) (rows : List Row) (entries : List (Label × List ℕ)) → entries_of words rows ≡ entries
    → first_clash entries ≡ option_map (pair_at entries) (first_in rows)
clash_held words rows entries is =
    ap (λ ks. option_map (pair_at entries) (first_repeat same_key ks)) (ap (map key_of) (sym is) ∙ keys_held words rows)

pub the_pair : (words : List Word) (rows : List Row) (entries : List (Label × List ℕ)) (first second : ℕ) (one other : Label) → entries_of words rows ≡ entries
    → Some (first, second) ≡ first_in rows → ((d : Label × List ℕ) → one ≡ (get_or entries first d).0) → ((d : Label × List ℕ) → other ≡ (get_or entries second d).0)
    → Some (one, other) ≡ first_clash entries
the_pair words rows entries first second one other is found at_one at_other =
    let d : Label × List ℕ = (record { kind = Position; word = Stray []; number = 0 }, []) in
    let left = at_one d in
    let right = at_other d in
    (λ i. Some (left i, right i)) ∙ sym (clash_held words rows entries is ∙ ap (option_map (pair_at entries)) (sym found))

pub the_none : (words : List Word) (rows : List Row) (entries : List (Label × List ℕ)) → entries_of words rows ≡ entries
    → None ≡ first_in rows → None ≡ first_clash entries
the_none words rows entries is none = sym (clash_held words rows entries is ∙ ap (option_map (pair_at entries)) (sym none))
