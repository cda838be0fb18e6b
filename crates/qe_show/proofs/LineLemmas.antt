-- Lines that are shown one after another.
use Rattle.std.proofs.Common.{◌≡◌, ℕ, ◌+◌, ◌==◌, List, [], ◌∷◌, ◌++◌, length, true, false, Option, Some, None, refl, ap, sym, ◌∙◌}
use Rattle.std.proofs.lemmas.Bool.{eqb-true}
use Rattle.std.proofs.lemmas.List.{nil_from_length}
use Rattle.qe_show.specs.Blob.{ShowsBlob}
use Rattle.qe_show.specs.Lines.{blob_of, ShowsLine, Shows, or_later, first_not_hex}

abbrev Placed : Type 0
Placed = ℕ × List ℕ

-- a list of no elements, and one of some
pub is_none : (xs : List ℕ) → true ≡ (length xs == 0) → xs ≡ []
is_none xs is = nil_from_length xs (eqb-true (length xs) 0 (sym is))

pub is_some : (xs : List ℕ) → false ≡ (length xs == 0) → xs ≡ [] → ⊥
is_some xs is none = let both : false ≡ true = is ∙ ap (λ ys. length ys == 0) none in cc

-- an empty line is passed over
pub shows_empty : (lines rest : List Placed) (place : ℕ) (line text : List ℕ) → lines ≡ (place, line) ∷ rest → line ≡ [] → Shows rest text → Shows lines text
shows_empty lines rest place line text first empty shows = rw (first, empty) shows

pub not_hex_empty : (lines rest : List Placed) (place : ℕ) (line : List ℕ) → lines ≡ (place, line) ∷ rest → line ≡ [] → first_not_hex lines ≡ first_not_hex rest
unfolding first_not_hex
not_hex_empty lines rest place line first empty = rw (first, empty)

-- another is shown
pub shows_line : (lines rest : List Placed) (place : ℕ) (line blob shown text : List ℕ) → lines ≡ (place, line) ∷ rest → (line ≡ [] → ⊥)
    → blob_of line ≡ Some blob → ShowsBlob blob shown → Shows rest text → Shows lines (shown ++ 10 ∷ text)
shows_line lines rest place [] blob shown text first some spelled shows later = absurd (some refl)
shows_line lines rest place (x ∷ xs) blob shown text first some spelled shows later =
    rw first (record { blob = blob; spelled = spelled; shown = shown; shows = shows; rest = text; shows_rest = later; is = refl })

pub not_hex_line : (lines rest : List Placed) (place : ℕ) (line blob : List ℕ) → lines ≡ (place, line) ∷ rest → (line ≡ [] → ⊥) → blob_of line ≡ Some blob
    → first_not_hex lines ≡ first_not_hex rest
unfolding first_not_hex
not_hex_line lines rest place [] blob first some spelled = absurd (some refl)
not_hex_line lines rest place (x ∷ xs) blob first some spelled = rw (first, spelled)

-- or isn't hex
pub not_hex_here : (lines rest : List Placed) (place : ℕ) (line : List ℕ) → lines ≡ (place, line) ∷ rest → (line ≡ [] → ⊥) → blob_of line ≡ None
    → first_not_hex lines ≡ Some (place + 1)
unfolding first_not_hex
not_hex_here lines rest place [] first some none = absurd (some refl)
not_hex_here lines rest place (x ∷ xs) first some none = rw (first, none)

later_is_hex : (number : ℕ) (line : List ℕ) (later : Option ℕ) (Rest : List ℕ → Type 0) (text : List ℕ)
    → ((rest : List ℕ) → Rest rest → later ≡ None) → ShowsLine line Rest text → or_later number line later ≡ None
later_is_hex number [] later Rest text clear shows = clear text shows
later_is_hex number (x ∷ xs) later Rest text clear shows = rw shows.spelled (clear shows.rest shows.shows_rest)

-- lines that are shown are hex
pub shown_is_hex : (lines : List Placed) (text : List ℕ) → Shows lines text → first_not_hex lines ≡ None
unfolding first_not_hex
shown_is_hex [] text shows = refl
shown_is_hex (line ∷ lines) text shows =
    later_is_hex (line.0 + 1) line.1 (first_not_hex lines) (Shows lines) text (shown_is_hex lines) shows
