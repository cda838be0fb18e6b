-- Words and rows of a list, with one more.
use Rattle.std.proofs.Common.{◌≡◌, ℕ, ◌<◌, List, [], ◌∷◌, ◌++◌, length, refl, sym, ◌∙◌, subst, arith}
use Rattle.std.proofs.lemmas.List.{map-append, length_push, get_or_append_left, get_or_push}
use Rattle.std.specs.List.Sorted.{IsStrictlySortedBy}
use Rattle.std.specs.Prelude.{Result, Ok, Err, OnErr}
use Rattle.qe_tokens.specs.declared.words.Label.{Label}
use Rattle.qe_tokens.specs.declared.words.LabelKind.{LabelKind}
use Rattle.qe_tokens.specs.declared.words.Word.{Word}
use Rattle.qe_tokens.specs.declared.words.Word.TheVariants.{Stray}
use Rattle.qe_label_rows.specs.declared.row.Row.{Row}
use Rattle.qe_label_list.specs.Order.{IsInOrder}
use Rattle.qe_label_list.specs.Rows.{AreHeld, AreKnown, entries_of, entry_at, word_at}

known_grown : (words : List Word) (word : Word) (rows : List Row) → AreKnown words rows → AreKnown (words ++ word ∷ []) rows
known_grown words word [] known = tt
known_grown words word (row ∷ rows) known = (omega (arith, known.0, length_push words word), known_grown words word rows known.1)

-- a word behind all others changes no label
pub entries_grown : (words : List Word) (word : Word) (rows : List Row) → AreKnown words rows → entries_of (words ++ word ∷ []) rows ≡ entries_of words rows
entries_grown words word [] known = refl
entries_grown words word (row ∷ rows) known =
    let same : word_at (words ++ word ∷ []) row.word ≡ word_at words row.word = get_or_append_left words (word ∷ []) (Stray []) row.word known.0 in
    let rest = entries_grown words word rows known.1 in
    λ i. (record { kind = row.kind; word = same i; number = row.number }, row.identifier) ∷ rest i

pub held_grown : (words : List Word) (word : Word) (rows : List Row) → AreHeld words rows → AreHeld (words ++ word ∷ []) rows
held_grown words word rows held = record {
  known = known_grown words word rows held.known;
  rising = subst IsInOrder (sym (entries_grown words word rows held.known)) held.rising;
}

known_push : (words : List Word) (rows : List Row) (row : Row) → AreKnown words rows → row.word < length words → AreKnown words (rows ++ row ∷ [])
known_push words [] row known within = (within, tt)
known_push words (x ∷ rows) row known within = (known.0, known_push words rows row known.1 within)

module _ (words : List Word) (word : Word) (rows : List Row) (kind : LabelKind) (number : ℕ) (identifier : List ℕ) (held : AreHeld words rows) where
  abbrev new_row : ℕ → Row
  new_row place = record { kind = kind; word = place; number = number; identifier = identifier }

  abbrev new_label : Label
  new_label = record { kind = kind; word = word; number = number }

  -- a row of a word behind all others adds its label
  pub entries_pushed : (place : ℕ) → place ≡ length words
      → entries_of (words ++ word ∷ []) (rows ++ new_row place ∷ []) ≡ entries_of words rows ++ (new_label, identifier) ∷ []
  entries_pushed place is =
      let last : word_at (words ++ word ∷ []) place ≡ word = get_or_push words word (Stray []) place (sym is) in
      map-append (entry_at (words ++ word ∷ [])) rows (new_row place ∷ [])
      ∙ (λ i. entries_grown words word rows held.known i ++ (record { kind = kind; word = last i; number = number }, identifier) ∷ [])

  pub held_pushed : (place : ℕ) → place ≡ length words → IsInOrder (entries_of words rows ++ (new_label, identifier) ∷ [])
      → AreHeld (words ++ word ∷ []) (rows ++ new_row place ∷ [])
  held_pushed place is rising = record {
    known = known_push (words ++ word ∷ []) rows (new_row place) (known_grown words word rows held.known) (omega (arith, is, length_push words word));
    rising = subst IsInOrder (sym (entries_pushed place is)) rising;
  }

-- no rows
pub held_none : (words : List Word) (rows : List Row) → rows ≡ [] → AreHeld words rows
unfolding IsStrictlySortedBy
held_none words rows none = subst (AreHeld words) (sym none) (record { known = tt; rising = tt })

-- what holds after an Err, whatever the error
pub on_err : {X E : Type 0} (r : Result X E) (P : Type 0) → P → OnErr r P
on_err (Ok value) P holds = tt
on_err (Err error) P holds = holds
