-- Whether two labels of a list share an identifier, and which two are the first.
use Rattle.std.specs.Prelude.{ℕ, ◌&&◌, List, [], ◌∷◌, ◌++◌, map, length, slice_index_or, Bool, bytes_eq, Option, None, Some, option_map}
use Rattle.std.specs.Bool.{beq}
use Rattle.std.specs.List.{position_from}
use Rattle.qe_tokens.specs.Labels.{identifier_of, is_tag}
use Rattle.qe_tokens.specs.declared.words.Label.{Label}
use Rattle.qe_tokens.specs.declared.words.LabelKind.TheVariants.{Position}
use Rattle.qe_tokens.specs.declared.words.Word.TheVariants.{Stray}

-- a label and its identifier
abbrev pub with_identifier : (ℕ → List ℕ) → Label → Label × List ℕ
with_identifier root label = (label, identifier_of root label)

-- what has to differ: the identifier, of tags among themselves, and of rows among themselves
abbrev pub key_of : Label × List ℕ → Bool × List ℕ
key_of entry = (is_tag entry.0.kind, entry.1)

abbrev pub same_key : Bool × List ℕ → Bool × List ℕ → Bool
same_key one other = beq one.0 other.0 && bytes_eq one.1 other.1

-- the places of a key here and of the first one like it, or else what comes later
abbrev pub settle : Option ℕ → ℕ → Option (ℕ × ℕ) → Option (ℕ × ℕ)
settle None here later = later
settle (Some first) here later = Some (first, here)

-- the first key that stood before, with the place where it first stood
abbrev pub repeat_after : {K : Type 0} → (K → K → Bool) → List K → List K → Option (ℕ × ℕ)
repeat_after same before [] = None
repeat_after same before (k ∷ ks) = settle (position_from (same k) 0 before) (length before) (repeat_after same (before ++ k ∷ []) ks)

abbrev pub first_repeat : {K : Type 0} → (K → K → Bool) → List K → Option (ℕ × ℕ)
first_repeat same ks = repeat_after same [] ks

abbrev pub label_at : List (Label × List ℕ) → ℕ → Label
label_at entries place = (slice_index_or entries place (record { kind = Position; word = Stray []; number = 0 }, [])).0

abbrev pub pair_at : List (Label × List ℕ) → ℕ × ℕ → Label × Label
pair_at entries places = (label_at entries places.0, label_at entries places.1)

-- the pair of two labels with one identifier whose second is the first in the list, and whose first is then
abbrev pub first_clash : List (Label × List ℕ) → Option (Label × Label)
first_clash entries = option_map (pair_at entries) (first_repeat same_key (map key_of entries))
