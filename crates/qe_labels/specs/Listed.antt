-- All labels of a run, in their order: by kind, then by word, then by number.
use Rattle.std.specs.Prelude.{ℕ, zero, suc, ◌+◌, ◌*◌, List, [], ◌∷◌, ◌++◌}
use Rattle.std.specs.declared.cmp.Ordering.{Ordering}
use Rattle.std.specs.Ordering.{nat_cmp, ordering_then}
use Rattle.std.specs.FinMap.{entries}
use Rattle.qe_tokens.specs.Labels.{first_number}
use Rattle.qe_tokens.specs.declared.words.Label.{Label}
use Rattle.qe_tokens.specs.declared.words.LabelKind.{LabelKind}
use Rattle.qe_tokens.specs.declared.words.LabelKind.TheVariants.{Position, Anchor, Tag}
use Rattle.qe_tokens.specs.declared.words.Word.{Word}
use Rattle.qe_tokens.specs.declared.words.Word.TheVariants.{Item, Stray}
use Rattle.qe_labels.specs.Numbers.{Numbers, word_cmp}

-- a kind's place in the order
abbrev pub kind_place : LabelKind → ℕ
kind_place Position = 0
kind_place Anchor = 1
kind_place Tag = 2

abbrev pub label_cmp : Label → Label → Ordering
label_cmp one other =
    ordering_then (nat_cmp (kind_place one.kind) (kind_place other.kind)) (ordering_then (word_cmp one.word other.word) (nat_cmp one.number other.number))

-- of a word that was indexed n times: positions and tags 1 to 2n + 2, anchors 0 to 2n + 2; a stray word has no tags
abbrev pub how_many : LabelKind → Word → ℕ → ℕ
how_many Position word n = 2 * n + 2
how_many Anchor word n = 2 * n + 3
how_many Tag (Item field item factor) n = 2 * n + 2
how_many Tag (Stray token) n = 0

-- so many labels of a word, from a number on
abbrev pub numbered : LabelKind → Word → ℕ → ℕ → List Label
numbered kind word from zero = []
numbered kind word from (suc more) = record { kind = kind; word = word; number = from } ∷ numbered kind word (from + 1) more

abbrev pub of_kind : LabelKind → List (Word × ℕ) → List Label
of_kind kind [] = []
of_kind kind (e ∷ es) = numbered kind e.0 (first_number kind) (how_many kind e.0 e.1) ++ of_kind kind es

abbrev pub labels_in : List (Word × ℕ) → List Label
labels_in es = of_kind Position es ++ (of_kind Anchor es ++ of_kind Tag es)

abbrev pub labels : Numbers → List Label
labels numbers = labels_in (entries numbers)
