-- Rows that a step opens: with their field's token, or with another one.
use Rattle.std.specs.Prelude.{◌≡◌, ◌⊎◌, ℕ, List, [], ◌∷◌, ◌++◌, Option, None, Some}
use Rattle.std.specs.List.{AllByRecursion}
use Rattle.std.specs.FinMap.{get}
use Rattle.qe_tokens.specs.declared.words.FieldToken.{FieldToken}
use Rattle.qe_tokens.specs.declared.words.Word.TheVariants.{Stray}
use Rattle.qe_ecoc.specs.declared.rows.Entry.{Entry}
use Rattle.qe_protocol.specs.Units.{token_for, opened_row}
use Rattle.qe_labels.specs.Numbers.{Numbers}
use Rattle.qe_relation.specs.Stands.{ecoc_key}

module _ (root : ℕ → List ℕ) where
  -- the token that was sent for the row's field is the field's
  abbrev pub HasRightToken : List FieldToken → Entry → Type 0
  HasRightToken tokens row = token_for tokens row.field ≡ ecoc_key root row.field

  -- what the row opens to is a stray word of the run
  abbrev pub IsStray : Numbers → List FieldToken → Entry → Type 0
  IsStray numbers tokens row = get numbers (Stray (opened_row tokens row).token) ≡ Some 0

  -- one of both
  abbrev pub IsOpenedKnown : Numbers → List FieldToken → Entry → Type 0
  IsOpenedKnown numbers tokens row = HasRightToken tokens row ⊎ IsStray numbers tokens row

  -- the last row that was opened is the first one of which the token that was sent isn't the field's
  pub record IsAtStray (tokens : List FieldToken) (place : ℕ) (rows : List Entry) : Type 0 where
    pub front : List Entry
    pub row : Entry
    pub is : rows ≡ front ++ row ∷ []
    pub right : AllByRecursion (HasRightToken tokens) front
    pub wrong : HasRightToken tokens row → ⊥
    pub field : row.field ≡ place

  -- a step that met a mismatch opened such a row last; one that met none opened none
  abbrev pub TellsMismatch : List FieldToken → Option ℕ → List Entry → Type 0
  TellsMismatch tokens None rows = AllByRecursion (HasRightToken tokens) rows
  TellsMismatch tokens (Some field) rows = IsAtStray tokens field rows
