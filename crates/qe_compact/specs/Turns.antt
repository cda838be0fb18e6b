-- One unit, and then the others.
use Rattle.std.specs.Prelude.{◌≡◌, ℕ, List, [], ◌∷◌, ◌++◌, map, Option, None, Some}
use Rattle.qe_base.specs.declared.maintenance.Count.{Count}
use Rattle.qe_base.specs.declared.maintenance.JobKind.{JobKind}
use Rattle.qe_tokens.specs.declared.words.FieldToken.{FieldToken}
use Rattle.qe_ecoc.specs.declared.rows.Entry.{Entry}
use Rattle.qe_protocol.specs.Units.{Work, units, stopped, AllowedUnits}
use Rattle.qe_protocol.specs.UnitLaws.{opened_before}
use Rattle.qe_compact.specs.declared.unit.Turn.{Turn}
use Rattle.qe_compact.specs.declared.unit.Turn.TheVariants as t

-- the fields of rows
abbrev pub fields_of : List Entry → List ℕ
fields_of rows = map (λ row. row.field) rows

-- what was searched and opened is appended
pub record IsNoted (counts counts_after searched : List Count) (opened opened_after : List ℕ) (rows : List Entry) : Type 0 where
  pub all_counts : counts_after ≡ counts ++ searched
  pub all_opened : opened_after ≡ opened ++ fields_of rows

module _ (kind : JobKind) (tokens : List FieldToken) where
  -- a unit leaves the work to the others, whatever they are
  pub record GoesOn (nonce : List ℕ) (before after : Work) (searched : List Count) (rows : List Entry) : Type 0 where
    pub does : (nonces : List (List ℕ)) (more : List Count)
        → units kind tokens (nonce ∷ nonces) before (searched ++ more) ≡ opened_before rows (units kind tokens nonces after more)
    pub allowed : (nonces : List (List ℕ)) (more : List Count)
        → AllowedUnits kind tokens nonces after more → AllowedUnits kind tokens (nonce ∷ nonces) before (searched ++ more)

  -- units end with this one, whatever the others are
  pub record Stops (nonce : List ℕ) (before after : Work) (searched : List Count) (rows : List Entry) (mismatch : Option ℕ) : Type 0 where
    pub does : (nonces : List (List ℕ)) → units kind tokens (nonce ∷ nonces) before searched ≡ stopped after mismatch rows []
    pub allowed : (nonces : List (List ℕ)) → AllowedUnits kind tokens (nonce ∷ nonces) before searched

  abbrev pub TurnIs : List ℕ → Work → Work → List Count → List Entry → Turn → Type 0
  TurnIs nonce before after searched rows t.On = GoesOn nonce before after searched rows
  TurnIs nonce before after searched rows t.Done = Stops nonce before after searched rows None
  TurnIs nonce before after searched rows (t.Mismatch field) = Stops nonce before after searched rows (Some field)

  -- a unit, and what it notes
  pub record IsUnit (nonce : List ℕ) (before after : Work) (counts counts_after : List Count) (opened opened_after : List ℕ) (turn : Turn) : Type 0 where
    pub searched : List Count
    pub rows : List Entry
    pub noted : IsNoted counts counts_after searched opened opened_after rows
    pub turn_is : TurnIs nonce before after searched rows turn

  -- all units, and what they note
  pub record IsRun (nonces : List (List ℕ)) (before after : Work) (counts counts_after : List Count) (opened opened_after : List ℕ) (mismatch : Option ℕ) : Type 0 where
    pub searched : List Count
    pub rows : List Entry
    pub noted : IsNoted counts counts_after searched opened opened_after rows
    pub does : units kind tokens nonces before searched ≡ stopped after mismatch rows []
    pub allowed : AllowedUnits kind tokens nonces before searched
