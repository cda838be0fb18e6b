-- One unit before any others, by what it is about.
use Rattle.std.proofs.Common.{◌≡◌, ℕ, List, [], ◌∷◌, true, false, None, Some, refl, sym, ap, ◌∙◌, subst, if◌then◌else◌}
use Rattle.std.specs.Bool.{MatchBool}
use Rattle.qe_base.specs.declared.maintenance.Count.{Count}
use Rattle.qe_base.specs.declared.maintenance.JobKind.{JobKind}
use Rattle.qe_tokens.specs.declared.words.FieldToken.{FieldToken}
use Rattle.qe_ecoc.specs.declared.rows.Entry.{Entry}
use Rattle.qe_protocol.specs.Counting.{IsCounted}
use Rattle.qe_protocol.specs.Units.{Work, units, unit_then, stopped, with_opened, is_mismatch, opened_row, row_done, doomed_done, captured_done, AllowedUnits, AllowedUnit}
use Rattle.qe_compact.specs.Turns.{GoesOn, Stops}

abbrev IsEmpty : List Count → Type 0
IsEmpty counts = counts ≡ []

module _ (kind : JobKind) (tokens : List FieldToken) (nonce : List ℕ) (before : Work) where
  pub row_goes : (row : Entry) (rest : List Entry) (count : Count) → before.aside ≡ row ∷ rest
      → IsCounted before.rows (opened_row tokens row).token count → is_mismatch before.rows count ≡ false
      → GoesOn kind tokens nonce before (row_done kind tokens nonce before row rest count) (count ∷ []) (row ∷ [])
  row_goes row rest count first counted goes = record {
    does = λ nonces more.
        ap (λ rows. unit_then (units kind tokens nonces) kind tokens nonce rows before.doomed before.captured before (count ∷ more)) first
        ∙ ap (λ b. if b then stopped before (Some row.field) (row ∷ []) more else with_opened row (units kind tokens nonces (row_done kind tokens nonce before row rest count) more)) goes;
    allowed = λ nonces more onward.
        subst (λ rows. AllowedUnit (AllowedUnits kind tokens nonces) kind tokens nonce rows before.doomed before.captured before (count ∷ more)) (sym first)
        (counted, subst (λ b. MatchBool b (more ≡ []) (AllowedUnits kind tokens nonces (row_done kind tokens nonce before row rest count) more)) (sym goes) onward);
  }

  pub row_stops : (row : Entry) (rest : List Entry) (count : Count) → before.aside ≡ row ∷ rest
      → IsCounted before.rows (opened_row tokens row).token count → is_mismatch before.rows count ≡ true
      → Stops kind tokens nonce before before (count ∷ []) (row ∷ []) (Some row.field)
  row_stops row rest count first counted wrong = record {
    does = λ nonces.
        ap (λ rows. unit_then (units kind tokens nonces) kind tokens nonce rows before.doomed before.captured before (count ∷ [])) first
        ∙ ap (λ b. if b then stopped before (Some row.field) (row ∷ []) [] else with_opened row (units kind tokens nonces (row_done kind tokens nonce before row rest count) [])) wrong;
    allowed = λ nonces.
        subst (λ rows. AllowedUnit (AllowedUnits kind tokens nonces) kind tokens nonce rows before.doomed before.captured before (count ∷ [])) (sym first)
        (counted, subst (λ b. MatchBool b (IsEmpty []) (AllowedUnits kind tokens nonces (row_done kind tokens nonce before row rest count) [])) (sym wrong) refl);
  }

  abbrev Lists : Type 0
  Lists = List Entry × List (List ℕ) × List (List ℕ)

  pub doomed_goes : (id : List ℕ) (rest : List (List ℕ)) → before.aside ≡ [] → before.doomed ≡ id ∷ rest
      → GoesOn kind tokens nonce before (doomed_done before id rest) [] []
  doomed_goes id rest no_row first = record {
    does = λ nonces more i. unit_then (units kind tokens nonces) kind tokens nonce (no_row i) (first i) before.captured before more;
    allowed = λ nonces more onward.
        subst (λ (lists : Lists). AllowedUnit (AllowedUnits kind tokens nonces) kind tokens nonce lists.0 lists.1 lists.2 before more)
        (λ i. (sym no_row i, sym first i, before.captured)) onward;
  }

  pub captured_goes : (id : List ℕ) (rest : List (List ℕ)) → before.aside ≡ [] → before.doomed ≡ [] → before.captured ≡ id ∷ rest
      → GoesOn kind tokens nonce before (captured_done before id rest) [] []
  captured_goes id rest no_row no_doomed first = record {
    does = λ nonces more i. unit_then (units kind tokens nonces) kind tokens nonce (no_row i) (no_doomed i) (first i) before more;
    allowed = λ nonces more onward.
        subst (λ (lists : Lists). AllowedUnit (AllowedUnits kind tokens nonces) kind tokens nonce lists.0 lists.1 lists.2 before more)
        (λ i. (sym no_row i, sym no_doomed i, sym first i)) onward;
  }

  pub nothing_stops : before.aside ≡ [] → before.doomed ≡ [] → before.captured ≡ [] → Stops kind tokens nonce before before [] [] None
  nothing_stops no_row no_doomed no_captured = record {
    does = λ nonces i. unit_then (units kind tokens nonces) kind tokens nonce (no_row i) (no_doomed i) (no_captured i) before [];
    allowed = λ nonces.
        subst (λ (lists : Lists). AllowedUnit (AllowedUnits kind tokens nonces) kind tokens nonce lists.0 lists.1 lists.2 before [])
        (λ i. (sym no_row i, sym no_doomed i, sym no_captured i)) refl;
  }
