-- A line of a script that was read can be played, and the schemas of client and engine stay.
use Rattle.std.proofs.Common.{◌≡◌, ◌<◌, ◌⊎◌, inl, inr, ℕ, zero, suc, List, [], ◌∷◌, length, get_or, true, Result, Ok, Err, sym, ap, subst, arith}
use Rattle.std.specs.Prelude.{IfOk, IfErr}
use Rattle.std.specs.List.{AllByRecursion}
use Rattle.qe_plain.specs.declared.command.PlainCommand.{PlainCommand}
use Rattle.qe_schema.specs.Fits.{fits}
use Rattle.qe_schema.specs.Resolved.{IsResolved}
use Rattle.qe_script.specs.declared.script.Line.{Line}
use Rattle.qe_script.specs.declared.script.Script.{Script}
use Rattle.qe_script.specs.Read.{IsRead, IsScript}
use Rattle.qe_encodes.specs.Meant.{IsMeant}
use Rattle.qe_engine.specs.Engines.{Engined}
use Rattle.qe_client.specs.Clients.{Held}
use Rattle.qe_line_played.specs.declared.fault.PlayFault.{PlayFault}
use Rattle.qe_line_played.specs.declared.fault.PlayFault.TheVariants as f
use Rattle.qe_line_played.specs.declared.played.Played.{Played}
use Rattle.qe_line_played.specs.Played.{IsAnswered, IsPlayFault}

each_at : {A : Type 0} (P : A → Type 0) (xs : List A) (i : ℕ) (d : A) → AllByRecursion P xs → i < length xs → P (get_or xs i d)
each_at P [] i d all below = absurd (omega arith)
each_at P (x ∷ xs) zero d all below = all.0
each_at P (x ∷ xs) (suc i) d all below = each_at P xs i d all.1 (omega arith)

module _ (script : Script) (place : ℕ) (line : Line) (is : IsScript script)
    (meant : AllByRecursion (λ (l : Line). IsMeant script.schema l.command) script.lines) (below : place < length script.lines)
    (there : line ≡ get_or script.lines place line) where
  pub resolved_at : IsResolved script.schema line.command
  resolved_at = subst (λ (l : Line). IsResolved script.schema l.command) (sym there)
      (each_at (λ (l : Line). IsMeant script.schema l.command) script.lines place line meant below).resolved

  pub fits_at : fits script.schema line.command ≡ true
  fits_at = subst (λ (l : Line). fits script.schema l.command ≡ true) (sym there)
      (each_at (IsRead script.schema script.callers) script.lines place line is.lines below).fitting

module _ (client client_after : Held) (engine engine_after : Engined) (who : ℕ) (plain : PlainCommand) where
  pub schemas_stay : (result : Result Played PlayFault) → IfOk result (IsAnswered client client_after engine engine_after who plain)
      → IfErr result (IsPlayFault client client_after engine engine_after who plain)
      → (engine_after.schema ≡ engine.schema) × (client_after.sender ≡ client.sender)
  schemas_stay (Ok played) ok err = (ok.entered.schema, ok.entered.sender)
  schemas_stay (Err (f.Read fault)) ok err = (err.entered.schema, err.entered.sender)
  schemas_stay (Err f.NoMemory) ok (inl none) = (ap (λ (e : Engined). e.schema) none.engine_is, none.sender)
  schemas_stay (Err f.NoMemory) ok (inr (entry, entered)) = (entered.schema, entered.sender)
