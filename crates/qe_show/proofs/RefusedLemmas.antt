-- The line of a blob that is refused.
use Rattle.std.proofs.Common.{◌⊎◌, inr, ℕ, List, Option, None, Some, Result, Ok, Err}
use Rattle.std.specs.Prelude.{IfOk}
use Rattle.qe_base.specs.Answers.{Refuses}
use Rattle.qe_layout.specs.Refusal.{Refusal}
use Rattle.qe_show.specs.Blob.{IsLineOf, ShowsRefusal}

shows : {P : Type 0} (given : Option Refusal) (due : Result P Refusal) (line : List ℕ) → Refuses given due → IsLineOf given line → ShowsRefusal due line
shows None due line refuses is = absurd is
shows (Some refusal) due line refuses is = record { refusal = refusal; is_due = refuses; printed = is }

-- the line of the refusal that is due
pub refused_line : {P E : Type 0} (Parts : List ℕ → Type 0) (result : Result (List ℕ) E) (given : Option Refusal) (due : Result P Refusal) → Refuses given due
    → IfOk result (IsLineOf given) → IfOk result (λ line. Parts line ⊎ ShowsRefusal due line)
refused_line Parts (Ok line) given due refuses is = inr (shows given due line refuses is)
refused_line Parts (Err e) given due refuses is = tt
