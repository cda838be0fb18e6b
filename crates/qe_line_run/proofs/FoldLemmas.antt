-- Lines and entries, one more of each: callers and commands.
use Rattle.std.proofs.Common.{◌≡◌, List, [], ◌∷◌, ◌++◌, length, refl, arith}
use Rattle.std.proofs.lemmas.List.{map-append}
use Rattle.qe_protocol.specs.declared.journal.JournalEntry.{JournalEntry}
use Rattle.qe_script.specs.declared.script.Line.{Line}
use Rattle.qe_encodes.specs.Callers.{Callers, callers_next}
use Rattle.qe_runs.specs.Runs.{callers_after, commands_of}

pub callers_more : (callers : Callers) (lines : List Line) (entries : List JournalEntry) (line : Line) (entry : JournalEntry)
    → length entries ≡ length lines
    → callers_after callers (lines ++ line ∷ []) (entries ++ entry ∷ [])
    ≡ callers_next (callers_after callers lines entries) line.caller line.command entry.outcome
callers_more callers [] [] line entry many = refl
callers_more callers [] (e ∷ entries) line entry many = absurd (omega arith)
callers_more callers (l ∷ lines) [] line entry many = absurd (omega arith)
callers_more callers (l ∷ lines) (e ∷ entries) line entry many =
    let fewer : length entries ≡ length lines = omega arith in
    callers_more (callers_next callers l.caller l.command e.outcome) lines entries line entry fewer

pub commands_more : (lines : List Line) (line : Line) → commands_of (lines ++ line ∷ []) ≡ commands_of lines ++ line.command ∷ []
commands_more lines line = map-append (λ (l : Line). l.command) lines (line ∷ [])
