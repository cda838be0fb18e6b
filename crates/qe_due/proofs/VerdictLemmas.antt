-- What is due for a script tells its verdict, and that no other is.
use Rattle.std.proofs.Common.{◌≡◌, List, ℕ, refl, sym, subst}
use Rattle.qe_play.specs.Due.{IsDone, IsClashing, IsVerdict}
use Rattle.qe_play.specs.Runs.{IsClear}
use Rattle.qe_play.specs.declared.due.Verdict.{Verdict}
use Rattle.qe_play.specs.declared.due.Verdict.TheVariants.{Done, Clash}
use Rattle.qe_script.specs.declared.script.Script.{Script}

pub done_verdict : (script : Script) (text : List ℕ) → IsDone script text → IsVerdict script Done
done_verdict script text is = record { journal = is.journal; run = is.run; clear = is.clear }

pub clash_verdict : (script : Script) (text : List ℕ) → IsClashing script text → IsVerdict script Clash
clash_verdict script text is = record { journal = is.journal; run = is.run; clashes = is.every is.journal is.run }

pub done_only : (script : Script) (text : List ℕ) (other : Verdict) → IsDone script text → IsVerdict script other → other ≡ Done
done_only script text Done is has = refl
done_only script text Clash is has = absurd (has.clashes (subst (λ journal. IsClear script journal) (sym (is.only has.journal has.run)) is.clear))

pub clash_only : (script : Script) (text : List ℕ) (other : Verdict) → IsClashing script text → IsVerdict script other → other ≡ Clash
clash_only script text Done is has = absurd (is.every has.journal has.run has.clear)
clash_only script text Clash is has = refl
