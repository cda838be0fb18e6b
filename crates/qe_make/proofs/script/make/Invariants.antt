use Rattle.qe_make.specs.Draft.{Adds}
use Rattle.qe_make.specs.Rules.{in_turn, written_for}
use Rattle.qe_make.specs.declared.rules.Draft.{Draft}
use Rattle.qe_make.proofs.DraftLemmas.{left}
use Rattle.qe_make.proofs.script.make.Given as goal

-- what adds the rules that are left adds all of them to the header
abbrev pub invariant-loop-i : goal.invariant-loop-i
invariant-loop-i l = (new : Draft) → Adds (in_turn (left (written_for l.count) l.count l.i)) l.draft new
    → Adds (in_turn (left (written_for l.count) l.count 1)) l.initial.draft new
