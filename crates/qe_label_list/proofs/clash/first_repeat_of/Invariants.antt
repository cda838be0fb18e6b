use Rattle.std.proofs.Common.{◌≡◌, Bool, List, ℕ, map, take}
use Rattle.std.specs.HashMap.{get}
use Rattle.std.specs.List.{position_from}
use Rattle.qe_labels.specs.Clashes.{same_key}
use Rattle.qe_label_list.specs.Keys.{key_at}
use Rattle.qe_label_list.proofs.RepeatLemmas.{Walks}
use Rattle.qe_label_list.proofs.KeyLemmas.{same_exact, same_itself}
use Rattle.qe_label_list.proofs.clash.first_repeat_of.Given as goal

-- each key passed is noted with its first place
abbrev pub invariant-loop-place : goal.invariant-loop-place
invariant-loop-place l =
    ((q : Bool × List ℕ) → get same_key l.seen q ≡ position_from (same_key q) 0 (map key_at (take l.place l.rows)))
    × Walks same_key same_exact same_itself key_at l.rows l.place
