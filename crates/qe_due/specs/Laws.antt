-- Laws about what is due.
use Rattle.std.specs.Prelude.{◌≡◌, ℕ, List, Option, Some}
use Rattle.qe_base.specs.declared.status.Status.{Status}
use Rattle.qe_due.specs.Due.{IsDue}
use Rattle.qe_due.specs.Status.{IsStatusFor, IsOnly}

-- what is due comes with the status of the words and the input, which have no other
abbrev pub DueHasOneStatus : Type 0
DueHasOneStatus = (words : List (List ℕ)) (left after : Option (List ℕ)) (status : Status) (text input : List ℕ) → left ≡ Some input
    → IsDue words left after status text → IsOnly (IsStatusFor words input) status
