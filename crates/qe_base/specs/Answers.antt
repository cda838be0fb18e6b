-- What a call answers, where want of memory is the one free answer.
use Rattle.std.specs.Prelude.{◌≡◌, Option, None, Some, Result, Ok, Err}

-- the refusal is the one that is due; want of memory, which no view shows, is free
abbrev pub Refuses : {Y D : Type 0} → Option D → Result Y D → Type 0
Refuses None due = Unit {0}
Refuses (Some fault) due = due ≡ Err fault

-- what a call returned is what is due, or want of memory: `view` shows its value, and `fault` a refusal of another cause
abbrev pub Answers : {X Y E D : Type 0} → (X → Y) → (E → Option D) → Result X E → Result Y D → Type 0
Answers view fault (Ok x) due = due ≡ Ok (view x)
Answers view fault (Err e) due = Refuses (fault e) due
