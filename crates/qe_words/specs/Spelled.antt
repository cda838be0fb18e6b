-- The words that spell a task.
use Rattle.std.specs.Prelude.{ℕ, ◌^◌, ◌<◌, ◌≤◌, List, [], ◌∷◌, codes}
use Rattle.std.specs.Fmt.{decimal}
use Rattle.qe_words.specs.declared.words.Words.{Words}
use Rattle.qe_words.specs.declared.words.Words.TheVariants.{Replay, Show, Make}

abbrev pub spelled : Words → List (List ℕ)
spelled Replay = codes "replay" ∷ []
spelled Show = codes "show" ∷ []
spelled (Make documents seed) = codes "make" ∷ decimal documents ∷ decimal seed ∷ []

-- a script is made of 1 to 4,000 documents and a seed below 2^64
abbrev pub IsTask : Words → Type 0
IsTask Replay = Unit {0}
IsTask Show = Unit {0}
IsTask (Make documents seed) = (1 ≤ documents) × (documents ≤ 4000) × (seed < 2 ^ 64)
