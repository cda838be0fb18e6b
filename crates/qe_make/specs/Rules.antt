-- What is written for a number from 1 to N: the rules in their order.
use Rattle.std.specs.Prelude.{ℕ, ◌-◌, ◌*◌, ◌/◌, ◌%◌, ◌==◌, nat_le, ℤ, pos, ◌+ℤ◌, ◌-ℤ◌, List, [], ◌∷◌, ◌++◌, codes, Bool, if◌then◌else◌}
use Rattle.serde_json.specs.Data.{Data}
use Rattle.qe_make.specs.Generator.{next_state, drawn}
use Rattle.qe_make.specs.Commands as command

-- commands, and the generator's state behind their draws
pub record Written : Type 0 where
  pub commands : List Data
  pub state : ℕ

-- a rule writes by the state of the generator
abbrev pub Rule : Type 0
Rule = ℕ → Written

-- commands without a draw
abbrev pub plainly : List Data → Rule
plainly commands x = record { commands = commands; state = x }

-- a rule that is for some numbers alone
unfoldable pub only_if : Bool → Rule → Rule
only_if holds rule x = if holds then rule x else plainly [] x

-- rules, one after another
unfoldable pub in_turn : List Rule → Rule
in_turn [] x = plainly [] x
in_turn (rule ∷ rules) x = record { commands = (rule x).commands ++ (in_turn rules (rule x).state).commands; state = (in_turn rules (rule x).state).state }

abbrev pub divides : ℕ → ℕ → Bool
divides d i = i % d == 0

-- an age is one of a hundred
abbrev pub age_at : ℕ → ℕ
age_at x = drawn x % 100

-- scores lie around 0
abbrev pub score_at : ℕ → ℤ
score_at x = pos (drawn x) -ℤ pos 1073741824

-- a document is inserted: its age is drawn, then its score
unfoldable pub insert : ℕ → Rule
insert i x = record { commands = command.insert i (age_at x) (score_at (next_state x)) ∷ []; state = next_state (next_state x) }

-- the document that is the fifth before it gets another age
unfoldable pub update : ℕ → Rule
update i = only_if (divides 10 i) (λ x. record { commands = command.update (i - 5) (age_at x) ∷ []; state = next_state x })

-- the third before it is deleted
unfoldable pub delete : ℕ → Rule
delete i = only_if (divides 25 i) (plainly (command.delete (i - 3) ∷ []))

-- an age is looked for
unfoldable pub find_age : ℕ → Rule
find_age i = only_if (divides 20 i) (λ x. record { commands = command.ids_of_age (age_at x) ∷ []; state = next_state x })

-- scores are looked for, from the one that is drawn
unfoldable pub find_scores : ℕ → Rule
find_scores i =
    only_if (divides 50 i) (λ x. record { commands = command.ids_of_score (score_at x) (score_at x +ℤ pos 100000000) ∷ []; state = next_state x })

-- the last job is a cleanup
abbrev pub kind_of : ℕ → List ℕ
kind_of job = if job == 4 then codes "cleanup" else codes "compact"

-- a job of maintenance, whole
abbrev pub job_of : ℕ → List Data
job_of job = command.begin (kind_of job) ∷ command.step job ∷ command.step job ∷ command.end_job job ∷ []

-- a job stands behind its quarter of the documents
unfoldable pub job_at : ℕ → ℕ → ℕ → Rule
job_at n i job = only_if (i == job * n / 4) (plainly (job_of job))

-- four jobs, where there is a document for each
unfoldable pub maintenance : ℕ → ℕ → Rule
maintenance n i = only_if (nat_le 4 n) (in_turn (job_at n i 1 ∷ job_at n i 2 ∷ job_at n i 3 ∷ job_at n i 4 ∷ []))

-- what is written for a number
unfoldable pub written_for : ℕ → ℕ → Rule
written_for n i = in_turn (insert i ∷ update i ∷ delete i ∷ find_age i ∷ find_scores i ∷ maintenance n i ∷ [])
