-- Judgements in order: each gives a value or the fault, and the first fault is the answer.
use Rattle.std.specs.Prelude.{◌≡◌, List, [], ◌∷◌, ◌++◌, Option, None, Some, Result, Ok, Err}
use Rattle.qe_base.specs.Answers.{Refuses}

-- the second judgement takes the first one's value
abbrev pub bind : {A B E : Type 0} → Result A E → (A → Result B E) → Result B E
bind (Ok x) next = next x
bind (Err fault) next = Err fault

-- the value that is there, or a fault
abbrev pub some_or : {A E : Type 0} → E → Option A → Result A E
some_or fault None = Err fault
some_or fault (Some x) = Ok x

-- a fault that is there, or what comes next
abbrev pub unless : {B E : Type 0} → Option E → Result B E → Result B E
unless None next = next
unless (Some fault) next = Err fault

-- a fault of another kind
abbrev pub refuse_as : {A D E : Type 0} → (D → E) → Result A D → Result A E
refuse_as wrap (Ok x) = Ok x
refuse_as wrap (Err fault) = Err (wrap fault)

-- what the judgement of each item gives, joined in order
abbrev pub gather : {A B E : Type 0} → (A → Result (List B) E) → List A → Result (List B) E
gather judge [] = Ok []
gather judge (x ∷ xs) = bind (judge x) (λ ys. bind (gather judge xs) (λ zs. Ok (ys ++ zs)))

-- behind what stands in a list already
abbrev pub ahead : {B E : Type 0} → List B → Result (List B) E → Result (List B) E
ahead ys (Ok zs) = Ok (ys ++ zs)
ahead ys (Err fault) = Err fault

-- as `Answers`, where the answer is what a list is afterwards
abbrev pub Leaves : {X Y E D : Type 0} → (E → Option D) → Result X E → Y → Result Y D → Type 0
Leaves fault (Ok x) after due = due ≡ Ok after
Leaves fault (Err e) after due = Refuses (fault e) due
