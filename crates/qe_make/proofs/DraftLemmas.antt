-- A script grows by what rules write, one after another.
use Rattle.std.proofs.Common.{◌≡◌, ℕ, suc, ◌+◌, ◌-◌, ◌<◌, ◌++◌, ◌∷◌, [], List, map, Bool, true, false, refl, sym, ap, ◌∙◌, append_assoc, append-nil, arith}
use Rattle.std.proofs.lemmas.Grind.{flat_map-append}
use Rattle.std.specs.List.{range_with_len}
use Rattle.serde_json.specs.Data.{Data}
use Rattle.qe_make.specs.Draft.{Adds}
use Rattle.qe_make.specs.Header.{header}
use Rattle.qe_make.specs.Made.{line, text_of, made}
use Rattle.qe_make.specs.Rules.{Rule, plainly, only_if, in_turn, written_for}
use Rattle.qe_make.specs.declared.rules.Draft.{Draft}

-- a rule that isn't due writes nothing
pub skipped : (holds : Bool) (rule : Rule) (draft : Draft) → holds ≡ false → Adds (only_if holds rule) draft draft
unfolding only_if text_of
skipped holds rule draft not = rw not (record { text = sym (append-nil draft.text); state = refl })

-- one that is due writes what it says
pub due : (holds : Bool) (rule : Rule) (old new : Draft) → holds ≡ true → Adds rule old new → Adds (only_if holds rule) old new
unfolding only_if
due holds rule old new is adds = rw is adds

-- a command behind draws
pub behind_draws : (rule : Rule) (command : Data) (old mid new : Draft) → mid.text ≡ old.text → (rule old.state).commands ≡ command ∷ []
    → (rule old.state).state ≡ mid.state → Adds (plainly (command ∷ [])) mid new → Adds rule old new
behind_draws rule command old mid new same is moved adds = record {
  text = adds.text ∙ ap (λ text. text ++ text_of (command ∷ [])) same ∙ ap (λ commands. old.text ++ text_of commands) (sym is);
  state = adds.state ∙ sym moved;
}

pub none : (draft : Draft) → Adds (in_turn []) draft draft
unfolding in_turn text_of
none draft = record { text = sym (append-nil draft.text); state = refl }

-- a rule, and then the others
pub then : (rule : Rule) (rules : List Rule) (old mid new : Draft) → Adds rule old mid → Adds (in_turn rules) mid new → Adds (in_turn (rule ∷ rules)) old new
unfolding in_turn text_of
then rule rules old mid new first later = record {
  text = later.text ∙ ap (λ text. text ++ text_of (in_turn rules mid.state).commands) first.text
      ∙ append_assoc old.text (text_of (rule old.state).commands) (text_of (in_turn rules mid.state).commands)
      ∙ ap (λ x. old.text ++ (text_of (rule old.state).commands ++ text_of (in_turn rules x).commands)) first.state
      ∙ ap (λ text. old.text ++ text) (sym (flat_map-append line (rule old.state).commands (in_turn rules (rule old.state).state).commands));
  state = later.state ∙ ap (λ x. (in_turn rules x).state) first.state;
}

pub last : (rule : Rule) (old new : Draft) → Adds rule old new → Adds (in_turn (rule ∷ [])) old new
last rule old new adds = then rule [] old new new adds (none new)

-- a command, and then commands
and_then : (command : Data) (commands : List Data) (old mid new : Draft) → Adds (plainly (command ∷ [])) old mid → Adds (plainly commands) mid new
    → Adds (plainly (command ∷ commands)) old new
unfolding text_of
and_then command commands old mid new first later = record {
  text = later.text ∙ ap (λ text. text ++ text_of commands) first.text ∙ append_assoc old.text (text_of (command ∷ [])) (text_of commands)
      ∙ ap (λ text. old.text ++ text) (sym (flat_map-append line (command ∷ []) commands));
  state = later.state ∙ first.state;
}

-- the four commands of a job
pub one_by_one : (a b c d : Data) (d0 d1 d2 d3 d4 : Draft) → Adds (plainly (a ∷ [])) d0 d1 → Adds (plainly (b ∷ [])) d1 d2 → Adds (plainly (c ∷ [])) d2 d3
    → Adds (plainly (d ∷ [])) d3 d4 → Adds (plainly (a ∷ b ∷ c ∷ d ∷ [])) d0 d4
one_by_one a b c d d0 d1 d2 d3 d4 first second third fourth =
    and_then a (b ∷ c ∷ d ∷ []) d0 d1 d4 first (and_then b (c ∷ d ∷ []) d1 d2 d4 second (and_then c (d ∷ []) d2 d3 d4 third fourth))

-- the rules for the numbers that are left, from i to n
pub left : (ℕ → Rule) → ℕ → ℕ → List Rule
left rule_for n i = map rule_for (range_with_len i (n + 1 - i))

-- the next number's rule, and then the others
pub next_left : (rule_for : ℕ → Rule) (n i : ℕ) (old mid new : Draft) → i < n + 1 → Adds (rule_for i) old mid → Adds (in_turn (left rule_for n (i + 1))) mid new
    → Adds (in_turn (left rule_for n i)) old new
unfolding left
next_left rule_for n i old mid new within first later =
    let one_less : n + 1 - i ≡ suc (n + 1 - (i + 1)) = omega arith in
    rw one_less (then (rule_for i) (map rule_for (range_with_len (i + 1) (n + 1 - (i + 1)))) old mid new first later)

-- none is left
pub none_left : (rule_for : ℕ → Rule) (n i : ℕ) (draft : Draft) → i ≡ n + 1 → Adds (in_turn (left rule_for n i)) draft draft
unfolding left
none_left rule_for n i draft end =
    let none_more : n + 1 - i ≡ 0 = omega arith in
    rw none_more (none draft)

-- the header, and then the rules for all numbers
pub made_is : (n seed : ℕ) (json : Data) (empty opened closed : Draft) → empty.text ≡ [] → empty.state ≡ seed → json ≡ header seed
    → Adds (plainly (json ∷ [])) empty opened → Adds (in_turn (left (written_for n) n 1)) opened closed → closed.text ≡ made n seed
unfolding made text_of left
made_is n seed json empty opened closed nothing seeded is first later =
    let rules : List Rule = map (written_for n) (range_with_len 1 (n + 1 - 1)) in
    let all : n + 1 - 1 ≡ n = omega arith in
    later.text ∙ ap (λ text. text ++ text_of (in_turn rules opened.state).commands) (first.text ∙ ap (λ text. text ++ text_of (json ∷ [])) nothing)
    ∙ ap (λ x. text_of (json ∷ []) ++ text_of (in_turn rules x).commands) (first.state ∙ seeded)
    ∙ sym (flat_map-append line (json ∷ []) (in_turn rules seed).commands)
    ∙ ap (λ first_line. text_of (first_line ∷ (in_turn rules seed).commands)) is
    ∙ ap (λ count. text_of (header seed ∷ (in_turn (map (written_for n) (range_with_len 1 count)) seed).commands)) all
