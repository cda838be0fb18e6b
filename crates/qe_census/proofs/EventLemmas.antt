-- What happened to words, one thing after another.
use Rattle.std.proofs.Common.{◌≡◌, ℕ, ◌+◌, ◌<◌, Bool, true, false, List, [], ◌∷◌, ◌++◌, length, take, get_or, refl, sym, ap, ◌∙◌}
use Rattle.std.proofs.lemmas.List.{append-nil, take_more}
use Rattle.std.specs.FinMap.{empty}
use Rattle.qe_tokens.specs.declared.words.Word.{Word}
use Rattle.qe_labels.specs.Numbers.{Numbers, all_learned, all_raised, learned, raised}
use Rattle.qe_census.specs.declared.event.Event.{Event}
use Rattle.qe_census.specs.Events.{after, after_all, command_events, events_of, numbers_after}
use Rattle.qe_census.specs.Noted.{with_words}

after_append : (numbers : Numbers) (events more : List Event) → after_all numbers (events ++ more) ≡ after_all (after_all numbers events) more
after_append numbers [] more = refl
after_append numbers (event ∷ events) more = after_append (after numbers event) events more

after_learned : (words : List Word) (numbers : Numbers) → after_all numbers (events_of false words) ≡ all_learned numbers words
after_learned [] numbers = refl
after_learned (word ∷ words) numbers = after_learned words (learned numbers word)

after_raised : (words : List Word) (numbers : Numbers) → after_all numbers (events_of true words) ≡ all_raised numbers words
after_raised [] numbers = refl
after_raised (word ∷ words) numbers = after_raised words (raised numbers word)

after_command : (numbers : Numbers) (asked indexed : List Word) (accepted : Bool) → after_all numbers (command_events asked indexed accepted) ≡ with_words numbers asked indexed accepted
after_command numbers asked indexed true =
    after_append numbers (events_of false asked) (events_of true indexed) ∙ ap (λ m. after_all m (events_of true indexed)) (after_learned asked numbers)
    ∙ after_raised indexed (all_learned numbers asked)
after_command numbers asked indexed false = ap (after_all numbers) (append-nil (events_of false asked)) ∙ after_learned asked numbers

pub numbers_none : numbers_after [] ≡ empty
unfolding numbers_after
numbers_none = refl

pub numbers_push : (events : List Event) (event : Event) → numbers_after (events ++ event ∷ []) ≡ after (numbers_after events) event
unfolding numbers_after
numbers_push events event = after_append empty events (event ∷ [])

pub numbers_command : (events : List Event) (asked indexed : List Word) (accepted : Bool)
    → numbers_after (events ++ command_events asked indexed accepted) ≡ with_words (numbers_after events) asked indexed accepted
unfolding numbers_after
numbers_command events asked indexed accepted =
    after_append empty events (command_events asked indexed accepted) ∙ after_command (after_all empty events) asked indexed accepted

pub numbers_next : (events : List Event) (place : ℕ) (event : Event) (old new : Numbers) → place < length events → event ≡ get_or events place event
    → old ≡ numbers_after (take place events) → new ≡ after old event → new ≡ numbers_after (take (place + 1) events)
numbers_next events place event old new within at was is =
    is ∙ ap (λ m. after m event) was ∙ sym (numbers_push (take place events) event)
    ∙ ap (λ e. numbers_after (take place events ++ e ∷ [])) at ∙ ap numbers_after (sym (take_more events place event within))
