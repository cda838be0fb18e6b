-- How a census is held: what happened to words, in order.
use Rattle.std.specs.Prelude.{List, [], ◌∷◌, ◌++◌, map, Bool, true, false, if◌then◌else◌}
use Rattle.std.specs.FinMap.{empty}
use Rattle.qe_tokens.specs.declared.words.Word.{Word}
use Rattle.qe_labels.specs.Numbers.{Numbers, learned, raised}
use Rattle.qe_census.specs.declared.event.Event.{Event}

abbrev pub after : Numbers → Event → Numbers
after numbers event = if event.indexed then raised numbers event.word else learned numbers event.word

abbrev pub after_all : Numbers → List Event → Numbers
after_all numbers [] = numbers
after_all numbers (event ∷ events) = after_all (after numbers event) events

-- the words, with their numbers
unfoldable pub numbers_after : List Event → Numbers
numbers_after events = after_all empty events

abbrev pub events_of : Bool → List Word → List Event
events_of indexed words = map (λ word. record { word = word; indexed = indexed }) words

-- the events of a command
abbrev pub command_events : List Word → List Word → Bool → List Event
command_events asked indexed accepted = events_of false asked ++ (if accepted then events_of true indexed else [])
