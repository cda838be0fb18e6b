-- Which field's token is sent for which field.
use Rattle.std.specs.Prelude.{ℕ, List, [], ◌∷◌, map, Option, None, Some, Result, Ok}
use Rattle.qe_value.specs.declared.value.Plain.{Plain}
use Rattle.qe_field.specs.declared.field.Field.{Field}
use Rattle.qe_filter.specs.declared.fault.PlainFault.{PlainFault}
use Rattle.qe_filter.specs.declared.fault.PlainFault.TheVariants as f
use Rattle.qe_plain.specs.declared.command.Pair.{Pair}
use Rattle.qe_field.specs.Judgements.{bind, some_or}
use Rattle.qe_field.specs.Values.{text_in}
use Rattle.qe_field.specs.Lookup.{encrypted_numbers}
use Rattle.qe_filter.specs.Indexed.{indexed}
use Rattle.qe_resolve.specs.Slots.{put, empty_slots, listed_from}

abbrev pub pair : ℕ → ℕ → Pair
pair field sent = record { field = field; sent = sent }

-- where no tokens are named, each encrypted field has its own
abbrev pub own_pair : ℕ → Pair
own_pair i = pair i i

abbrev pub own_pairs : List Field → List Pair
own_pairs fields = map own_pair (encrypted_numbers fields)

-- one name: its field, and the field that its text names
abbrev pub name_pair : List Field → List ℕ × Plain → Result (ℕ × ℕ) PlainFault
name_pair fields element =
    bind (indexed fields element.0) (λ own.
    bind (some_or (f.TypeDiffers element.0) (text_in element.1)) (λ text.
    bind (indexed fields text) (λ sent. Ok (own.0, sent.0))))

abbrev pub pair_slots_from : List Field → List (Option ℕ) → List (List ℕ × Plain) → Result (List (Option ℕ)) PlainFault
pair_slots_from fields slots [] = Ok slots
pair_slots_from fields slots (element ∷ elements) =
    bind (name_pair fields element) (λ named. pair_slots_from fields (put (Some named) slots) elements)

-- the pairs in rising field number
abbrev pub named_pairs : List Field → List (List ℕ × Plain) → Result (List Pair) PlainFault
named_pairs fields elements = bind (pair_slots_from fields (empty_slots fields) elements) (λ slots. Ok (listed_from pair 0 slots))

abbrev pub pairs_of : List Field → Option (List (List ℕ × Plain)) → Result (List Pair) PlainFault
pairs_of fields None = Ok (own_pairs fields)
pairs_of fields (Some elements) = named_pairs fields elements
