-- What a document and an array keep: names that are distinct at each level.
use Rattle.std.specs.Prelude.{◌≡◌, ℕ, true, List, map}
use Rattle.qe_value.specs.declared.value.Value.{Value}
use Rattle.qe_value.specs.Measures.{all_true, distinct_in}
use Rattle.qe_value.specs.Names.{Distinct}
use Rattle.qe_value.specs.Views.{plain}

-- names are distinct in each document of the items
abbrev pub KeepsItems : List Value → Type 0
KeepsItems vs = all_true (map (λ v. distinct_in (plain v)) vs) ≡ true

-- .. and in each document of the values of fields
abbrev pub KeepsValues : List (List ℕ × Value) → Type 0
KeepsValues fs = all_true (map (λ f. distinct_in (plain f.1)) fs) ≡ true

abbrev pub KeepsFields : List (List ℕ × Value) → Type 0
KeepsFields fs = Distinct fs × KeepsValues fs
