-- The root keys of fields, and words of fields.
use Rattle.std.specs.Prelude.{◌<◌, ℕ, List, [], slice_index_or}
use Rattle.std.specs.List.{AllByRecursion}
use Rattle.qe_tokens.specs.declared.tokens.RootKey.{RootKey}
use Rattle.qe_tokens.specs.declared.words.Word.{Word}
use Rattle.qe_tokens.specs.declared.words.Word.TheVariants.{Item, Stray}

-- the root key of the field of a number
abbrev pub root_in : List RootKey → ℕ → List ℕ
root_in roots field = (slice_index_or roots field (record { 0 = [] })).0

-- an item's word is of one of so many fields
abbrev pub IsWithin : ℕ → Word → Type 0
IsWithin fields (Item field item factor) = field < fields
IsWithin fields (Stray token) = Unit {0}

abbrev pub AreWithin : ℕ → List (Word × ℕ) → Type 0
AreWithin fields counted = AllByRecursion (λ one. IsWithin fields one.0) counted
