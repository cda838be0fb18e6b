-- What a command's words make of the words of a run.
use Rattle.std.specs.Prelude.{◌≡◌, ℕ, List, Bool, Some, if◌then◌else◌}
use Rattle.std.specs.FinMap.{get}
use Rattle.qe_tokens.specs.declared.words.Word.{Word}
use Rattle.qe_tokens.specs.declared.words.Word.TheVariants.{Item}
use Rattle.qe_labels.specs.Numbers.{Numbers, all_learned, all_raised}

-- words that it looks for are known from now on; those of values that it stored count once more, where it was accepted
abbrev pub with_words : Numbers → List Word → List Word → Bool → Numbers
with_words numbers asked indexed accepted =
    if accepted then all_raised (all_learned numbers asked) indexed else all_learned numbers asked

-- the fields of items have a property
pub record HasFields (Of : ℕ → Type 0) (numbers : Numbers) : Type 0 where
  pub each : (field factor n : ℕ) (item : List ℕ) → get numbers (Item field item factor) ≡ Some n → Of field
