-- The keys of an item that are kept for the next word.
use Rattle.std.specs.Prelude.{List, Option, None, Some}
use Rattle.qe_tokens.specs.declared.tokens.RootKey.{RootKey}
use Rattle.qe_label_list.specs.declared.kept.Kept.{Kept}
use Rattle.qe_label_list.specs.Roots.{root_in}
use Rattle.qe_label_list.specs.Tokens.{IsOfItem}

abbrev pub IsKept : List RootKey → Kept → Type 0
IsKept roots kept = IsOfItem kept.keys (root_in roots kept.field) kept.item.now

abbrev pub IsKeptIfAny : List RootKey → Option Kept → Type 0
IsKeptIfAny roots None = Unit {0}
IsKeptIfAny roots (Some kept) = IsKept roots kept
