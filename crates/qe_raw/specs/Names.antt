-- The names that an object may have and those that it needs.
use Rattle.std.specs.Prelude.{ℕ, ◌&&◌, List, [], ◌∷◌, Bool, true, false, bytes_eq, is_none, Option, None, Some, option_map, Result, Ok, if◌then◌else◌, ⊤}
use Rattle.std.specs.List.{list_any}
use Rattle.serde_json.specs.Data.{Members, no_members, member}
use Rattle.serde_json.specs.Find.{get_member}
use Rattle.qe_schema.specs.Judgements.{unless}
use Rattle.qe_raw.specs.declared.fault.ScriptKind.{ScriptKind}
use Rattle.qe_raw.specs.declared.fault.ScriptKind.TheVariants as k
use Rattle.qe_raw.specs.declared.names.Rule.{Rule as Row}

-- a name, and whether it has to be there
abbrev pub Rule : Type 0
Rule = List ℕ × Bool

abbrev pub must_have : List ℕ → Rule
must_have name = (name, true)

abbrev pub may_have : List ℕ → Rule
may_have name = (name, false)

abbrev pub rule_view : Row → Rule
rule_view row = (row.name.now, row.needed)

abbrev pub is_known : List Rule → List ℕ → Bool
is_known rules name = list_any (λ rule. bytes_eq name rule.0) rules

-- the first name, in the byte order of the names, that isn't known
abbrev pub first_unknown : List Rule → Members → Option (List ℕ)
first_unknown rules no_members = None
first_unknown rules (member name d ms) = if is_known rules name then first_unknown rules ms else Some name

-- the first name, in the rules' order, that is needed and isn't there
abbrev pub first_missing : List Rule → Members → Option (List ℕ)
first_missing [] ms = None
first_missing (rule ∷ rules) ms = if rule.1 && is_none (get_member rule.0 ms) then Some rule.0 else first_missing rules ms

abbrev pub checked_names : List Rule → Members → Result ⊤ ScriptKind
checked_names rules ms =
    unless (option_map k.Unknown (first_unknown rules ms)) (
    unless (option_map k.Missing (first_missing rules ms)) (
    Ok tt))
