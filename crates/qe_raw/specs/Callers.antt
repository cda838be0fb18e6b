-- Who gives a command.
use Rattle.std.specs.Prelude.{ℕ, ◌+◌, ◌^◌, List, [], ◌∷◌, codes, bytes_eq, nat_lt, Option, None, Some, option_and_then, Result, Ok, if◌then◌else◌}
use Rattle.serde_json.specs.Data.{Data, Members}
use Rattle.serde_json.specs.Find.{as_str, get_member}
use Rattle.qe_schema.specs.Judgements.{some_or}
use Rattle.qe_raw.specs.declared.fault.ScriptKind.{ScriptKind}
use Rattle.qe_raw.specs.declared.fault.ScriptKind.TheVariants as k

-- the place of the first caller with a name
abbrev pub place_from : ℕ → List ℕ → List (List ℕ) → Option ℕ
place_from i name [] = None
place_from i name (caller ∷ callers) = if bytes_eq name caller then Some i else place_from (i + 1) name callers

abbrev pub in_32_bits : ℕ → Option ℕ
in_32_bits n = if nat_lt n (2 ^ 32) then Some n else None

abbrev pub number_of : List (List ℕ) → List ℕ → Option ℕ
number_of callers name = option_and_then in_32_bits (place_from 0 name callers)

abbrev pub caller_from : List (List ℕ) → Option Data → Result ℕ ScriptKind
caller_from callers None = Ok 0
caller_from callers (Some d) = some_or (k.BadValue (codes "by")) (option_and_then (number_of callers) (as_str d))

-- the caller that `by` names, or the first one
abbrev pub caller_in : List (List ℕ) → Members → Result ℕ ScriptKind
caller_in callers ms = caller_from callers (get_member (codes "by") ms)
