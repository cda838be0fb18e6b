-- The header's callers.
use Rattle.std.specs.Prelude.{ℕ, ◌&&◌, List, [], ◌∷◌, ◌++◌, codes, Bool, not, bytes_eq, nat_le, Option, None, Some, option_and_then, Result, Ok, Err, if◌then◌else◌}
use Rattle.std.specs.List.{list_any}
use Rattle.serde_json.specs.Data.{Data, Items, no_items, item, Members}
use Rattle.serde_json.specs.Events.{items_len}
use Rattle.serde_json.specs.Find.{as_array, as_str, get_member}
use Rattle.qe_schema.specs.Judgements.{bind, some_or}
use Rattle.qe_schema.specs.Names.{is_path}
use Rattle.qe_raw.specs.declared.fault.ScriptKind.{ScriptKind}
use Rattle.qe_raw.specs.declared.fault.ScriptKind.TheVariants as k

abbrev pub bad_callers : ScriptKind
bad_callers = k.BadValue (codes "callers")

abbrev pub is_among : List ℕ → List (List ℕ) → Bool
is_among name names = list_any (bytes_eq name) names

-- a name of the form of a path that no earlier caller has
abbrev pub fresh : List (List ℕ) → List ℕ → Option (List ℕ)
fresh earlier name = if is_path name && not (is_among name earlier) then Some name else None

abbrev pub caller_of : List (List ℕ) → Data → Result (List ℕ) ScriptKind
caller_of earlier d = some_or bad_callers (option_and_then (fresh earlier) (as_str d))

-- the callers, each behind the earlier ones
abbrev pub callers_after : List (List ℕ) → Items → Result (List (List ℕ)) ScriptKind
callers_after earlier no_items = Ok earlier
callers_after earlier (item d ds) = bind (caller_of earlier d) (λ name. callers_after (earlier ++ name ∷ []) ds)

-- 1 to 16
unfoldable pub is_some_few : Items → Bool
is_some_few ds = nat_le 1 (items_len ds) && nat_le (items_len ds) 16

-- so many distinct names
abbrev pub some_callers : Items → Result (List (List ℕ)) ScriptKind
some_callers ds = if is_some_few ds then callers_after [] ds else Err bad_callers

abbrev pub callers_from : Option Data → Result (List (List ℕ)) ScriptKind
callers_from None = Ok (codes "a" ∷ [])
callers_from (Some d) = bind (some_or bad_callers (as_array d)) some_callers

-- the callers' names; without any there is one, `a`
abbrev pub callers_in : Members → Result (List (List ℕ)) ScriptKind
callers_in ms = callers_from (get_member (codes "callers") ms)
