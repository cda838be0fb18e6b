-- What a script's first line says, or its first fault: the judgements stand in their order.
use Rattle.std.specs.Prelude.{ℕ, List, [], ◌∷◌, codes, Bool, true, false, Option, None, Some, option_and_then, Result, Ok}
use Rattle.std.specs.Result.{result_ok}
use Rattle.hex.specs.Hex.{decode_sized}
use Rattle.serde_json.specs.Data.{Data, Members}
use Rattle.serde_json.specs.Find.{as_bool, as_str, get_member}
use Rattle.qe_field.specs.declared.field.Field.{Field}
use Rattle.qe_schema.specs.Judgements.{bind, some_or, refuse_as}
use Rattle.qe_schema.specs.Keys.{keys_of}
use Rattle.qe_schema.specs.Reading.{schema_of}
use Rattle.qe_raw.specs.declared.fault.ScriptKind.{ScriptKind}
use Rattle.qe_raw.specs.declared.fault.ScriptKind.TheVariants as k
use Rattle.qe_raw.specs.Names.{Rule, must_have, may_have, checked_names}
use Rattle.qe_raw.specs.Objects.{object_of}
use Rattle.qe_raw.specs.Values.{Fields, needed}
use Rattle.qe_script.specs.declared.script.Header.{Header}
use Rattle.qe_script.specs.Callers.{callers_in}
use Rattle.qe_script.specs.Fields.{fields_in}

-- the header's names, in the order in which their values are judged
abbrev pub header_rules : List Rule
header_rules = must_have (codes "seed") ∷ must_have (codes "fields") ∷ may_have (codes "callers") ∷ may_have (codes "brief") ∷ may_have (codes "leaf") ∷ []

-- 64 hex digits
abbrev pub seed_from : List ℕ → Option (List ℕ)
seed_from text = result_ok (decode_sized text 32)

abbrev pub seed_in : Members → Result (List ℕ) ScriptKind
seed_in ms = bind (needed (codes "seed") ms) (λ d. some_or (k.BadValue (codes "seed")) (option_and_then seed_from (as_str d)))

abbrev pub flag_from : List ℕ → Bool → Option Data → Result Bool ScriptKind
flag_from name default None = Ok default
flag_from name default (Some d) = some_or (k.BadValue name) (as_bool d)

-- true or false, or what it is where it isn't given
abbrev pub flag_in : List ℕ → Bool → Members → Result Bool ScriptKind
flag_in name default ms = flag_from name default (get_member name ms)

-- the schema of the fields, and then its keys
abbrev pub with_keys : List (List ℕ) → List Field → Result (List Field × List (List ℕ)) ScriptKind
with_keys keys schema = bind (refuse_as k.Keys (keys_of schema keys)) (λ kept. Ok (schema, kept))

abbrev pub schema_with : Fields × List (List ℕ) → Result (List Field × List (List ℕ)) ScriptKind
schema_with fields = bind (refuse_as k.Schema (schema_of fields.0)) (with_keys fields.1)

abbrev pub header_with : List ℕ → List (List ℕ) → Bool → Bool → List Field × List (List ℕ) → Result Header ScriptKind
header_with seed callers brief leaf both =
    Ok (record { schema = both.0; keys = both.1; seed = seed; callers = callers; brief = brief; leaf = leaf })

abbrev pub header_in : Members → Result Header ScriptKind
header_in ms =
    bind (checked_names header_rules ms) (λ _.
    bind (seed_in ms) (λ seed.
    bind (fields_in ms) (λ fields.
    bind (callers_in ms) (λ callers.
    bind (flag_in (codes "brief") false ms) (λ brief.
    bind (flag_in (codes "leaf") true ms) (λ leaf.
    bind (schema_with fields) (header_with seed callers brief leaf)))))))

abbrev pub header_of : List ℕ → Result Header ScriptKind
header_of line = bind (object_of line) header_in
