-- The commands, and the names of their lines.
use Rattle.std.specs.Prelude.{ℕ, List, [], ◌∷◌, codes, bytes_eq, Option, None, Some, option_and_then, Result, if◌then◌else◌}
use Rattle.serde_json.specs.Data.{Data, Members}
use Rattle.serde_json.specs.Find.{as_str, get_member}
use Rattle.qe_schema.specs.Judgements.{bind, some_or}
use Rattle.qe_raw.specs.declared.fault.ScriptKind.{ScriptKind}
use Rattle.qe_raw.specs.declared.fault.ScriptKind.TheVariants as k
use Rattle.qe_raw.specs.declared.verb.Verb.{Verb}
use Rattle.qe_raw.specs.declared.verb.Verb.TheVariants as v
use Rattle.qe_raw.specs.Names.{Rule, must_have, may_have}

abbrev pub verb_named : List ℕ → Option Verb
verb_named name =
    if bytes_eq name (codes "insert") then Some v.Insert
    else if bytes_eq name (codes "find") then Some v.Find
    else if bytes_eq name (codes "ids") then Some v.Ids
    else if bytes_eq name (codes "update") then Some v.Update
    else if bytes_eq name (codes "delete") then Some v.Delete
    else if bytes_eq name (codes "begin") then Some v.Begin
    else if bytes_eq name (codes "step") then Some v.Step
    else if bytes_eq name (codes "end") then Some v.End
    else if bytes_eq name (codes "abandon") then Some v.Abandon
    else if bytes_eq name (codes "raise") then Some v.Raise
    else None

abbrev pub verb_at : Data → Result Verb ScriptKind
verb_at d = some_or (k.BadValue (codes "do")) (option_and_then verb_named (as_str d))

abbrev pub verb_in : Members → Result Verb ScriptKind
verb_in ms = bind (some_or (k.Missing (codes "do")) (get_member (codes "do") ms)) verb_at

-- the names of a command, in the order in which their values are judged
abbrev pub own_rules : Verb → List Rule
own_rules v.Insert = must_have (codes "doc") ∷ []
own_rules v.Find = may_have (codes "filter") ∷ []
own_rules v.Ids = may_have (codes "filter") ∷ []
own_rules v.Update = must_have (codes "filter") ∷ must_have (codes "set") ∷ []
own_rules v.Delete = must_have (codes "filter") ∷ []
own_rules v.Begin = must_have (codes "kind") ∷ may_have (codes "tokens") ∷ []
own_rules v.Step = must_have (codes "job") ∷ may_have (codes "limit") ∷ []
own_rules v.End = must_have (codes "job") ∷ []
own_rules v.Abandon = must_have (codes "job") ∷ []
own_rules v.Raise = must_have (codes "field") ∷ must_have (codes "contention") ∷ []

-- .. beside `do` and `by`
abbrev pub rules_of : Verb → List Rule
rules_of verb = must_have (codes "do") ∷ may_have (codes "by") ∷ own_rules verb
