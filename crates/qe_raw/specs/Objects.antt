-- The object that a line is (RFC 8259).
use Rattle.std.specs.Prelude.{ℕ, List, Option, None, Result, if◌then◌else◌}
use Rattle.std.specs.Str.{is_utf8}
use Rattle.serde_json.specs.Data.{Data, Members}
use Rattle.serde_json.specs.Find.{as_object}
use Rattle.serde_json.specs.Read.{read}
use Rattle.qe_schema.specs.Judgements.{bind, some_or}
use Rattle.qe_raw.specs.declared.fault.ScriptKind.{ScriptKind}
use Rattle.qe_raw.specs.declared.fault.ScriptKind.TheVariants as k

-- the JSON value that a line is; a line that isn't UTF-8 is none, and one of more than 127 levels either
unfoldable pub json_of : List ℕ → Option Data
json_of line = if is_utf8 line then read line else None

-- its members, in the byte order of their names; of equal names the last one stays
abbrev pub object_of : List ℕ → Result Members ScriptKind
object_of line = bind (some_or k.NotJson (json_of line)) (λ d. some_or k.NotObject (as_object d))
