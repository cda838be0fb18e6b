-- The line that tells why a script is refused: the fault's kind, its names and its numbers.
use Rattle.std.specs.Prelude.{ℕ, List, codes}
use Rattle.qe_edges.specs.declared.domain.DomainFault.{DomainFault}
use Rattle.qe_edges.specs.declared.domain.DomainFault.TheVariants as d
use Rattle.qe_raw.specs.declared.fault.ScriptKind.{ScriptKind}
use Rattle.qe_raw.specs.declared.fault.ScriptKind.TheVariants as k
use Rattle.qe_field.specs.declared.fault.SchemaFault.{SchemaFault}
use Rattle.qe_field.specs.declared.fault.SchemaFault.TheVariants as s
use Rattle.qe_schema.specs.declared.fault.KeyFault.{KeyFault}
use Rattle.qe_schema.specs.declared.fault.KeyFault.TheVariants as key
use Rattle.qe_filter.specs.declared.fault.PlainFault.{PlainFault}
use Rattle.qe_filter.specs.declared.fault.PlainFault.TheVariants as p
use Rattle.qe_texts.specs.Phrases.{counted, named, twice_counted}

abbrev pub domain_name : DomainFault → List ℕ
domain_name d.MinNotBelowMax = codes "MinNotBelowMax"
domain_name d.SparsityRange = codes "SparsityRange"
domain_name d.TrimRange = codes "TrimRange"

abbrev pub domain_text : ℕ → DomainFault → List ℕ
domain_text field fault = named (counted (codes "BadDomain") field) (domain_name fault)

-- want of memory is told by no line; it has a word here because each fault has one
abbrev pub schema_text : SchemaFault → List ℕ
schema_text s.NotFields = codes "NotFields"
schema_text (s.TooManyFields n) = counted (codes "TooManyFields") n
schema_text (s.BadForm field) = counted (codes "BadForm") field
schema_text (s.BadPath field) = counted (codes "BadPath") field
schema_text (s.DuplicateField first second) = twice_counted (codes "DuplicateField") first second
schema_text (s.BadType field) = counted (codes "BadType") field
schema_text (s.BadKeyId field) = counted (codes "BadKeyId") field
schema_text (s.DuplicateKeyId first second) = twice_counted (codes "DuplicateKeyId") first second
schema_text (s.BadContention field) = counted (codes "BadContention") field
schema_text (s.BadDomain field fault) = domain_text field fault
schema_text s.NoMemory = codes "NoMemory"

abbrev pub key_text : KeyFault → List ℕ
key_text (key.WrongNumber want got) = twice_counted (codes "WrongNumber") want got
key_text (key.DuplicateRoot first second) = twice_counted (codes "DuplicateRoot") first second
key_text key.NoMemory = codes "NoMemory"

abbrev pub plain_text : PlainFault → List ℕ
plain_text p.NoId = codes "NoId"
plain_text p.BadId = codes "BadId"
plain_text (p.ReservedName name) = named (codes "ReservedName") name
plain_text (p.UnknownField name) = named (codes "UnknownField") name
plain_text (p.NotIndexed name) = named (codes "NotIndexed") name
plain_text (p.TypeDiffers name) = named (codes "TypeDiffers") name
plain_text (p.OutOfDomain name) = named (codes "OutOfDomain") name
plain_text (p.BadFilter name) = named (codes "BadFilter") name
plain_text (p.BadLimit limit) = counted (codes "BadLimit") limit
plain_text (p.BadContention contention) = counted (codes "BadContention") contention
plain_text p.NoMemory = codes "NoMemory"

abbrev pub kind_text : ScriptKind → List ℕ
kind_text k.NoHeader = codes "NoHeader"
kind_text k.NotJson = codes "NotJson"
kind_text k.NotObject = codes "NotObject"
kind_text (k.Unknown name) = named (codes "Unknown") name
kind_text (k.Missing name) = named (codes "Missing") name
kind_text (k.BadValue name) = named (codes "BadValue") name
kind_text (k.Schema fault) = schema_text fault
kind_text (k.Keys fault) = key_text fault
kind_text (k.Plain fault) = plain_text fault

abbrev pub refusal_line : ℕ → ScriptKind → List ℕ
refusal_line line kind = named (counted (codes "bad line") line) (kind_text kind)
