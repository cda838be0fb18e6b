-- Documents with a token for each encrypted field.
use Rattle.std.specs.Prelude.{ℕ, ◌+◌, List, [], ◌∷◌, ◌++◌, Option, None, Some, Result, if◌then◌else◌}
use Rattle.qe_tokens.specs.declared.words.FieldToken.{FieldToken}
use Rattle.qe_field.specs.declared.field.Field.{Field}
use Rattle.qe_field.specs.Lookup.{known}
use Rattle.qe_field.specs.Names.{is_reserved}
use Rattle.qe_layout.specs.declared.malformed.Kind.TheVariants.{ReservedName}
use Rattle.qe_layout.specs.Layouts.{Element, Reader, built}
use Rattle.qe_layout.specs.Leaves.{fixed_reads}
use Rattle.qe_layout.specs.Refusal.{Refusal, wrong, bind}
use Rattle.qe_command_parts.specs.Fields.{encrypted_among, field_rows}

-- a token of an encrypted field
unfoldable pub token_reads : List Field → Reader (List ℕ)
token_reads fields name value =
    if is_reserved name then wrong name ReservedName
    else bind (encrypted_among name (known fields name)) (λ _. fixed_reads 0 32 name value)

abbrev pub token_at : ℕ → Option (List ℕ) → List FieldToken
token_at i None = []
token_at i (Some token) = record { field = i; token = record { 0 = token } } ∷ []

-- the tokens in the fields' slots
abbrev pub tokens_from : ℕ → List (Option (List ℕ)) → List FieldToken
tokens_from i [] = []
tokens_from i (slot ∷ slots) = token_at i slot ++ tokens_from (i + 1) slots

unfoldable pub tokens_of : List Field → List Element → Result (List FieldToken) Refusal
tokens_of fields elements = built (token_reads fields) (field_rows fields) (tokens_from 0) elements
