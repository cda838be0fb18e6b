-- The two numbers in an anchor's value: how many anchors a cleanup has taken out, and how many positions are counted.
use Rattle.std.specs.Prelude.{ℕ, ◌+◌, ◌%◌, ◌^◌, List, Option, Some, ◌==◌, if◌then◌else◌}
use Rattle.std.specs.FinMap.{get}
use Rattle.qe_seal.specs.Enciphered.{enciphered_pair, deciphered_pair}
use Rattle.qe_tokens.specs.Tokens.{esc_value_of}
use Rattle.qe_esc.specs.Rows.{Row, Rows}
use Rattle.qe_esc.specs.Identifiers.{id_of}
use Rattle.qe_esc.specs.declared.key.RowKind.TheVariants.{Anchor}

-- the value of an anchor's row for two numbers, under an IV
abbrev pub sealed_pair : List ℕ → List ℕ → ℕ → ℕ → List ℕ
sealed_pair token iv apos cpos = enciphered_pair (esc_value_of token) iv apos cpos

-- the null anchor has both numbers; the other anchors have 0 for the first
abbrev pub null_value : List ℕ → List ℕ → ℕ → ℕ → List ℕ
null_value token iv apos cpos = sealed_pair token iv apos cpos

abbrev pub anchor_value : List ℕ → List ℕ → ℕ → List ℕ
anchor_value token iv cpos = sealed_pair token iv 0 cpos

-- the numbers in a value
abbrev pub opened_pair : List ℕ → List ℕ → ℕ × ℕ
opened_pair token value = deciphered_pair (esc_value_of token) value

-- the numbers of what stands at an anchor's identifier: 0 and 0 where there is no row, or it has no value, which is this project's own
abbrev pub pair_of : List ℕ → Option Row → ℕ × ℕ
pair_of token (Some (Some value)) = opened_pair token value
pair_of token row = (0, 0)

-- the numbers of the null anchor
unfoldable pub null_pair : Rows → List ℕ → ℕ × ℕ
null_pair rows token = pair_of token (get rows (id_of Anchor token 0))

-- how many positions are counted by the last of `hop` anchors behind a null anchor of these numbers, or by it where there is none
abbrev pub base_behind : Rows → List ℕ → ℕ × ℕ → ℕ → ℕ
base_behind rows token null hop =
    if hop == 0 then null.1 else (pair_of token (get rows (id_of Anchor token ((null.0 + hop) % 2 ^ 64)))).1

-- the base of a search that counts `hop` anchors
unfoldable pub base_of : Rows → List ℕ → ℕ → ℕ
base_of rows token hop = base_behind rows token (null_pair rows token) hop
