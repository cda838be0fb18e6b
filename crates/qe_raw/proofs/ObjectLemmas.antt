-- Lines and the JSON values that they are.
use Rattle.std.proofs.Common.{◌≡◌, ℕ, List, Option, None, refl}
use Rattle.std.specs.Prelude.{Bool, true, false, cond}
use Rattle.std.specs.Str.{IsUtf8, is_utf8}
use Rattle.std.proofs.lemmas.Str.{is_utf8-from_IsUtf8, IsUtf8-from_is_utf8}
use Rattle.serde_json.specs.Data.{Data}
use Rattle.serde_json.specs.Read.{read}
use Rattle.qe_raw.specs.Objects.{json_of}

-- a line of text is what JSON says of it
pub json_of-text : (line text : List ℕ) (found : Option Data) → text ≡ line → IsUtf8 line → read text ≡ found → json_of line ≡ found
unfolding json_of
json_of-text line text found same utf8 is_read = rw (is_utf8-from_IsUtf8 line utf8, ← same) is_read

-- other bytes are no JSON
pub json_of-bytes : (line : List ℕ) → (IsUtf8 line → ⊥) → json_of line ≡ None
unfolding json_of
json_of-bytes line no_text = by_test (is_utf8 line) refl
  where
    by_test : (b : Bool) → is_utf8 line ≡ b → cond b (read line) None ≡ None
    by_test true text = absurd (no_text (IsUtf8-from_is_utf8 line text))
    by_test false text = refl
