-- The two lengths of a row's value.
use Rattle.std.specs.Prelude.{ℕ, List, length, Option, Some, None, ◌==◌, if◌then◌else◌}
use Rattle.qe_ecoc.specs.declared.forms.Cipher.{Cipher}
use Rattle.qe_ecoc.specs.declared.forms.Cipher.TheVariants.{Old, Leaf}

abbrev pub cipher_bytes : Cipher → List ℕ
cipher_bytes (Old bytes) = bytes
cipher_bytes (Leaf bytes) = bytes

-- the value that these bytes are, if they have one of its lengths
abbrev pub cipher_from : List ℕ → Option Cipher
cipher_from bytes = if length bytes == 48 then Some (Old bytes) else (if length bytes == 49 then Some (Leaf bytes) else None)
