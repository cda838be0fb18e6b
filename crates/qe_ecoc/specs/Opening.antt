-- What a row's value says: an IV, and behind it in AES-256-CTR a token of 32 bytes, and in the longer form a leaf byte.
use Rattle.std.specs.Prelude.{◌≡◌, ℕ, List, [], ◌∷◌, ◌++◌, length, take, slice_index, Option, Some, None}
use Rattle.qe_seal.specs.Enciphered.{enciphered, deciphered}
use Rattle.qe_ecoc.specs.declared.forms.Cipher.{Cipher}
use Rattle.qe_ecoc.specs.declared.forms.Cipher.TheVariants.{Old, Leaf}
use Rattle.qe_ecoc.specs.declared.opening.Opened.{Opened}

-- the value that says this
abbrev pub written : List ℕ → List ℕ → List ℕ → Option ℕ → Cipher
written key iv token None = Old (enciphered key iv token)
written key iv token (Some leaf) = Leaf (enciphered key iv (token ++ leaf ∷ []))

-- what the value says
abbrev pub opened : List ℕ → Cipher → Opened
opened key (Old bytes) = record { token = deciphered key bytes; leaf = None }
opened key (Leaf bytes) = record { token = take 32 (deciphered key bytes); leaf = Some (slice_index (deciphered key bytes) 32) }

-- a value opens to what was written
abbrev pub OpensWhatIsWritten : Type 0
OpensWhatIsWritten = (key iv token : List ℕ) (leaf : Option ℕ) → length iv ≡ 16 → length token ≡ 32
    → opened key (written key iv token leaf) ≡ record { token = token; leaf = leaf }
