-- Keys of a schema: one for each encrypted field, and no two with one root.
use Rattle.std.specs.Prelude.{◌≡◌, ℕ, ◌+◌, ◌==◌, List, [], ◌∷◌, ◌++◌, take, drop, length, slice_index, false, bytes_eq, Option, None, Some, option_map, Result, Ok, Err, if◌then◌else◌}
use Rattle.std.specs.Option.{option_or}
use Rattle.qe_field.specs.declared.field.Field.{Field}
use Rattle.qe_schema.specs.declared.fault.KeyFault.{KeyFault}
use Rattle.qe_schema.specs.declared.fault.KeyFault.TheVariants as f
use Rattle.qe_field.specs.Judgements.{unless}
use Rattle.qe_field.specs.Lookup.{encrypted_numbers}

-- the root of a key: its last 32 bytes
abbrev pub root_of : List ℕ → List ℕ
root_of key = take 32 (drop 64 key)

-- the place of the first key with the root of a key
abbrev pub root_from : ℕ → List ℕ → List (List ℕ) → Option ℕ
root_from i key [] = None
root_from i key (other ∷ keys) = if bytes_eq (root_of other) (root_of key) then Some i else root_from (i + 1) key keys

-- the fault of two places, by the numbers of their fields
abbrev pub same_root : List ℕ → ℕ → ℕ → KeyFault
same_root numbers second first = f.DuplicateRoot (slice_index numbers first) (slice_index numbers second)

-- the keys from a place on, each behind the earlier ones
abbrev pub roots_from : List ℕ → ℕ → List (List ℕ) → List (List ℕ) → Option KeyFault
roots_from numbers i earlier [] = None
roots_from numbers i earlier (key ∷ keys) = option_or (option_map (same_root numbers i) (root_from 0 key earlier)) (roots_from numbers (i + 1) (earlier ++ key ∷ []) keys)

-- the keys, where their number is right and no root stands twice; the pair's second key is the first that repeats one
abbrev pub keys_of : List Field → List (List ℕ) → Result (List (List ℕ)) KeyFault
keys_of fields keys = let numbers = encrypted_numbers fields in
    if length keys == length numbers then unless (roots_from numbers 0 [] keys) (Ok keys)
    else Err (f.WrongNumber (length numbers) (length keys))

-- two keys have other roots
abbrev pub AreApart : List ℕ → List ℕ → Type 0
AreApart key other = bytes_eq (root_of key) (root_of other) ≡ false
