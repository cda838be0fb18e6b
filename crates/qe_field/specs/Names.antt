-- Names of fields.
use Rattle.std.specs.Prelude.{ℕ, ◌&&◌, ◌||◌, ◌==◌, List, length, slice_index, Bool, nat_le}
use Rattle.std.specs.Char.{is_ascii_alphabetic, is_ascii_alphanumeric}
use Rattle.std.specs.List.{list_all}

-- names that begin with `$`, or with `_` twice, are no field's
abbrev pub is_reserved : List ℕ → Bool
is_reserved name = slice_index name 0 == 36 || (slice_index name 0 == 95 && slice_index name 1 == 95)

-- ASCII letters, digits and `_`
abbrev pub is_word : List ℕ → Bool
is_word text = list_all (λ byte. is_ascii_alphanumeric byte || byte == 95) text

-- 1 to 64 ASCII letters, digits and `_`, beginning with a letter
abbrev pub is_path : List ℕ → Bool
is_path text = nat_le (length text) 64 && is_ascii_alphabetic (slice_index text 0) && is_word text
