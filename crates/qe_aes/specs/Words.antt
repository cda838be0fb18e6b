-- How the code holds words and states: a word is a number of 32 bits whose first byte is the highest, and
-- a state is the words of its four columns.
use Rattle.std.specs.Prelude.{ℕ, ◌+◌, ◌-◌, ◌%◌, List, ◌++◌, map, take, slice_index}
use Rattle.std.specs.Int.{w32, to_be_bytes}
use Rattle.std.specs.List.{range_with_len, concat}
use Rattle.qe_aes.specs.Field.{product}
use Rattle.qe_aes.specs.Steps.{mixed_row}
use Rattle.qe_aes.specs.declared.state.State.{State}

-- the bytes of a word
unfoldable pub word_bytes : ℕ → List ℕ
word_bytes w = to_be_bytes w32 w

-- the bytes of each word
abbrev pub words_of : List ℕ → List (List ℕ)
words_of words = map word_bytes words

-- the bytes of a state
unfoldable pub state_bytes : State → List ℕ
state_bytes s = word_bytes s.0 ++ (word_bytes s.1 ++ (word_bytes s.2 ++ word_bytes s.3))

-- a column times the matrix made of a0, .., a3
abbrev pub mixed_column : List ℕ → List ℕ → List ℕ
mixed_column a column = map (λ r. mixed_row a r column) (range_with_len 0 4)

-- the column that b in row j and zeros elsewhere gives then
abbrev pub multiples : List ℕ → ℕ → ℕ → List ℕ
multiples a j b = map (λ r. product b (slice_index a ((r + 4 - j) % 4))) (range_with_len 0 4)

-- the key that the first eight words are
abbrev pub key_of : List ℕ → List ℕ
key_of words = concat (take 8 (words_of words))
