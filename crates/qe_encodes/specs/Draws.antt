-- The random words of a caller: for each command a stream of ChaCha20 (RFC 8439, with a counter and a nonce of 64 bits),
-- under the HMAC of the caller's name under the seed. Which words stand for what is this project's own.
use Rattle.std.specs.Prelude.{ℕ, zero, suc, ◌+◌, ◌*◌, ◌%◌, ◌^◌, List, [], ◌∷◌, ◌++◌, length}
use Rattle.std.specs.Int.{w32, to_le_bytes}
use Rattle.rand_chacha.specs.ChaCha.{word_at, key_of as words_of_seed}
use Rattle.qe_seal.specs.Hmac.{hmac_sha256}
use Rattle.qe_field.specs.declared.field.Field.{Field}
use Rattle.qe_field.specs.declared.field.FieldKind.{FieldKind}
use Rattle.qe_field.specs.declared.field.FieldKind.TheVariants as k
use Rattle.qe_value.specs.declared.value.Plain.{Plain}
use Rattle.qe_plain.specs.declared.command.PlainCell.{PlainCell}
use Rattle.qe_encodes.specs.Fields.{kind_at}
use Rattle.qe_encodes.specs.Items.{value_edges}
use Rattle.qe_encodes.specs.Payloads.{Drawn}

-- a caller's stream for the command of a number: the key, and the number of the stream
pub record Stream : Type 0 where
  pub key : List ℕ
  pub number : ℕ

unfoldable pub draws_key : List ℕ → List ℕ → List ℕ
draws_key seed name = hmac_sha256 seed name

-- the word at a place, from 0
unfoldable pub draw_at : Stream → ℕ → ℕ
draw_at stream place = word_at 10 (words_of_seed stream.key) stream.number place

-- two words are a number, the lower one first
abbrev pub number_at : Stream → ℕ → ℕ
number_at stream place = draw_at stream place + 2 ^ 32 * draw_at stream (place + 1)

abbrev pub word_bytes : Stream → ℕ → List ℕ
word_bytes stream place = to_le_bytes w32 (draw_at stream place)

-- four words are an IV, each with its lowest byte first
unfoldable pub iv_at : Stream → ℕ → List ℕ
iv_at stream place = word_bytes stream place ++ (word_bytes stream (place + 1) ++ (word_bytes stream (place + 2) ++ word_bytes stream (place + 3)))

-- what is drawn for an encrypted value from a place on: a number whose remainder is the factor, the sealed value's IV, the
-- token's, and one for each edge
abbrev pub drawn_at : Stream → ℕ → ℕ → Drawn
drawn_at stream most place = record {
  factor = number_at stream place % (most + 1);
  value_iv = iv_at stream (place + 2);
  token_iv = iv_at stream (place + 6);
  edge_iv = λ i. iv_at stream (place + 10 + 4 * i);
}

-- how many words that takes; a plain value takes none
abbrev pub value_draws : FieldKind → Plain → ℕ
value_draws k.Plain value = 0
value_draws (k.Equality _ _ _ _) value = 10
value_draws (k.Range _ _ _ _ domain) value = 10 + 4 * length (value_edges domain value)

abbrev pub cell_draws : List Field → PlainCell → ℕ
cell_draws fields cell = value_draws (kind_at fields cell.field) cell.value

abbrev pub cells_draws : List Field → List PlainCell → ℕ
cells_draws fields [] = 0
cells_draws fields (cell ∷ cells) = cell_draws fields cell + cells_draws fields cells

-- so many IVs from a place on
abbrev pub ivs_from : Stream → ℕ → ℕ → List (List ℕ)
ivs_from stream zero place = []
ivs_from stream (suc more) place = iv_at stream place ∷ ivs_from stream more (place + 4)
