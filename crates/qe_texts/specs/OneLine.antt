-- A reply is one line.
use Rattle.std.specs.Prelude.{◌≡◌, ℕ, ◌==◌, List, Bool, true, not, Ok}
use Rattle.std.specs.List.{list_all}
use Rattle.qe_field.specs.declared.field.Field.{Field}
use Rattle.qe_plain.specs.declared.command.PlainReply.{PlainReply}
use Rattle.qe_schema.specs.Schema.{IsSchema}
use Rattle.qe_texts.specs.Replies.{reply_line}

abbrev pub is_no_feed : ℕ → Bool
is_no_feed byte = not (byte == 10)

-- a text without a line feed
abbrev pub is_one_line : List ℕ → Bool
is_one_line text = list_all is_no_feed text

-- what is printed of a reply under a schema has none
abbrev pub RepliesAreLines : Type 0
RepliesAreLines = (fields : List Field) (reply : PlainReply) (line : List ℕ)
    → IsSchema fields → reply_line fields reply ≡ Ok line → is_one_line line ≡ true
