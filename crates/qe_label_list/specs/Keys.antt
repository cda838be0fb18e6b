-- What has to differ from row to row.
use Rattle.std.specs.Prelude.{ℕ, List, Bool}
use Rattle.qe_tokens.specs.Labels.{is_tag}
use Rattle.qe_label_rows.specs.declared.row.Row.{Row}

-- the identifier, of tags among themselves, and of all others
abbrev pub key_at : Row → Bool × List ℕ
key_at row = (is_tag row.kind, row.identifier)
