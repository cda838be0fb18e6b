use Rattle.std.proofs.lemmas.Str.{is_utf8-from_IsUtf8}
use Rattle.qe_base.proofs.text.Text.as_str.Goals as goal

pub returns-clause-utf8 : goal.returns-clause-utf8
returns-clause-utf8 c = rw (← c.self.view_is, ← c.as_str.ensures.value) (is_utf8-from_IsUtf8 _ c.as_str.utf8)
