use Rattle.qe_json_forms.proofs.FormLemmas.{has_members-entries}
use Rattle.qe_json_forms.proofs.forms.has_members.Goals as goal

pub returns-in-Some : goal.returns-in-Some
returns-in-Some c = has_members-entries _ c.in-Some.members.now.entries _ _ c.in-Some.ensures c.len.ensures.len
