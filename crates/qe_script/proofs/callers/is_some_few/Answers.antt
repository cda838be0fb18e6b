use Rattle.std.proofs.Common.{refl}
use Rattle.std.proofs.lemmas.Bool.{le-leb}
use Rattle.serde_json.proofs.Views.{items_len-items_view}
use Rattle.qe_script.specs.Callers.{is_some_few}
use Rattle.qe_script.proofs.callers.is_some_few.Goals as goal

pub returns-then-items-ge1 : goal.returns-then-items-ge1
unfolding is_some_few
returns-then-items-ge1 c = rw (items_len-items_view c.args.items.now, le-leb _ _ c.if-items-ge1.true) refl
