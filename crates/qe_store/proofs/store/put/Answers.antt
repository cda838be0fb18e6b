use Rattle.std.proofs.Common.{subst}
use Rattle.qe_store.specs.Parts.{IsPlace}
use Rattle.qe_store.proofs.PlaceLemmas.{set_with, none_with}
use Rattle.qe_store.proofs.store.put.Goals as goal

pub returns-in-Some : goal.returns-in-Some
returns-in-Some c =
    let place = subst (IsPlace c.args.documents.now c.args.number) c.in-Some.is c.place.ensures in
    set_with c.args.documents.now c.requires c.args.number c.in-Some.at c.args.stored (c.args.number, c.args.stored) place.0 (place.1 (c.args.number, c.args.stored))

pub returns-in_default : goal.returns-in_default
returns-in_default c =
    none_with c.args.documents.now c.args.number c.args.stored (subst (IsPlace c.args.documents.now c.args.number) c.in_default.is c.place.ensures)
