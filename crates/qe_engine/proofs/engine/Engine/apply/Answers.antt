use Rattle.std.proofs.Common.{refl, sym, subst, arith}
use Rattle.qe_command_document.specs.CommandDocument.{Fits}
use Rattle.qe_command_fits.proofs.FittingLemmas.{fitting_laws}
use Rattle.qe_engine.specs.Engines.{Engined}
use Rattle.qe_engine.proofs.EngineLemmas.{few_jobs, unchanged_stands, entry_stands, entry_is_in}
use Rattle.qe_engine.proofs.engine.Engine.apply.Goals as goal

pub run-requires-clause-sized : goal.run-requires-clause-sized
run-requires-clause-sized c =
    let schema = c.self.inside.schema in
    let fits : Fits schema c.args.command = subst (λ (engine : Engined). Fits engine.schema c.args.command) (sym c.self.view_is) c.requires.fits in
    (fitting_laws schema c.args.command c.fields-fields.ensures.schema fits).sizes

pub run-requires-clause-last : goal.run-requires-clause-last
run-requires-clause-last c =
    let last = few_jobs c.self.inside.schema c.self.inside.collections c.self.inside.journal.items c.self.invariant in omega arith

pub invariant_of-self-in_err-reply : goal.invariant_of-self-in_err-reply
invariant_of-self-in_err-reply c =
    unchanged_stands c.self.inside.schema c.self.inside.collections c.run.new.self c.self.inside.journal.items c.reserve.new.self.items c.self.invariant
    c.in_err-reply.ensures.err c.in_err-reply.ensures.kept c.reserve.ensures.items

pub invariant_of-self-2 : goal.invariant_of-self-2
invariant_of-self-2 c =
    let schema = c.self.inside.schema in
    let kept = c.self.inside.collections in
    let made = c.in_ok-reply.field-0 in
    let fits : Fits schema c.args.command = subst (λ (engine : Engined). Fits engine.schema c.args.command) (sym c.self.view_is) c.requires.fits in
    entry_stands schema kept c.run.new.self c.self.inside.journal.items c.reserve.new.self.items c.push_within.new.journal.items
    c.args.caller c.args.command c.args.nonces.now c.in_ok-kept.kept made.reply made.counts made.opened c.outcome_of.result made
    c.self.invariant c.reserve.ensures.items fits c.requires.nonces c.in_ok-kept.ensures refl refl refl c.outcome_of.ensures c.in_ok-reply.ensures.ok
    c.push_within.ensures c.in_ok-reply.ensures.made

pub returns-clause-ok : goal.returns-clause-ok
returns-clause-ok c =
    let schema = c.self.inside.schema in
    let kept = c.self.inside.collections in
    let made = c.in_ok-reply.field-0 in
    let fits : Fits schema c.args.command = subst (λ (engine : Engined). Fits engine.schema c.args.command) (sym c.self.view_is) c.requires.fits in
    entry_is_in schema kept c.run.new.self c.self.inside.journal.items c.reserve.new.self.items c.push_within.new.journal.items
    c.args.caller c.args.command c.args.nonces.now c.in_ok-kept.kept made.reply made.counts made.opened c.outcome_of.result made
    c.self.invariant c.reserve.ensures.items fits c.requires.nonces c.in_ok-kept.ensures refl refl refl c.outcome_of.ensures c.in_ok-reply.ensures.ok
    c.push_within.ensures c.args.self.now _ c.self.view_is refl
