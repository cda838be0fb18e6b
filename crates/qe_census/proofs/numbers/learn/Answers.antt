use Rattle.std.proofs.Common.{sym, ◌∙◌}
use Rattle.qe_census.proofs.EntryLemmas.{learned_known, learned_new}
use Rattle.qe_census.proofs.numbers.learn.Goals as goal

pub returns-then-contains_key : goal.returns-then-contains_key
returns-then-contains_key c = learned_known c.args.numbers.now.entries c.args.key (sym c.contains_key.ensures ∙ c.if-contains_key.true)

pub returns : goal.returns
returns c =
    learned_new c.args.numbers.now.entries c.insert.new.self.entries c.args.key (sym c.contains_key.ensures ∙ c.if-contains_key.false)
    c.in_ok-insert.ensures.updates.0
