use Rattle.std.proofs.lemmas.Result.{on_ok_weaker}
use Rattle.qe_make.specs.Rules.{insert, update, delete, find_age, find_scores, maintenance, written_for}
use Rattle.qe_make.proofs.DraftLemmas.{then, last}
use Rattle.qe_make.proofs.rules.Draft.write_for.Goals as goal

pub returns : goal.returns
unfolding written_for
returns c =
    let n = c.args.documents in
    let i = c.args.i in
    let d0 = c.args.self.now in
    let d1 = c.insert.new.self in
    let d2 = c.update.new.self in
    let d3 = c.delete.new.self in
    let d4 = c.find_age.new.self in
    let d5 = c.find_scores.new.self in
    let d6 = c.maintain.new.self in
    on_ok_weaker c.maintain.result
    (λ adds. then (insert i) _ d0 d1 d6 c.in_ok-insert.ensures
    (then (update i) _ d1 d2 d6 c.in_ok-update.ensures
    (then (delete i) _ d2 d3 d6 c.in_ok-delete.ensures
    (then (find_age i) _ d3 d4 d6 c.in_ok-find_age.ensures
    (then (find_scores i) _ d4 d5 d6 c.in_ok-find_scores.ensures (last (maintenance n i) d5 d6 adds))))))
    c.maintain.ensures
