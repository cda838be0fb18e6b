use Rattle.std.proofs.Common.{[]}
use Rattle.qe_serving.proofs.ChangeLemmas.{find_ids, find_rows}
use Rattle.qe_serving.proofs.collections.Collections.find.Goals as goal

pub returns-then-ids : goal.returns-then-ids
returns-then-ids c =
    find_ids c.args.self.now c.args.filter.now c.new-counts.result c.search.new.counts c.in_ok-numbers.numbers c.new-counts.ensures c.in_ok-numbers.ensures
    c.args.ids c.if-ids.true [] c.in_ok-ids.ids c.slice.result.now c.slice.ensures c.in_ok-ids.ensures c.searched.result c.searched.ensures

pub returns : goal.returns
returns c =
    find_rows c.args.self.now c.args.filter.now c.new-counts.result c.search.new.counts c.in_ok-numbers.numbers c.new-counts.ensures c.in_ok-numbers.ensures
    c.args.ids c.if-ids.false [] c.in_ok-rows.rows c.slice-2.result.now c.slice-2.ensures c.in_ok-rows.ensures c.searched-2.result c.searched-2.ensures
