use Rattle.qe_serving.proofs.ChangeLemmas.{searched_ids, searched_ok}
use Rattle.qe_serving.proofs.collections.Collections.search.Goals as goal

pub matching-requires : goal.matching-requires
matching-requires c =
    searched_ids c.args.self.now c.args.filter.now c.args.counts.now c.search_filter.new.counts c.in_ok-sets.sets c.in_ok-sets.ensures c.requires

pub returns : goal.returns
returns c =
    searched_ok c.args.self.now c.args.filter.now c.args.counts.now c.search_filter.new.counts c.in_ok-sets.sets c.in_ok-sets.ensures
    c.matching.result c.matching.ensures.all c.matching.ensures.first
