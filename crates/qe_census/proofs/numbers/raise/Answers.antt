use Rattle.std.proofs.Common.{◌≡◌, ap, ◌∙◌}
use Rattle.std.specs.BTreeMap.{is_at}
use Rattle.std.specs.Map.{lookup}
use Rattle.std.specs.Prelude.{unwrap_or}
use Rattle.qe_labels.specs.Numbers.{word_cmp}
use Rattle.qe_census.proofs.EntryLemmas.{raised_by}
use Rattle.qe_census.proofs.numbers.raise.Goals as goal

pub returns : goal.returns
returns c =
    let is : c.unwrap_or-number.result ≡ unwrap_or (lookup (is_at (word_cmp c.args.key)) c.args.numbers.now.entries) 0 =
    c.unwrap_or-number.ensures ∙ ap (λ o. unwrap_or o 0) (c.copied.ensures ∙ c.get.ensures.value) in
    raised_by c.args.numbers.now.entries c.insert.new.self.entries c.args.key c.unwrap_or-number.result c.in_ok-next.next is c.in_ok-next.ensures
    c.in_ok-insert.ensures.updates.0
