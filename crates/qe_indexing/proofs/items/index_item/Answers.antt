use Rattle.std.proofs.Common.{◌≡◌, ℕ, ◌+◌, ◌%◌, ◌^◌, List, ap, ap₂, ◌∙◌, None, rules}
use Rattle.qe_esc.specs.Changes.{with_row}
use Rattle.qe_esc.specs.Identifiers.{id_of}
use Rattle.qe_esc.specs.declared.key.RowKind.TheVariants.{Position}
use Rattle.qe_base.specs.declared.maintenance.Count.{Count}
use Rattle.qe_protocol.specs.Counting.{next_number}
use Rattle.qe_protocol.specs.Indexing.{block_at}
use Rattle.qe_indexing.specs.Plans.{index_in, planned}
use Rattle.qe_indexing.proofs.PlanLemmas.{planned-one}
use Rattle.qe_indexing.proofs.items.index_item.Goals as goal

pub returns : goal.returns
unfolding planned
returns c =
    let found = c.emu_of-found.result in
    let rows = (planned (index_in c.args.standing.now) c.args.plan.now).rows in
    let count : Count = record { token = c.args.item.now.s; hop = found.hop; positions = found.count } in
    let number : c.next_number-number.result ≡ next_number rows count =
    c.next_number-number.ensures ∙ ap (λ (base : ℕ). ((base + found.count) % 2 ^ 64 + 1) % 2 ^ 64) c.emu_of-found.ensures.base in
    let id : c.id-id.result ≡ id_of Position c.args.item.now.s (next_number rows count) =
    c.id-id.ensures ∙ ap₂ (λ (token : List ℕ) (n : ℕ). id_of Position token n) c.new.ensures number in
    record {
      count = count;
      counts = c.in_ok-push-2.ensures.ok;
      is_count = record { searched = search rules; is_true = c.emu_of-found.ensures.counted };
      index =
          planned-one (index_in c.args.standing.now) c.args.plan.now (record { changes = c.plan_position.new.changes; entries = c.push.new.self; counts = c.push-2.new.self }) (id_of Position c.args.item.now.s (next_number rows count)) (record { field = c.args.field; value = c.args.item.now.p }) (c.in_ok-plan_position.ensures.ok ∙ ap (λ id. with_row rows id None) id) c.in_ok-push.ensures.ok;
      block_is = c.block_at.ensures ∙ ap (λ (n : ℕ). block_at c.args.factor c.args.item.now n c.args.nonces.now) number;
    }
