use Rattle.std.proofs.Common.{◌≡◌, ◌+◌, ◌++◌, ℕ, List, map, drop, ap, ◌∙◌, arith}
use Rattle.qe_command.specs.declared.cells.SentCell.{SentCell}
use Rattle.qe_encodes.specs.Callers.{Caller}
use Rattle.qe_encodes.specs.Draws.{cell_draws}
use Rattle.qe_encodes.specs.Fields.{kind_at}
use Rattle.qe_encodes.specs.Sending.{cells_sent}
use Rattle.qe_keyring.specs.Drawing.{Drawing}
use Rattle.qe_sending.proofs.CellLemmas.{cells_next, one_sent, one_drawn, words_next, draws_few, rising_next}
use Rattle.qe_sending.proofs.sender.cells_made.Goals as goal

pub push-requires : goal.push-requires
push-requires c =
    (rising_next c.args.cells.now c.loop-cell.cell-index c.cell-item.result c.loop-cell.made c.in_ok-sent.sent c.requires.can.rise c.loop-cell-test.true
    c.cell-item.is c.loop-cell.invariant.fields).0

pub loop-cell-preserved : goal.loop-cell-preserved
loop-cell-preserved c =
    let sender = c.args.sender.now in
    let caller : Caller = record { number = c.args.number; contentions = c.args.contentions.now } in
    let cells = c.args.cells.now in
    let i = c.loop-cell.cell-index in
    let cell = c.cell-item.result in
    let place = c.loop-cell.draws.place in
    let sent = c.in_ok-sent.sent in
    let after : c.sent_value.new.draws.place ≡ place + cell_draws sender.under.schema cell =
    ap (λ (d : Drawing). d.place) c.in_ok-sent.ensures.next
    ∙ ap (λ (words : ℕ). place + words) (one_drawn sender caller cell c.keyring.result.now _ c.keyring.ensures c.value-value.ensures) in
    let one = one_sent sender caller cell place c.keyring.result.now c.leaves.result c.loop-cell.draws.stream c.contention_of-most.result _ sent c.keyring.ensures
    c.leaves.ensures c.loop-cell.invariant.stream c.contention_of-most.ensures c.value-value.ensures c.in_ok-sent.ensures.sent in
    record {
      so_far =
          ap (λ (made : List (ℕ × SentCell)). made ++ cells_sent sender caller (drop (i + 1) cells) c.sent_value.new.draws.place) c.in_ok-push.ensures.ok
          ∙ cells_next sender caller cells i place c.sent_value.new.draws.place cell c.loop-cell.made _ sent c.loop-cell-test.true c.cell-item.is one after
          c.loop-cell.invariant.so_far;
      stream = ap (λ (d : Drawing). d.stream) c.in_ok-sent.ensures.next ∙ c.loop-cell.invariant.stream;
      words = omega (arith, after, words_next sender.under.schema cells i cell c.loop-cell-test.true c.cell-item.is, c.loop-cell.invariant.words);
      small = omega (arith, after, draws_few (kind_at sender.under.schema cell.field) cell.value, c.loop-cell.invariant.small);
      fields =
          ap (map (λ (c : ℕ × SentCell). c.0)) c.in_ok-push.ensures.ok
          ∙ (rising_next cells i cell c.loop-cell.made sent c.requires.can.rise c.loop-cell-test.true c.cell-item.is c.loop-cell.invariant.fields).1;
    }
