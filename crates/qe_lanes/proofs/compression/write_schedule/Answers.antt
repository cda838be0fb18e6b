use Rattle.std.proofs.Common.{ℕ, ◌<◌, List, [], length, drop, slice_index, ap, sym, ◌∙◌, arith, length-append, length-drop}
use Rattle.std.proofs.lemmas.List.{get_or_append_left, length-set}
use Rattle.sha2.proofs.Schedule256.{slice_index-schedule_first}
use Rattle.qe_lanes.specs.Lanes.{word_in}
use Rattle.qe_lanes.proofs.RowLemmas.{scheduled_next}
use Rattle.qe_lanes.proofs.compression.write_schedule.Goals as goal

pub loop-t-init : goal.loop-t-init
loop-t-init c = (
  omega (arith, length-append c.copy_from_slice.new.self (drop 16 c.args.w.now), length-drop 16 c.args.w.now, c.copy_from_slice.ensures.len),
  λ lane bytes lt has k below.
      let within : k < length c.copy_from_slice.new.self = omega (arith, c.copy_from_slice.ensures.len) in
      ap (λ (row : List ℕ). slice_index row lane) (get_or_append_left c.copy_from_slice.new.self _ [] k within)
      ∙ ap (λ (rows : List (List ℕ)). word_in rows k lane) c.copy_from_slice.ensures.after ∙ has.words k below ∙ sym (slice_index-schedule_first bytes 48 k below),
)

pub loop-t-preserved : goal.loop-t-preserved
loop-t-preserved c = (
  length-set c.loop-t.w c.loop-t.t c.next_row.result ∙ c.loop-t.invariant.0,
  λ lane bytes lt has. scheduled_next c.loop-t.w c.next_row.result bytes c.loop-t.t lane (omega arith) (omega arith) c.loop-t.invariant.0
      (c.loop-t.invariant.1 lane bytes lt has) (c.next_row.ensures lane lt),
)

pub returns : goal.returns
returns c = λ lane bytes lt has. record { words = λ k below. c.loop-t.invariant.1 lane bytes lt has k (omega arith) }
