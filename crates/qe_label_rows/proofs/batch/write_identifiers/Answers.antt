use Rattle.std.proofs.Common.{◌≡◌, ◌<◌, [], length, get_or, min, ◌∙◌, arith}
use Rattle.qe_label_rows.proofs.RowLemmas.{identified_first, identified_next, words_set}
use Rattle.qe_label_rows.proofs.batch.write_identifiers.Goals as goal

pub loop-lane-preserved : goal.loop-lane-preserved
loop-lane-preserved c =
    let within : c.loop-lane.lane < length c.args.rows.now = omega arith in
    let there : c.loop-lane.lane < length c.loop-lane.rows = omega arith in
    let identifier = get_or c.args.identifiers.now c.loop-lane.lane [] in (
      λ f are. identified_next f c.args.rows.now c.loop-lane.rows c.loop-lane.lane _ identifier within (c.loop-lane.invariant.0 f are)
          (are c.loop-lane.lane _ (omega arith) within),
      λ count known. words_set count c.loop-lane.lane c.loop-lane.rows _ identifier there (c.loop-lane.invariant.1 count known),
    )

pub returns : goal.returns
returns c = record {
  made = λ f are.
      let all : c.loop-lane.lane ≡ min 16 (length c.args.rows.now) = omega arith in
      c.loop-lane.invariant.0 f are ∙ identified_first f c.args.rows.now c.loop-lane.lane all;
  words = c.loop-lane.invariant.1;
}
