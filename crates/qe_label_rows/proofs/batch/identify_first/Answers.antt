use Rattle.std.proofs.Common.{[], get_or, ap, ◌∙◌}
use Rattle.qe_lanes.specs.declared.keys.LaneKey.{LaneKey}
use Rattle.qe_label_rows.specs.Batches.{key_at}
use Rattle.qe_label_rows.specs.Made.{identifier_under}
use Rattle.qe_label_rows.proofs.KeyLemmas.{key_in}
use Rattle.qe_label_rows.proofs.batch.identify_first.Goals as goal

pub returns : goal.returns
returns c = record {
  made = λ words are.
      let none : LaneKey = record { inner = []; outer = [] } in
      c.write_identifiers.ensures.made (λ r. identifier_under c.args.kind (key_at c.args.kind words r.word) r.number) (λ lane d low within.
      let row = get_or c.args.rows.now lane d in
      let key = key_at c.args.kind words row.word in
      c.identifiers-made.ensures lane key low
      (c.put_keys.ensures lane d none key low within (key_in c.args.kind c.args.keys.now words row.word none _ are (c.requires lane d within)))
      ∙ ap (identifier_under c.args.kind key) (c.first_numbers.ensures lane d low within));
  words = c.write_identifiers.ensures.words _ c.requires;
}
