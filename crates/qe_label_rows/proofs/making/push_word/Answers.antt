use Rattle.std.proofs.Common.{◌≡◌, ◌++◌, List, map, OnOk, subst}
use Rattle.qe_label_rows.specs.Batches.{blank}
use Rattle.qe_label_rows.specs.Made.{key_for}
use Rattle.qe_label_rows.specs.declared.row.Row.{Row}
use Rattle.qe_label_rows.proofs.RowLemmas.{anchors_are}
use Rattle.qe_label_rows.proofs.making.push_word.Goals as goal

pub returns-in-Anchor : goal.returns-in-Anchor
returns-in-Anchor c =
    subst (λ (rows : List Row). OnOk c.push_numbers-in-Anchor.result (c.push_numbers-in-Anchor.new.rows.items ≡ c.args.rows.now.items ++ map blank rows))
    (anchors_are c.args.kind c.args.word c.args.tokens.now c.in-Anchor.is) (c.push_numbers-in-Anchor.ensures (key_for c.args.kind c.args.tokens.now))
