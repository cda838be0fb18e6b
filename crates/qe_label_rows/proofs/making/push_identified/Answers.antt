use Rattle.std.proofs.Common.{◌≡◌, ◌-◌, ◌≤◌, ◌++◌, length, map, sym, ap, ◌∙◌, arith}
use Rattle.std.proofs.lemmas.List.{length-append}
use borrow.Rule.Slice.PartMut.{put_mid}
use Rattle.qe_label_rows.specs.Batches.{blank}
use Rattle.qe_label_rows.specs.Made.{rows_of_kind}
use Rattle.qe_label_rows.proofs.KeyLemmas.{keys_many}
use Rattle.qe_label_rows.proofs.RowLemmas.{identified_behind, known_behind, written_behind}
use Rattle.qe_label_rows.proofs.making.push_identified.Goals as goal

pub identify-requires : goal.identify-requires
identify-requires c =
    known_behind (length c.args.keys.now) c.args.kind c.args.words.now c.args.rows.now.items c.deref_mut.result.now c.len-begin.result
    (sym (keys_many c.args.kind c.args.keys.now c.args.words.now c.requires)) (omega arith) (c.deref_mut.ensures.value ∙ c.in_ok-push_kind.ensures)

pub returns : goal.returns
returns c =
    let old = c.args.rows.now.items in
    let now = c.deref_mut.result.now in
    let new = c.identify.new.rows in
    let at = c.len-begin.result in
    let blanks = map blank (rows_of_kind c.args.kind 0 c.args.words.now) in
    let are : now ≡ old ++ blanks = c.deref_mut.ensures.value ∙ c.in_ok-push_kind.ensures in
    let low : at ≤ length now = omega (arith, ap length are, length-append old blanks) in
    written_behind now new c.push_kind.new.rows.items at c.push_kind.new.rows.len (length (put_mid at (length now - at) now new)) low (omega arith) (omega arith)
    ∙ identified_behind c.args.kind c.args.words.now old now new at (omega arith) are (c.identify.ensures c.args.words.now c.requires)
