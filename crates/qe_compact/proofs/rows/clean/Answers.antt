use Rattle.std.proofs.Common.{◌≡◌, sym, ap, ◌∙◌, Some, if◌then◌else◌, true, false}
use Rattle.std.specs.FinMap.{insert}
use Rattle.std.proofs.lemmas.Result.{on_ok_weaker}
use Rattle.qe_esc.specs.Changes.{changed}
use Rattle.qe_esc.specs.Identifiers.{id_of}
use Rattle.qe_esc.specs.Pairs.{sealed_pair}
use Rattle.qe_esc.specs.declared.key.RowKind.TheVariants.{Anchor}
use Rattle.qe_esc.proofs.ChangesLemmas.{changed-insert}
use Rattle.qe_protocol.specs.Counting.{counted}
use Rattle.qe_protocol.specs.Units.{is_cleaned, last_anchor}
use Rattle.qe_compact.specs.Drafts.{count_of}
use Rattle.qe_compact.proofs.SearchLemmas.{last_is, number_is, cleaned_is}
use Rattle.qe_compact.proofs.rows.clean.Goals as goal

pub returns-then-is_cleaned : goal.returns-then-is_cleaned
returns-then-is_cleaned c =
    let rows = changed c.args.esc.now.rows c.args.changes.now in
    let search = c.args.search.now in
    let count = count_of search in
    let last = c.last_anchor-last.ensures ∙ last_is rows search c.requires in
    let number = c.number-number.ensures ∙ number_is rows search c.requires in
    let yes : is_cleaned rows count ≡ true = sym (cleaned_is rows search c.requires _ _ last number) ∙ sym c.is_cleaned.ensures ∙ c.if-is_cleaned.true in
    sym (ap (λ b. if b then rows else insert rows (id_of Anchor count.token 0) (Some (sealed_pair count.token c.args.nonce.now (last_anchor rows count) (counted rows count)))) yes)

pub returns : goal.returns
returns c =
    let rows = changed c.args.esc.now.rows c.args.changes.now in
    let search = c.args.search.now in
    let count = count_of search in
    let last = c.last_anchor-last.ensures ∙ last_is rows search c.requires in
    let number = c.number-number.ensures ∙ number_is rows search c.requires in
    let no : is_cleaned rows count ≡ false = sym (cleaned_is rows search c.requires _ _ last number) ∙ sym c.is_cleaned.ensures ∙ c.if-is_cleaned.false in
    let value : c.null_value-value.result ≡ sealed_pair count.token c.args.nonce.now (last_anchor rows count) (counted rows count) =
    c.null_value-value.ensures ∙ (λ i. sealed_pair (c.new-key.ensures i) c.args.nonce.now (last i) (number i)) in
    let id : c.id.result ≡ id_of Anchor count.token 0 = c.id.ensures ∙ ap (λ token. id_of Anchor token 0) c.new-key.ensures in
    on_ok_weaker c.write.result
    (λ (is : c.write.new.self ≡ insert c.args.changes.now c.id.result (Some (Some c.null_value-value.result))).
    ap (changed c.args.esc.now.rows) is ∙ changed-insert c.args.esc.now.rows c.args.changes.now c.id.result (Some (Some c.null_value-value.result))
    ∙ (λ i. insert rows (id i) (Some (value i)))
    ∙ sym (ap (λ b. if b then rows else insert rows (id_of Anchor count.token 0) (Some (sealed_pair count.token c.args.nonce.now (last_anchor rows count) (counted rows count)))) no))
    c.write.ensures.ok
