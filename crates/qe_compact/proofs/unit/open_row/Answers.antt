use Rattle.std.proofs.Common.{◌≡◌, ◌∷◌, [], ◌++◌, sym, ap, ◌∙◌, drop, ◌+◌}
use Rattle.qe_ecoc.specs.Opening.{opened}
use Rattle.qe_ecoc.specs.declared.opening.Opened.{Opened}
use Rattle.qe_protocol.specs.Units.{token_for, opened_row, leaf_count}
use Rattle.qe_compact.specs.Drafts.{drafted}
use Rattle.qe_compact.proofs.DraftLemmas.{row_taken}
use Rattle.qe_compact.proofs.RowLemmas.{row_mismatched, row_handled}
use Rattle.qe_compact.proofs.unit.open_row.Goals as goal

pub returns-then-is_mismatch-clause-unit : goal.returns-then-is_mismatch-clause-unit
returns-then-is_mismatch-clause-unit c =
    let standing = c.args.standing.now in
    let draft = c.args.draft.now in
    let row = c.args.row.now in
    let tokens = standing.job.now.tokens in
    let opened_is : c.open_entry-opened.result ≡ opened_row tokens row =
    c.open_entry-opened.ensures ∙ ap (λ token. opened token row.value) (c.token_for.ensures ∙ ap (λ sent. token_for sent row.field) c.slice.ensures) in
    row_mismatched standing.job.now.kind tokens c.args.nonce.now (drafted standing.esc.now.rows standing.upkeep.now draft) row (drop (draft.taken.rows + 1) standing.upkeep.now.aside)
    c.open_entry-opened.result c.search_for-search.result c.requires.first opened_is c.search_for-search.ensures.token c.search_for-search.ensures.search
    draft.counts c.push.new.self draft.opened c.push-2.new.self
    c.in_ok-push.ensures.ok (c.in_ok-push-2.ensures.ok ∙ ap (λ field. draft.opened ++ field ∷ []) c.from.ensures) (sym c.is_mismatch.ensures ∙ c.if-is_mismatch.true)

pub returns-clause-unit : goal.returns-clause-unit
returns-clause-unit c =
    let standing = c.args.standing.now in
    let draft = c.args.draft.now in
    let row = c.args.row.now in
    let tokens = standing.job.now.tokens in
    let opened_is : c.open_entry-opened.result ≡ opened_row tokens row =
    c.open_entry-opened.ensures ∙ ap (λ token. opened token row.value) (c.token_for.ensures ∙ ap (λ sent. token_for sent row.field) c.slice.ensures) in
    let leaf = c.leaf_count.ensures ∙ ap (λ (o : Opened). leaf_count o.leaf) opened_is in
    row_handled standing.job.now.kind tokens c.args.nonce.now (drafted standing.esc.now.rows standing.upkeep.now draft) row (drop (draft.taken.rows + 1) standing.upkeep.now.aside)
    c.open_entry-opened.result c.search_for-search.result c.requires.first opened_is c.search_for-search.ensures.token c.search_for-search.ensures.search
    draft.counts c.push.new.self draft.opened c.push-2.new.self
    c.in_ok-push.ensures.ok (c.in_ok-push-2.ensures.ok ∙ ap (λ field. draft.opened ++ field ∷ []) c.from.ensures) (sym c.is_mismatch.ensures ∙ c.if-is_mismatch.false)
    _ (row_taken standing.esc.now.rows standing.upkeep.now draft.plan draft.taken standing.job.now.kind tokens c.handle.new.plan row _ c.args.nonce.now c.leaf_count.result
    c.requires.within c.in_ok-handle.ensures leaf)
