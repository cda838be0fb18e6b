use Rattle.std.proofs.Common.{◌≡◌, true, false, sym, ap, ◌∙◌}
use Rattle.std.specs.Prelude.{bytes_eq}
use Rattle.qe_indexed.specs.Parts.{Indexed}
use Rattle.qe_seal.specs.Enciphered.{deciphered}
use Rattle.qe_opening.proofs.ValueLemmas.{differ_from_not, same_from_not, value_indexed-other, value_indexed-own}
use Rattle.qe_opening.proofs.opening.opened.Goals as goal

pub returns-then-ne : goal.returns-then-ne
returns-then-ne c =
    let key = c.args.key.now in
    let value = c.args.indexed.now in
    let own = ap (λ (v : Indexed). v.key_id) c.indexed.view_is in
    let differ : bytes_eq value.key_id key.key_id ≡ false = differ_from_not _ (rw own at (c.if-ne.ensures)) in
    value_indexed-other key value differ

pub returns : goal.returns
returns c =
    let key = c.args.key.now in
    let value = c.args.indexed.now in
    let own = ap (λ (v : Indexed). v.key_id) c.indexed.view_is in
    let same : bytes_eq value.key_id key.key_id ≡ true = same_from_not _ (rw own at (sym c.if-ne.false ∙ c.ne.ensures)) in
    let stored = c.slice.ensures ∙ ap (λ (v : Indexed). v.server_value) c.indexed.view_is in
    let sent = c.deref.ensures.value ∙ c.in_ok-sent.ensures ∙ ap (deciphered key.cipher.0) stored in
    let kind = ap (λ (v : Indexed). v.value_kind) c.indexed.view_is in
    rw (value_indexed-own key value _ _ same kind sent) c.unsealed.ensures
