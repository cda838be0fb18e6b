use Rattle.std.proofs.Common.{◌≡◌, ◌≤◌, true, false, length, sym, ◌∙◌, arith}
use Rattle.std.specs.Str.{bytes_eq}
use Rattle.std.proofs.lemmas.Bool.{not-true, not-false}
use Rattle.qe_seal.specs.Sealed.{stored_mac}
use Rattle.qe_seal.proofs.SealLemmas.{take-stored_mac, opened_value-differs, opened_value-opens}
use Rattle.qe_seal.proofs.sealed.unseal.Goals as goal

pub returns-then-ne : goal.returns-then-ne
returns-then-ne c =
    let bytes = c.args.sealed.now in
    let long : 64 ≤ length bytes = omega arith in
    let got_is : c.array_at-got.result ≡ stored_mac bytes = c.array_at-got.ensures ∙ take-stored_mac bytes long in
    let differ : bytes_eq c.seal_mac-want.result c.array_at-got.result ≡ false = not-true _ (sym c.ne.ensures ∙ c.if-ne.true) in
    opened_value-differs c.args.key.now c.args.id.now bytes c.seal_mac-want.result c.array_at-got.result long c.seal_mac-want.ensures got_is differ

pub returns : goal.returns
returns c =
    let bytes = c.args.sealed.now in
    let long : 64 ≤ length bytes = omega arith in
    let got_is : c.array_at-got.result ≡ stored_mac bytes = c.array_at-got.ensures ∙ take-stored_mac bytes long in
    let same : bytes_eq c.seal_mac-want.result c.array_at-got.result ≡ true = not-false _ (sym c.ne.ensures ∙ c.if-ne.false) in
    let due = opened_value-opens c.args.key.now c.args.id.now bytes c.seal_mac-want.result c.array_at-got.result long c.seal_mac-want.ensures got_is same in
    rw due c.opened.ensures
