use Rattle.std.proofs.Common.{◌≡◌, length, true, false, take, drop, sym, ap, ◌∙◌, rules}
use Rattle.std.specs.Prelude.{bytes_eq}
use Rattle.std.proofs.lemmas.Result.{err_from_is_err_and}
use Rattle.qe_field.specs.Judgements.{bind, refuse_as}
use Rattle.qe_seal.specs.Sealed.{opened_value}
use Rattle.qe_value.specs.Reading.{alone_at}
use Rattle.qe_opening.specs.declared.fault.ReadKind.TheVariants.{Bson, Seal}
use Rattle.qe_opening.specs.Opening.{value_sealed, value_sent}
use Rattle.qe_opening.proofs.ValueLemmas.{refuses_bson, refuses_seal, value_sent-other, value_sent-own}
use Rattle.qe_opening.proofs.opening.unsealed.Goals as goal

pub returns-in_default : goal.returns-in_default
returns-in_default c =
    let key = c.args.key.now in
    let sent = c.args.sent.now in
    let long : length key.key_id ≡ 16 = search rules in
    let differs : bytes_eq (take 16 sent) key.key_id ≡ false = rw (c.as_slice.ensures, long) at (c.in_default.ensures.cases) in
    value_sent-other key c.args.kind sent differs

pub returns-in_err-bytes : goal.returns-in_err-bytes
returns-in_err-bytes c =
    let key = c.args.key.now in
    let kind = c.args.kind in
    let sent = c.args.sent.now in
    let sealed = c.in-Some.sealed.now in
    let long : length key.key_id ≡ 16 = search rules in
    let same : bytes_eq (take 16 sent) key.key_id ≡ true = rw (c.as_slice.ensures, long) at (c.in-Some.ensures.cases.0) in
    let rest : sealed ≡ drop 16 sent = rw (c.as_slice.ensures, long) at (c.in-Some.ensures.cases.1) in
    let due : value_sent key kind sent ≡ value_sealed key kind sealed = value_sent-own key kind sent sealed same rest in
    let p = err_from_is_err_and c.from_residual.result c.from_residual.ensures.1 in
    rw (p.1, p.2, due) (refuses_seal (λ bytes. refuse_as Bson (alone_at kind bytes)) c.in_err-bytes.field-0.0 (opened_value key.key key.key_id sealed) c.in_err-bytes.ensures)

pub returns-in_err-value : goal.returns-in_err-value
returns-in_err-value c =
    let key = c.args.key.now in
    let kind = c.args.kind in
    let sent = c.args.sent.now in
    let sealed = c.in-Some.sealed.now in
    let long : length key.key_id ≡ 16 = search rules in
    let same : bytes_eq (take 16 sent) key.key_id ≡ true = rw (c.as_slice.ensures, long) at (c.in-Some.ensures.cases.0) in
    let rest : sealed ≡ drop 16 sent = rw (c.as_slice.ensures, long) at (c.in-Some.ensures.cases.1) in
    let due : value_sent key kind sent ≡ refuse_as Bson (alone_at kind c.slice.result.now) =
    value_sent-own key kind sent sealed same rest
    ∙ ap (λ r. bind (refuse_as Seal r) (λ bytes. refuse_as Bson (alone_at kind bytes))) c.in_ok-bytes.ensures
    ∙ ap (λ bytes. refuse_as Bson (alone_at kind bytes)) (sym c.slice.ensures) in
    let p = err_from_is_err_and c.from_residual-in_err-value.result c.from_residual-in_err-value.ensures.1 in
    rw (p.1, p.2, due) (refuses_bson c.in_err-value.field-0.0 (alone_at kind c.slice.result.now) c.in_err-value.ensures.exact)

pub returns : goal.returns
returns c =
    let key = c.args.key.now in
    let kind = c.args.kind in
    let sent = c.args.sent.now in
    let sealed = c.in-Some.sealed.now in
    let long : length key.key_id ≡ 16 = search rules in
    let same : bytes_eq (take 16 sent) key.key_id ≡ true = rw (c.as_slice.ensures, long) at (c.in-Some.ensures.cases.0) in
    let rest : sealed ≡ drop 16 sent = rw (c.as_slice.ensures, long) at (c.in-Some.ensures.cases.1) in
    value_sent-own key kind sent sealed same rest
    ∙ ap (λ r. bind (refuse_as Seal r) (λ bytes. refuse_as Bson (alone_at kind bytes))) c.in_ok-bytes.ensures
    ∙ ap (λ bytes. refuse_as Bson (alone_at kind bytes)) (sym c.slice.ensures)
    ∙ ap (refuse_as Bson) c.in_ok-value.ensures.exact
