use Rattle.std.proofs.Common.{◌≡◌, ap, ◌∙◌}
use Rattle.std.specs.Option.{option_copied}
use Rattle.std.proofs.lemmas.Result.{err_from_is_err_and}
use Rattle.qe_indexed.specs.Reading.{indexed_at}
use Rattle.qe_opening.specs.Opening.{value_in, value_indexed, value_with}
use Rattle.qe_opening.proofs.ValueLemmas.{refuses_indexed, value_in-read}
use Rattle.qe_opening.proofs.opening.value_in.Goals as goal

pub returns-in_err-indexed : goal.returns-in_err-indexed
unfolding value_in
returns-in_err-indexed c =
    let key = option_copied c.args.key in
    let p = err_from_is_err_and c.from_residual.result c.from_residual.ensures.1 in
    rw (p.1, p.2) (refuses_indexed (value_with key) c.in_err-indexed.field-0.0 (indexed_at c.args.bytes.now) c.in_err-indexed.ensures.exact)

pub returns-in-None : goal.returns-in-None
returns-in-None c =
    value_in-read (option_copied c.args.key) c.args.bytes.now c.in_ok-indexed.indexed c.in_ok-indexed.ensures.exact
    ∙ ap (λ key. value_with (option_copied key) c.in_ok-indexed.indexed) c.in-None.is

pub returns : goal.returns
returns c =
    let due : value_in (option_copied c.args.key) c.args.bytes.now ≡ value_indexed c.in-Some.key.now c.in_ok-indexed.indexed =
    value_in-read (option_copied c.args.key) c.args.bytes.now c.in_ok-indexed.indexed c.in_ok-indexed.ensures.exact
    ∙ ap (λ key. value_with (option_copied key) c.in_ok-indexed.indexed) c.in-Some.is in
    rw due c.opened.ensures
