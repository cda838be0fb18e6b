use Rattle.std.proofs.Common.{◌≡◌, ℕ, min, length, ap, ◌∙◌}
use Rattle.std.specs.Prelude.{bytes_eq, not}
use Rattle.qe_encodes.specs.Payloads.{ecoc_token}
use Rattle.qe_strays.proofs.StrayLemmas.{token_min}
use Rattle.qe_strays.proofs.strays.is_stray.Goals as goal

pub returns : goal.returns
returns c =
    let own : c.in_ok-own.own.0 ≡ ecoc_token (record { schema = c.args.schema.now; keys = c.args.keys.now }) c.args.field =
    c.in_ok-own.ensures
    ∙ ap (λ (n : ℕ). ecoc_token (record { schema = c.args.schema.now; keys = c.args.keys.now }) n)
    (c.min-number.ensures ∙ ap (λ (n : ℕ). min c.args.field n) c.len.ensures.count)
    ∙ token_min c.args.schema.now c.args.keys.now c.args.field in
    c.ne.ensures ∙ (λ i. not (bytes_eq (c.token_for.ensures i) (own i)))
