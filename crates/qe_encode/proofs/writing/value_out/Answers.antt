use Rattle.std.proofs.Common.{◌<◌, ◌≤◌, [], ◌∷◌, List, ℕ, length, Ok, refl, sym, ap, ◌∙◌, arith}
use Rattle.std.proofs.lemmas.Bool.{leb-true, leb-false}
use Rattle.std.proofs.lemmas.Result.{err_from_is_err_and}
use Rattle.qe_value.specs.Measures.{depth}
use Rattle.qe_value.specs.Spelling.{Spelled, spelled}
use Rattle.qe_value.specs.Views.{plain}
use Rattle.qe_value.proofs.AloneLemmas.{alone_length, alone_fits}
use Rattle.qe_encode.specs.Writing.{spell}
use Rattle.qe_encode.proofs.RefusalLemmas.{too_long, too_deep, has_zero, written_then, part_refuses}
use Rattle.qe_encode.proofs.WriteLemmas.{spell_plain}
use Rattle.qe_encode.proofs.writing.value_out.Goals as goal

pub returns-in_err-put_value-clause-exact : goal.returns-in_err-put_value-clause-exact
returns-in_err-put_value-clause-exact c =
    let p = err_from_is_err_and c.from_residual.result c.from_residual.ensures.1 in
    let v = plain c.args.value.now in
    rw (p.1, p.2) (part_refuses (([], v) ∷ []) (spelled v).bytes 16777216 c.in_err-put_value.field-0.0 (spell c.args.value.now).bytes c.new-out.result.items c.put_value.new.out.items
    (omega (arith, alone_length v, ap (λ (s : Spelled). length s.bytes) (spell_plain c.args.value.now), ap (λ (b : List ℕ). length b) c.new-out.ensures.items)) c.in_err-put_value.ensures)

pub returns-then-len-gt-MOST_BYTES-clause-exact : goal.returns-then-len-gt-MOST_BYTES-clause-exact
returns-then-len-gt-MOST_BYTES-clause-exact c =
    let v = plain c.args.value.now in
    let written = rw (c.new-out.ensures.items, ← spell_plain c.args.value.now) at c.in_ok-put_value.ensures in
    too_long (([], v) ∷ []) (spelled v).bytes (omega (arith, alone_length v, ap (λ (b : List ℕ). length b) written.0, c.if-len-gt-MOST_BYTES.true, c.len.ensures, c.put_value.new.out.ok))

pub returns-then-not-value_within-clause-exact : goal.returns-then-not-value_within-clause-exact
returns-then-not-value_within-clause-exact c =
    let v = plain c.args.value.now in
    let written = rw (c.new-out.ensures.items, ← spell_plain c.args.value.now) at c.in_ok-put_value.ensures in
    let deep : 99 < depth v = leb-false _ _ (sym c.value_within.ensures ∙ c.if-not-value_within.true) in
    too_deep (([], v) ∷ []) (spelled v).bytes (omega (arith, alone_length v, ap (λ (b : List ℕ). length b) written.0, c.if-len-gt-MOST_BYTES.false, c.len.ensures, c.put_value.new.out.ok)) (omega (arith, deep))

pub returns-then-value_has_zero-clause-exact : goal.returns-then-value_has_zero-clause-exact
returns-then-value_has_zero-clause-exact c =
    let v = plain c.args.value.now in
    let written = rw (c.new-out.ensures.items, ← spell_plain c.args.value.now) at c.in_ok-put_value.ensures in
    let flat : depth v ≤ 99 = leb-true _ _ (sym c.value_within.ensures ∙ c.if-not-value_within.false) in
    has_zero (([], v) ∷ []) (spelled v).bytes (omega (arith, alone_length v, ap (λ (b : List ℕ). length b) written.0, c.if-len-gt-MOST_BYTES.false, c.len.ensures, c.put_value.new.out.ok)) (omega (arith, flat))
    (rw (sym c.value_has_zero.ensures.zero ∙ c.if-value_has_zero.true) refl)

pub returns-clause-exact : goal.returns-clause-exact
returns-clause-exact c =
    let v = plain c.args.value.now in
    let written = rw (c.new-out.ensures.items, ← spell_plain c.args.value.now) at c.in_ok-put_value.ensures in
    let flat : depth v ≤ 99 = leb-true _ _ (sym c.value_within.ensures ∙ c.if-not-value_within.false) in
    written_then (([], v) ∷ []) (spelled v).bytes (omega (arith, alone_length v, ap (λ (b : List ℕ). length b) written.0, c.if-len-gt-MOST_BYTES.false, c.len.ensures, c.put_value.new.out.ok)) (omega (arith, flat))
    (rw (sym c.value_has_zero.ensures.zero ∙ c.if-value_has_zero.false) refl)
    ∙ ap (λ b. Ok b) (sym (c.from_vec.ensures ∙ written.0))

pub returns-clause-fits : goal.returns-clause-fits
returns-clause-fits c =
    let v = plain c.args.value.now in
    let written = rw (c.new-out.ensures.items, ← spell_plain c.args.value.now) at c.in_ok-put_value.ensures in
    record {
      fits = alone_fits _ (c.value_has_zero.ensures.fits 99 (leb-true _ _ (sym c.value_within.ensures ∙ c.if-not-value_within.false)) c.if-value_has_zero.false);
      short = omega (arith, alone_length v, ap (λ (b : List ℕ). length b) written.0, c.if-len-gt-MOST_BYTES.false, c.len.ensures, c.put_value.new.out.ok);
    }
