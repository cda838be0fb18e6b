use Rattle.std.proofs.Common.{◌≡◌, ◌+◌, ◌≤◌, ◌++◌, List, ℕ, length, Ok, sym, ap, ◌∙◌, arith}
use Rattle.std.proofs.lemmas.Bool.{leb-true, leb-false}
use Rattle.std.proofs.lemmas.List.{length-append}
use Rattle.std.proofs.lemmas.Result.{err_from_is_err_and}
use Rattle.qe_value.specs.Spelling.{document_bytes}
use Rattle.qe_encode.proofs.RefusalLemmas.{too_deep, has_zero, written_then, part_refuses}
use Rattle.qe_encode.proofs.writing.document_out.Goals as goal

-- what stands in front is not counted
few : (front bytes new : List ℕ) → new ≡ front ++ bytes → length new ≤ 16777216 + length front → length bytes ≤ 16777216
few front bytes new is le = omega (arith, ap (λ (b : List ℕ). length b) is, length-append front bytes)

pub returns-in_err-put_document-clause-exact : goal.returns-in_err-put_document-clause-exact
returns-in_err-put_document-clause-exact c =
    let p = err_from_is_err_and c.from_residual-in_err-put_document.result c.from_residual-in_err-put_document.ensures.1 in
    let fs = c.args.document.now in
    let front = c.args.front.now in
    let began : c.extend_from_slice.new.self.items ≡ front = rw c.new-out.ensures.items at c.in_ok-extend_from_slice.ensures.items in
    rw (p.1, p.2) (part_refuses fs (front ++ document_bytes fs) (16777216 + length front) c.in_err-put_document.field-0.0 (document_bytes fs) c.extend_from_slice.new.self.items c.put_document.new.out.items
    (omega (arith, ap (λ (b : List ℕ). length b) began)) c.in_err-put_document.ensures)

pub returns-then-not-is_within-clause-exact : goal.returns-then-not-is_within-clause-exact
returns-then-not-is_within-clause-exact c =
    let fs = c.args.document.now in
    let front = c.args.front.now in
    let began : c.extend_from_slice.new.self.items ≡ front = rw c.new-out.ensures.items at c.in_ok-extend_from_slice.ensures.items in
    let written = rw began at c.in_ok-put_document.ensures in
    too_deep fs (front ++ document_bytes fs) (few front (document_bytes fs) c.put_document.new.out.items written.0 written.1) (leb-false _ _ (sym c.is_within.ensures ∙ c.if-not-is_within.true))

pub returns-then-has_zero-clause-exact : goal.returns-then-has_zero-clause-exact
returns-then-has_zero-clause-exact c =
    let fs = c.args.document.now in
    let front = c.args.front.now in
    let began : c.extend_from_slice.new.self.items ≡ front = rw c.new-out.ensures.items at c.in_ok-extend_from_slice.ensures.items in
    let written = rw began at c.in_ok-put_document.ensures in
    has_zero fs (front ++ document_bytes fs) (few front (document_bytes fs) c.put_document.new.out.items written.0 written.1) (leb-true _ _ (sym c.is_within.ensures ∙ c.if-not-is_within.false))
    (sym c.has_zero.ensures.zero ∙ c.if-has_zero.true)

pub returns-clause-exact : goal.returns-clause-exact
returns-clause-exact c =
    let fs = c.args.document.now in
    let front = c.args.front.now in
    let began : c.extend_from_slice.new.self.items ≡ front = rw c.new-out.ensures.items at c.in_ok-extend_from_slice.ensures.items in
    let written = rw began at c.in_ok-put_document.ensures in
    written_then fs (front ++ document_bytes fs) (few front (document_bytes fs) c.put_document.new.out.items written.0 written.1) (leb-true _ _ (sym c.is_within.ensures ∙ c.if-not-is_within.false))
    (sym c.has_zero.ensures.zero ∙ c.if-has_zero.false)
    ∙ ap (λ b. Ok b) (sym (c.from_vec.ensures ∙ written.0))
