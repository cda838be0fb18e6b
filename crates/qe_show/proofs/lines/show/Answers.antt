use Rattle.std.proofs.Common.{◌≡◌, ◌++◌, ◌∷◌, [], sym, ap, ◌∙◌, refl, append_assoc, append-nil}
use Rattle.qe_show.proofs.LineLemmas.{is_none, is_some, shows_empty, not_hex_empty, shows_line, not_hex_line, not_hex_here}
use Rattle.qe_show.proofs.lines.show.Goals as goal

pub loop-passed-preserved-then-is_empty : goal.loop-passed-preserved-then-is_empty
loop-passed-preserved-then-is_empty c =
    let line = c.in-Some.line.now in
    let empty = is_none line c.if-is_empty.ensures in (
      λ rest shows. c.loop-passed.invariant.0 rest (shows_empty _ _ c.in-Some.passed line rest c.in-Some.ensures.next empty shows),
      c.loop-passed.invariant.1 ∙ not_hex_empty _ _ c.in-Some.passed line c.in-Some.ensures.next empty,
    )

pub returns-in_default-2-clause-fault : goal.returns-in_default-2-clause-fault
returns-in_default-2-clause-fault c =
    let line = c.in-Some.line.now in
    c.loop-passed.invariant.1
    ∙ not_hex_here _ _ c.in-Some.passed line c.in-Some.ensures.next (is_some line c.if-is_empty.ensures) (sym c.in_ok-blob.ensures ∙ c.in_default-2.is)

pub loop-passed-preserved : goal.loop-passed-preserved
loop-passed-preserved c =
    let line = c.in-Some.line.now in
    let text = c.loop-passed.text in
    let some = is_some line c.if-is_empty.ensures in
    let spelled = sym c.in_ok-blob.ensures ∙ c.in-Some-2.is in
    let shown = rw (c.slice.ensures) at c.in_ok-shown.ensures in
    let grown : c.extend-in-Some.new.self ≡ (text ++ c.in_ok-shown.shown) ++ 10 ∷ [] =
    c.in_ok-extend-2.ensures.ok ∙ ap (λ now. now ++ 10 ∷ []) (c.in_ok-extend.ensures.ok ∙ ap (λ more. text ++ more) c.slice-in-Some.ensures) in (
      λ rest shows. rw (grown, append_assoc (text ++ c.in_ok-shown.shown) (10 ∷ []) rest, append_assoc text c.in_ok-shown.shown (10 ∷ rest))
          (c.loop-passed.invariant.0 (c.in_ok-shown.shown ++ 10 ∷ rest)
          (shows_line _ _ c.in-Some.passed line _ _ rest c.in-Some.ensures.next some spelled shown shows)),
      c.loop-passed.invariant.1 ∙ not_hex_line _ _ c.in-Some.passed line _ c.in-Some.ensures.next some spelled,
    )

pub returns-clause-shown : goal.returns-clause-shown
returns-clause-shown c =
    rw (sym (append-nil c.loop-passed.text)) (c.loop-passed.invariant.0 [] (rw (c.in_default.ensures.next) refl))
