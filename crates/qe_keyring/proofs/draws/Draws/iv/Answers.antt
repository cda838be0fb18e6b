use Rattle.std.proofs.Common.{◌≡◌, ◌+◌, ℕ, List, ap, ◌∙◌, arith}
use Rattle.std.specs.Int.{w32, to_le_bytes}
use Rattle.qe_encodes.specs.Draws.{draw_at}
use Rattle.qe_keyring.specs.Drawing.{Drawing, further}
use Rattle.qe_keyring.proofs.WordLemmas.{iv_listed}
use Rattle.qe_keyring.proofs.draws.Draws.iv.Goals as goal

pub returns-clause-iv : goal.returns-clause-iv
returns-clause-iv c =
    let old = c.args.self.now in
    let at : ℕ → Drawing = λ place. record { stream = old.stream; place = place } in
    let next : Drawing → Drawing = λ drawing. further drawing 1 in
    let bytes : Drawing → List ℕ = λ drawing. to_le_bytes w32 (draw_at drawing.stream drawing.place) in
    let one : c.word.new.self ≡ at (old.place + 1) = c.word.ensures.next in
    let two : c.word-2.new.self ≡ at (old.place + 2) = c.word-2.ensures.next ∙ ap next one ∙ ap at (omega arith) in
    let three : c.word-3.new.self ≡ at (old.place + 3) = c.word-3.ensures.next ∙ ap next two ∙ ap at (omega arith) in
    iv_listed old.stream old.place c.to_le_bytes-a.result c.to_le_bytes-b.result c.to_le_bytes-c.result c.to_le_bytes-d.result
    (c.to_le_bytes-a.ensures ∙ ap (to_le_bytes w32) c.word.ensures.word)
    (c.to_le_bytes-b.ensures ∙ ap (to_le_bytes w32) c.word-2.ensures.word ∙ ap bytes one)
    (c.to_le_bytes-c.ensures ∙ ap (to_le_bytes w32) c.word-3.ensures.word ∙ ap bytes two)
    (c.to_le_bytes-d.ensures ∙ ap (to_le_bytes w32) c.word-4.ensures.word ∙ ap bytes three)
