use Rattle.std.proofs.Common.{◌≡◌, ◌+◌, ◌-◌, ◌*◌, ◌++◌, ℕ, [], ◌∷◌, ap, ap₂, ◌∙◌, arith}
use Rattle.qe_encodes.specs.Draws.{Stream, iv_at, ivs_from}
use Rattle.qe_keyring.specs.Drawing.{Drawing, further}
use Rattle.qe_keyring.proofs.WordLemmas.{ivs_next}
use Rattle.qe_keyring.proofs.draws.Draws.ivs.Goals as goal

pub loop-preserved : goal.loop-preserved
loop-preserved c =
    let old = c.args.self.now in
    let done = c.loop.counter in
    let at : ℕ → Drawing = λ place. record { stream = old.stream; place = place } in
    let here : c.loop.self ≡ at (old.place + 4 * done) = c.loop.invariant.place in
    let stream : c.loop.self.stream ≡ old.stream = ap (λ (d : Drawing). d.stream) here in
    let next : c.iv.new.self ≡ at (old.place + 4 * (done + 1)) = c.iv.ensures.next ∙ ap (λ (d : Drawing). further d 4) here ∙ ap at (omega arith) in
    let made : c.push.new.self ≡ c.loop.ivs ++ iv_at old.stream c.loop.self.place ∷ [] =
    c.in_ok-push.ensures.ok ∙ ap (λ one. c.loop.ivs ++ one ∷ []) (c.iv.ensures.iv ∙ ap (λ (s : Stream). iv_at s c.loop.self.place) stream) in
    let place : c.iv.new.self.place ≡ c.loop.self.place + 4 = ap (λ (d : Drawing). d.place) c.iv.ensures.next in
    record {
      so_far =
          ap₂ (λ front place. front ++ ivs_from old.stream (c.args.count - (done + 1)) place) made place
          ∙ ivs_next old.stream c.loop.ivs _ c.args.count done c.loop.self.place c.loop-test.true c.loop.invariant.so_far;
      place = next;
    }
