use Rattle.std.proofs.Common.{refl, ap, ◌∙◌, arith}
use Rattle.serde_json.specs.View.{view}
use Rattle.serde_json.specs.Written.{has_float}
use Rattle.qe_make.specs.Made.{made}
use Rattle.qe_make.specs.Rules.{written_for}
use Rattle.qe_make.proofs.DraftLemmas.{next_left, none_left, made_is}
use Rattle.qe_make.proofs.FloatLemmas.{header_is_whole}
use Rattle.qe_make.proofs.script.make.Goals as goal

pub add-requires : goal.add-requires
add-requires c = ap has_float c.in_ok-header.ensures ∙ header_is_whole _

pub loop-i-preserved : goal.loop-i-preserved
loop-i-preserved c =
    let n = c.from-count.result in
    λ new later. c.loop-i.invariant new
    (next_left (written_for n) n c.loop-i.i c.loop-i.draft c.write_for.new.self new c.loop-i-test.true c.in_ok-write_for.ensures later)

pub returns : goal.returns
returns c =
    let n = c.from-count.result in
    let all = c.loop-i.invariant c.loop-i.draft (none_left (written_for n) n c.loop-i.i c.loop-i.draft (omega arith)) in
    record {
      exact = made_is n c.args.seed (view c.in_ok-header.header) _ c.add.new.self c.loop-i.draft c.new.ensures refl c.in_ok-header.ensures c.in_ok-add.ensures all
          ∙ ap (λ count. made count c.args.seed) c.from-count.ensures;
    }
