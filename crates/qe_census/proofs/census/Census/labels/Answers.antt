use Rattle.std.proofs.Common.{◌≡◌, List, ap, ◌∙◌}
use Rattle.std.proofs.lemmas.Result.{IfOk-weaker}
use Rattle.std.specs.FinMap.{entries}
use Rattle.qe_census.specs.declared.event.Event.{Event}
use Rattle.qe_census.specs.Events.{numbers_after}
use Rattle.qe_census.specs.Roots.{roots_from}
use Rattle.qe_census.proofs.LabelLemmas.{made_rising, made_same, made_within}
use Rattle.qe_census.proofs.census.Census.labels.Goals as goal

pub labels_of-requires : goal.labels_of-requires
labels_of-requires c =
    let words : c.in_ok-words.words.items ≡ entries c.args.self.now =
    c.in_ok-words.ensures ∙ ap (λ (events : List Event). entries (numbers_after events)) c.deref.ensures.value ∙ ap entries c.self.view_is in
    let roots : c.deref-2.result.now ≡ roots_from c.args.keys.now 0 c.args.schema.now = c.deref-2.ensures.value ∙ c.in_ok-roots.ensures in
    record {
      rising = made_rising c.args.self.now c.in_ok-words.words.items words;
      within = made_within c.args.schema.now c.args.keys.now c.args.self.now c.requires.fields c.deref-2.result.now c.in_ok-words.words.items roots words;
    }

pub returns : goal.returns
returns c =
    let words : c.in_ok-words.words.items ≡ entries c.args.self.now =
    c.in_ok-words.ensures ∙ ap (λ (events : List Event). entries (numbers_after events)) c.deref.ensures.value ∙ ap entries c.self.view_is in
    let roots : c.deref-2.result.now ≡ roots_from c.args.keys.now 0 c.args.schema.now = c.deref-2.ensures.value ∙ c.in_ok-roots.ensures in
    IfOk-weaker c.labels_of.result _ _
    (λ list is. is ∙ made_same c.args.schema.now c.args.keys.now c.args.self.now c.requires.fields c.deref-2.result.now c.in_ok-words.words.items roots words)
    c.labels_of.ensures
