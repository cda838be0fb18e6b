use Rattle.std.proofs.Common.{[], ◌∷◌, ◌++◌, map, sym, ap, ◌∙◌}
use Rattle.std.proofs.lemmas.List.{map_push}
use Rattle.qe_value.specs.Views.{plain, field_view}
use Rattle.qe_value.proofs.DistinctLemmas.{values_kept}
use Rattle.qe_value.proofs.NameLemmas.{is_named-view, Distinct-push}
use Rattle.qe_value.proofs.value.Document.push.Goals as goal

pub returns-then-has_name-clause-duplicate : goal.returns-then-has_name-clause-duplicate
returns-then-has_name-clause-duplicate c = λ _.
    let tested = rw (c.as_str.ensures.value, c.deref.ensures.value, c.self.view_is) at c.has_name.ensures in
    sym tested ∙ c.if-has_name.true

pub invariant_of-self-2 : goal.invariant_of-self-2
invariant_of-self-2 c =
    let tested = rw (c.as_str.ensures.value, c.deref.ensures.value) at c.has_name.ensures in
    let fields = c.self.inside.fields.items in
    rw (c.in_ok-push.ensures.items) (
      Distinct-push fields (c.args.name, c.args.value) c.self.invariant.0 (sym (is_named-view _ fields) ∙ sym tested ∙ c.if-has_name.false),
      values_kept fields (c.args.name, c.args.value) c.self.invariant.1 c.keeps_names.ensures,
    )

pub returns-clause-ok : goal.returns-clause-ok
returns-clause-ok c =
    let tested = rw (c.as_str.ensures.value, c.deref.ensures.value, c.self.view_is) at c.has_name.ensures in (
      sym tested ∙ c.if-has_name.false,
      ap (λ fs. map field_view fs) c.in_ok-push.ensures.items ∙ map_push field_view c.self.inside.fields.items (c.args.name, c.args.value) ∙ ap (λ fs. fs ++ (c.args.name, plain c.args.value) ∷ []) c.self.view_is,
    )
