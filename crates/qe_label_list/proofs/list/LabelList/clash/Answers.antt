use Rattle.std.proofs.Common.{◌≡◌, List, map, None, Some, sym, ap, ◌∙◌}
use Rattle.qe_labels.specs.Clashes.{first_repeat, same_key}
use Rattle.qe_label_list.specs.Keys.{key_at}
use Rattle.qe_label_rows.specs.declared.row.Row.{Row}
use Rattle.qe_label_list.proofs.PairLemmas.{found_within, the_none, the_pair}
use Rattle.qe_label_list.proofs.list.LabelList.clash.Goals as goal

pub label-requires : goal.label-requires
label-requires c =
    let found : Some (c.in-Some.first, c.in-Some.second) ≡ first_repeat same_key (map key_at c.self.inside.rows.items) =
    sym c.in-Some.is ∙ c.in_ok-first.ensures ∙ ap (λ (rows : List Row). first_repeat same_key (map key_at rows)) c.deref.ensures.value in
    (found_within c.self.inside.words.items c.self.inside.rows.items c.args.self.now c.in-Some.first c.in-Some.second c.self.view_is found).0

pub label-requires-in-Some : goal.label-requires-in-Some
label-requires-in-Some c =
    let found : Some (c.in-Some.first, c.in-Some.second) ≡ first_repeat same_key (map key_at c.self.inside.rows.items) =
    sym c.in-Some.is ∙ c.in_ok-first.ensures ∙ ap (λ (rows : List Row). first_repeat same_key (map key_at rows)) c.deref.ensures.value in
    (found_within c.self.inside.words.items c.self.inside.rows.items c.args.self.now c.in-Some.first c.in-Some.second c.self.view_is found).1

pub returns-in_ok-other-in-Some : goal.returns-in_ok-other-in-Some
returns-in_ok-other-in-Some c =
    let found : Some (c.in-Some.first, c.in-Some.second) ≡ first_repeat same_key (map key_at c.self.inside.rows.items) =
    sym c.in-Some.is ∙ c.in_ok-first.ensures ∙ ap (λ (rows : List Row). first_repeat same_key (map key_at rows)) c.deref.ensures.value in
    the_pair c.self.inside.words.items c.self.inside.rows.items c.args.self.now c.in-Some.first c.in-Some.second c.in_ok-one-in-Some.one
    c.in_ok-other-in-Some.other c.self.view_is found (λ d. c.in_ok-one-in-Some.ensures d) (λ d. c.in_ok-other-in-Some.ensures d)

pub returns-in-None : goal.returns-in-None
returns-in-None c =
    let none : None ≡ first_repeat same_key (map key_at c.self.inside.rows.items) =
    sym c.in-None.is ∙ c.in_ok-first.ensures ∙ ap (λ (rows : List Row). first_repeat same_key (map key_at rows)) c.deref.ensures.value in
    the_none c.self.inside.words.items c.self.inside.rows.items c.args.self.now c.self.view_is none
