use Rattle.std.proofs.Common.{ℕ, List, ◌-◌, ap, sym, ◌∙◌, arith, Option, Some, None}
use Rattle.std.proofs.lemmas.List.{length-map}
use Rattle.qe_field.specs.declared.field.Field.{Field}
use Rattle.qe_layout.specs.declared.malformed.Kind.{Kind}
use Rattle.qe_command_document.proofs.SlotLemmas.{doc_row}
use Rattle.qe_command_document.proofs.documents.DocLayoutLayout.row.Goals as goal

pub returns-else-place-eq0 : goal.returns-else-place-eq0
returns-else-place-eq0 c =
    let place = c.args.place in
    let fields = c.args.self.now.fields.now in
    let none : Option Kind = None in
    let long = length-map {B = List ℕ × Option Kind} fields (λ (field : Field). (field.path, none)) in
    ap (λ path. Some (path, none)) c.as_str.ensures.value
    ∙ ap (λ (field : Field). Some (field.path, none)) (sym c.index-self-place.is)
    ∙ doc_row fields (place - 1) place c.index-self-place.result (omega (arith, c.if-place-eq0.false)) (omega (arith, c.requires, c.if-place-eq0.false, long)) c.index-self-place.is
