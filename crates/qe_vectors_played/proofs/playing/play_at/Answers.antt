use Rattle.std.proofs.Common.{◌∙◌, List, get_or, sym, ap, subst, true, ◌≡◌}
use Rattle.qe_field.specs.declared.field.Field.{Field}
use Rattle.qe_schema.specs.Fits.{fits}
use Rattle.qe_schema.specs.Resolved.{IsResolved}
use Rattle.qe_encodes.specs.Sending.{Sender}
use Rattle.qe_vectors_played.proofs.PlayedLemmas.{fits_at, resolved_at, schemas_stay}
use Rattle.qe_vectors_played.proofs.playing.play_at.Goals as goal

pub play_line-requires-clause-resolved : goal.play_line-requires-clause-resolved
play_line-requires-clause-resolved c =
    let line = c.index-slice-place.result in
    subst (λ (fields : List Field). IsResolved fields line.command) (sym c.requires.client)
    (resolved_at c.args.script.now c.args.place line c.requires.read c.a_script_is_meant.ensures.meant c.requires.within
    (c.index-slice-place.is ∙ ap (λ lines. get_or lines c.args.place line) c.slice.ensures))

pub play_line-requires-clause-fits : goal.play_line-requires-clause-fits
play_line-requires-clause-fits c =
    let line = c.index-slice-place.result in
    subst (λ (fields : List Field). fits fields line.command ≡ true) (sym c.requires.client)
    (fits_at c.args.script.now c.args.place line c.requires.read c.a_script_is_meant.ensures.meant c.requires.within
    (c.index-slice-place.is ∙ ap (λ lines. get_or lines c.args.place line) c.slice.ensures))

pub returns : goal.returns
returns c =
    let line = c.index-slice-place.result in
    let stay = schemas_stay c.args.client.now c.play_line.new.client c.args.engine.now c.play_line.new.engine line.caller line.command c.play_line.result
    c.play_line.ensures.ok c.play_line.ensures.err in
    record { engine = stay.0 ∙ c.requires.engine; client = ap (λ (sender : Sender). sender.under.schema) stay.1 ∙ c.requires.client }
