-- Cells and tokens that are sent may stand in documents.
use Rattle.std.proofs.Common.{◌≡◌, ℕ, Bool, false, List, [], ◌∷◌, None, Some, refl, sym, ap, subst, ◌∙◌, arith}
use Rattle.std.specs.List.{AllByRecursion, AllZip}
use Rattle.qe_value.specs.declared.value.Plain.{Plain}
use Rattle.qe_value.specs.Measures.{depth, zero_in}
use Rattle.qe_field.specs.declared.field.FieldKind.{FieldKind}
use Rattle.qe_field.specs.declared.field.FieldKind.TheVariants as k
use Rattle.qe_field.specs.Lookup.{path_of, path_or_none}
use Rattle.qe_field.specs.Schema.{IsSchema}
use Rattle.qe_plain.specs.declared.command.Pair.{Pair}
use Rattle.qe_plain.specs.declared.command.PlainCell.{PlainCell}
use Rattle.qe_fits.specs.Fits.{is_bad_cell}
use Rattle.qe_schema.specs.Resolved.{IsCell, IsKeptBy, IsPair}
use Rattle.qe_insert.specs.declared.insert.InsertPayload.{InsertPayload}
use Rattle.qe_insert.specs.Insert.{written_insert}
use Rattle.qe_command.specs.declared.cells.SentCell.{SentCell}
use Rattle.qe_command_written.specs.Written.{cell_element, cell_elements, cell_value, token_elements}
use Rattle.qe_command_written.proofs.CellLemmas.{tree_again}
use Rattle.qe_labels.specs.Under.{Under}
use Rattle.qe_encodes.specs.Callers.{Contentions}
use Rattle.qe_encodes.specs.Encodes.{SendsCell}
use Rattle.qe_encodes.specs.Fields.{kind_at, kind_or_plain}
use Rattle.qe_encodes.specs.Items.{bytes_of, value_edges}
use Rattle.qe_encodes.specs.Payloads.{Drawn, ecoc_token, payload_of, sent_edges, sent_tokens, sent_value}
use Rattle.qe_held.specs.Held.{IsHeldCell, IsToken}
use Rattle.qe_held.proofs.NameLemmas.{IsSoundName}
use Rattle.qe_held.proofs.PayloadSound.{insert_bytes}
use Rattle.qe_held.proofs.SoundLemmas.{IsSound, IsSoundElement, binary_sound}
use Rattle.qe_sent_fits.proofs.CellReads.{field_path}
use Rattle.qe_sent_fits.proofs.FitLemmas.{MayStand, may_stand}
use Rattle.qe_sent_fits.proofs.ReadLemmas.{value_edges_few}

module _ (u : Under) (leaves : Bool) where
  value_sound : (field : ℕ) (drawn : Drawn) (kind : FieldKind) (value : Plain) → IsKeptBy value kind → MayStand kind value
      → IsHeldCell (sent_value u leaves field drawn kind value) → IsSound 98 (cell_value (sent_value u leaves field drawn kind value))
  value_sound field drawn k.Plain value kept may held =
      let deep = ap depth (tree_again value) in
      record { fits = held.fits 98 (omega (arith, deep, may.0)) (ap zero_in (tree_again value) ∙ may.1); bytes = held.bytes }
  value_sound field drawn (k.Equality id kind contention greatest) value kept may held =
      let x : InsertPayload = payload_of u field id kind drawn (bytes_of value) None in
      binary_sound 98 6 (written_insert x) (omega arith) (insert_bytes x held refl tt)
  value_sound field drawn (k.Range id kind contention greatest domain) value kept may held =
      let x : InsertPayload = payload_of u field id kind drawn (bytes_of value) (Some (sent_edges u leaves field domain drawn (value_edges domain value) 0)) in
      binary_sound 98 6 (written_insert x) (omega arith)
      (insert_bytes x held refl (value_edges_few u leaves field drawn id kind contention greatest domain value kept))

module _ (u : Under) (leaves : Bool) (contentions : Contentions) (schema : IsSchema u.schema) where
  cell_sound : (cell : PlainCell) (one : ℕ × SentCell) → IsCell u.schema cell → SendsCell u leaves contentions cell one → IsHeldCell one.1
      → is_bad_cell u.schema cell ≡ false → IsSoundElement 98 (cell_element u.schema one)
  cell_sound cell one is sends held good =
      let kind : kind_at u.schema cell.field ≡ is.field.kind = ap kind_or_plain is.there in
      let made : one.1 ≡ sent_value u leaves cell.field sends.drawn is.field.kind cell.value =
      sends.value ∙ ap (λ it. sent_value u leaves cell.field sends.drawn it cell.value) kind in
      let name : path_of u.schema one.0 ≡ is.field.path = ap (path_of u.schema) sends.field ∙ ap path_or_none is.there in
      let path = field_path u.schema schema cell.field is.field is.there in
      let sound = value_sound u leaves cell.field sends.drawn is.field.kind cell.value is.allows (may_stand u.schema cell is.field is.there good) in (
        subst IsSoundName (sym name) path.sound,
        subst (λ (it : SentCell). IsHeldCell it → IsSound 98 (cell_value it)) (sym made) sound held,
      )

  pub cells_sound : (cells : List PlainCell) (sents : List (ℕ × SentCell)) → AllByRecursion (IsCell u.schema) cells → AllZip (SendsCell u leaves contentions) cells sents
      → AllByRecursion (λ one. IsHeldCell one.1) sents → AllByRecursion (λ cell. is_bad_cell u.schema cell ≡ false) cells
      → AllByRecursion (IsSoundElement 98) (cell_elements u.schema sents)
  cells_sound [] [] each sends held good = tt
  cells_sound [] (one ∷ sents) each sends held good = absurd sends
  cells_sound (cell ∷ cells) [] each sends held good = absurd sends
  cells_sound (cell ∷ cells) (one ∷ sents) each sends held good =
      (cell_sound cell one each.0 sends.0 held.0 good.0, cells_sound cells sents each.1 sends.1 held.1 good.1)

  pub tokens_sound : (pairs : List Pair) → AllByRecursion (IsPair u.schema) pairs → AllByRecursion (λ token. IsToken token.token.0) (sent_tokens u pairs)
      → AllByRecursion (IsSoundElement 98) (token_elements u.schema (sent_tokens u pairs))
  tokens_sound [] each held = tt
  tokens_sound (pair ∷ pairs) each held =
      let name : path_of u.schema pair.field ≡ each.0.0.field.path = ap path_or_none each.0.0.there in
      let path = field_path u.schema schema pair.field each.0.0.field each.0.0.there in (
        (subst IsSoundName (sym name) path.sound, binary_sound 98 0 (ecoc_token u pair.sent) (omega arith) held.0.bytes),
        tokens_sound pairs each.1 held.1,
      )
