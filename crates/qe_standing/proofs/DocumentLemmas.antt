-- Stored documents stand for plain ones after they are added, changed, found and taken out.
use Rattle.std.proofs.Common.{◌≡◌, ℕ, List, [], ◌∷◌, map, true, if◌then◌else◌, refl, sym}
use Rattle.std.specs.Prelude.{nat_lt, ◌==◌}
use Rattle.std.specs.List.{AllZip}
use Rattle.qe_value.specs.declared.value.Plain.{Plain}
use Rattle.qe_value.specs.Views.{plain}
use Rattle.qe_field.specs.Values.{is_id}
use Rattle.qe_plain.specs.Collection.{IsPlainDocument, has_id, on_first, same_value, with_set}
use Rattle.qe_plain.specs.Collection as plainly
use Rattle.qe_plain.specs.declared.command.PlainCell.{PlainCell}
use Rattle.qe_plain.specs.declared.command.PlainDocument.{PlainDocument}
use Rattle.qe_store.specs.declared.stored.Cell.{Cell}
use Rattle.qe_store.specs.declared.stored.Stored.{Stored}
use Rattle.qe_command_document.specs.Values.{value_of}
use Rattle.qe_command_written.proofs.CellLemmas.{tree_again}
use Rattle.qe_protocol.specs.Documents.{document_of, has_document, put_cell, put_cells, with_cells}
use Rattle.qe_protocol.specs.Filters.{same_id}
use Rattle.qe_protocol.specs.Next.{row_of}
use Rattle.qe_labels.specs.Numbers.{Later, Numbers}
use Rattle.qe_labels.specs.Under.{Under}
use Rattle.qe_encodes.specs.Decodes.{Decodes, DecodesCell}
use Rattle.qe_encodes.specs.Meant.{IsSpelled}
use Rattle.qe_standing.specs.Standing.{StandDocuments, StandsCell, StandsDocument}
use Rattle.qe_standing.proofs.CellsLemmas.{cell_later}
use Rattle.qe_standing.proofs.IdLemmas.{ids_same}
use Rattle.qe_standing.proofs.ZipLemmas.{any_same, both_if, map_same, zip_map, zip_weaker}

-- a cell is put among others on both sides
module _ (R : ℕ × Cell → PlainCell → Type 0) (same : (cell : ℕ × Cell) (one : PlainCell) → R cell one → one.field ≡ cell.0) where
  put_zip : (new : ℕ × Cell) (one : PlainCell) → R new one → (cells : List (ℕ × Cell)) (ones : List PlainCell) → AllZip R cells ones
      → AllZip R (put_cell new cells) (plainly.put_cell one ones)
  put_zip new one is [] [] each = (is, tt)
  put_zip new one is [] (o ∷ ones) each = absurd each
  put_zip new one is (cell ∷ cells) [] each = absurd each
  put_zip new one is (cell ∷ cells) (o ∷ ones) each =
      let field = same cell o each.0 in
      let own = same new one is in
      both_if R (nat_lt cell.0 new.0) (nat_lt o.field one.field) (λ i. nat_lt (sym field i) (sym own i))
      (cell ∷ put_cell new cells) (if cell.0 == new.0 then new ∷ cells else new ∷ cell ∷ cells)
      (o ∷ plainly.put_cell one ones) (if o.field == one.field then one ∷ ones else one ∷ o ∷ ones)
      (each.0, put_zip new one is cells ones each.1)
      (both_if R (cell.0 == new.0) (o.field == one.field) (λ i. sym field i == sym own i) (new ∷ cells) (new ∷ cell ∷ cells) (one ∷ ones) (one ∷ o ∷ ones)
      (is, each.1) (is, each))

  pub puts_zip : (cells : List (ℕ × Cell)) (ones : List PlainCell) (set : List (ℕ × Cell)) (news : List PlainCell) → AllZip R cells ones → AllZip R set news
      → AllZip R (put_cells cells set) (plainly.put_cells ones news)
  puts_zip cells ones [] [] each sets = each
  puts_zip cells ones [] (n ∷ news) each sets = absurd sets
  puts_zip cells ones (new ∷ set) [] each sets = absurd sets
  puts_zip cells ones (new ∷ set) (n ∷ news) each sets = puts_zip (put_cell new cells) (plainly.put_cell n ones) set news (put_zip new n sets.0 cells ones each) sets.1

module _ (u : Under) where
  -- documents stand still where numbers grow
  pub document_later : (before after : Numbers) → Later before after → (stored : Stored) (document : PlainDocument)
      → StandsDocument u before stored document → StandsDocument u after stored document
  document_later before after later stored document stands = record {
    decodes = stands.decodes;
    tags = stands.tags;
    cells = zip_weaker (StandsCell u before) (StandsCell u after) (cell_later u before after later) stored.cells document.cells stands.cells;
    ordered = stands.ordered;
    id = stands.id;
    spelled = stands.spelled;
  }

  pub documents_later : (before after : Numbers) → Later before after → (docs : List Stored) (documents : List PlainDocument)
      → StandDocuments u before docs documents → StandDocuments u after docs documents
  documents_later before after later docs documents stand =
      zip_weaker (StandsDocument u before) (StandsDocument u after) (document_later before after later) docs documents stand

  module _ (numbers : Numbers) where
    -- a new document
    pub new_stands : (document : PlainDocument) (cells : List (ℕ × Cell)) → AllZip (DecodesCell u) cells document.cells
        → AllZip (StandsCell u numbers) cells document.cells → IsPlainDocument document → is_id document.id ≡ true → IsSpelled document.id
        → StandsDocument u numbers (document_of (value_of document.id) cells) document
    new_stands document cells decode stand ordered id spelled = record {
      decodes = record { id = sym (tree_again document.id); cells = decode };
      tags = refl;
      cells = stand;
      ordered = ordered;
      id = id;
      spelled = spelled;
    }

    -- a document with other values in some fields
    pub set_stands : (set : List (ℕ × Cell)) (news : List PlainCell) → AllZip (DecodesCell u) set news → AllZip (StandsCell u numbers) set news
        → ((document : PlainDocument) → IsPlainDocument document → IsPlainDocument (with_set news document))
        → (stored : Stored) (document : PlainDocument) → StandsDocument u numbers stored document
        → StandsDocument u numbers (with_cells set stored) (with_set news document)
    set_stands set news decode stand rises stored document stands = record {
      decodes = record {
        id = stands.decodes.id;
        cells = puts_zip (DecodesCell u) (λ cell one is. is.field) stored.cells document.cells set news stands.decodes.cells decode;
      };
      tags = refl;
      cells = puts_zip (StandsCell u numbers) (λ cell one is. is.field) stored.cells document.cells set news stands.cells stand;
      ordered = rises document stands.ordered;
      id = stands.id;
      spelled = stands.spelled;
    }

    -- an id is there exactly where it is plainly
    pub id_there : (docs : List Stored) (documents : List PlainDocument) → StandDocuments u numbers docs documents → (id : Plain) → is_id id ≡ true → IsSpelled id
        → has_document (value_of id) docs ≡ has_id id documents
    id_there docs documents stand id kind spelled =
        any_same (StandsDocument u numbers) (λ (stored : Stored). same_id stored.id (value_of id)) (λ (document : PlainDocument). same_value document.id id)
        (λ stored document stands. ids_same stored.id document.id id stands.decodes.id stands.id stands.spelled kind spelled) docs documents stand

    -- what is found decodes
    pub found_decode : (docs : List Stored) (documents : List PlainDocument) → StandDocuments u numbers docs documents → AllZip (Decodes u) (map row_of docs) documents
    found_decode docs documents stand =
        zip_map (Decodes u) row_of docs documents (zip_weaker (StandsDocument u numbers) (λ stored document. Decodes u (row_of stored) document)
        (λ stored document stands. stands.decodes) docs documents stand)

    pub ids_decode : (docs : List Stored) (documents : List PlainDocument) → StandDocuments u numbers docs documents
        → map (λ (stored : Stored). plain stored.id) docs ≡ map (λ (document : PlainDocument). document.id) documents
    ids_decode docs documents stand =
        map_same (StandsDocument u numbers) (λ (stored : Stored). plain stored.id) (λ (document : PlainDocument). document.id)
        (λ stored document stands. sym stands.decodes.id) docs documents stand
