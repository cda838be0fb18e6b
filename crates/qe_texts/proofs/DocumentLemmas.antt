-- The text of a document's JSON.
use Rattle.std.proofs.Common.{◌≡◌, List, false, Ok, ◌∙◌}
use Rattle.serde_json.specs.Data.{Data}
use Rattle.serde_json.specs.Written.{has_float}
use Rattle.qe_value.specs.declared.value.Plain.TheVariants as p
use Rattle.qe_bson.proofs.JsonFloatLemmas.{json_of-no_float}
use Rattle.qe_bson.proofs.JsonPrintLemmas.{json_of-Doc}
use Rattle.qe_plain.specs.declared.command.PlainDocument.{PlainDocument}
use Rattle.qe_field.specs.declared.field.Field.{Field}
use Rattle.qe_texts.specs.Documents.{elements_of, document_json}

-- no float stands in it
pub document_json-no_float : (fields : List Field) (document : PlainDocument) (d : Data) → document_json fields document ≡ Ok d → has_float d ≡ false
document_json-no_float fields document d made =
    json_of-no_float (p.Doc (elements_of fields document)) d (json_of-Doc (elements_of fields document) ∙ made)
