-- Values and documents as JSON without spaces, in the forms of MongoDB Extended JSON v2.
use Rattle.std.specs.Prelude.{ℕ, List, ◌∷◌, map, codes, Result, Ok, Err}
use Rattle.serde_json.specs.Data.{Data, Members}
use Rattle.serde_json.specs.Written.{compact_text}
use Rattle.qe_value.specs.declared.value.Plain.{Plain}
use Rattle.qe_bson.specs.declared.extended_json.fault.JsonFault.{JsonFault}
use Rattle.qe_bson.specs.JsonWriting.{json_of, json_field, json_object, members_from}
use Rattle.qe_plain.specs.declared.command.PlainCell.{PlainCell}
use Rattle.qe_plain.specs.declared.command.PlainDocument.{PlainDocument}
use Rattle.qe_field.specs.declared.field.Field.{Field}
use Rattle.qe_field.specs.Lookup.{path_of}
use Rattle.qe_texts.specs.declared.fault.PrintFault.{PrintFault}
use Rattle.qe_texts.specs.declared.fault.PrintFault.TheVariants as f

abbrev pub cell_element : List Field → PlainCell → List ℕ × Plain
cell_element fields cell = (path_of fields cell.field, cell.value)

-- a document has its id under `_id` and each cell under its field's path
abbrev pub elements_of : List Field → PlainDocument → List (List ℕ × Plain)
elements_of fields document = (codes "_id", document.id) ∷ map (cell_element fields) document.cells

-- these members with the cells put in, so that names stand in rising byte order
abbrev pub with_cells : List Field → List PlainCell → Members → Result Members JsonFault
with_cells fields cells before = members_from before (map json_field (map (cell_element fields) cells))

-- what has no JSON isn't printed
abbrev pub text_of : Result Data JsonFault → Result (List ℕ) PrintFault
text_of (Ok d) = Ok (compact_text d)
text_of (Err fault) = Err f.Unprintable

abbrev pub value_text : Plain → Result (List ℕ) PrintFault
value_text value = text_of (json_of value)

abbrev pub document_json : List Field → PlainDocument → Result Data JsonFault
document_json fields document = json_object (map json_field (elements_of fields document))

abbrev pub document_text : List Field → PlainDocument → Result (List ℕ) PrintFault
document_text fields document = text_of (document_json fields document)
