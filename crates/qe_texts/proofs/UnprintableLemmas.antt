-- Which replies can't be printed.
use Rattle.std.proofs.Common.{◌≡◌, ◌↔◌, ℕ, List, [], ◌∷◌, ◌++◌, length, map, Bool, true, false, refl, sym, ap, ◌∙◌, subst}
use Rattle.std.specs.List.{list_any}
use Rattle.std.specs.Prelude.{Result, Ok, Err, codes, ◌||◌}
use Rattle.serde_json.specs.Data.{Data, Members, no_members, put, object}
use Rattle.qe_value.specs.declared.value.Plain.{Plain}
use Rattle.qe_bson.specs.declared.extended_json.fault.JsonFault.{JsonFault}
use Rattle.qe_bson.specs.declared.extended_json.fault.JsonFault.TheVariants as j
use Rattle.qe_bson.specs.JsonReading.{then}
use Rattle.qe_bson.specs.JsonWriting.{json_of, json_field, members_from, object_data, formless}
use Rattle.qe_bson.proofs.JsonFormlessLemmas.{json_of-unprintable, json_of-fault}
use Rattle.qe_plain.specs.declared.command.PlainCell.{PlainCell}
use Rattle.qe_plain.specs.declared.command.PlainDocument.{PlainDocument}
use Rattle.qe_plain.specs.declared.command.PlainReply.{PlainReply}
use Rattle.qe_plain.specs.declared.command.PlainReply.TheVariants as r
use Rattle.qe_field.specs.declared.field.Field.{Field}
use Rattle.qe_schema.specs.Judgements.{bind, gather, ahead}
use Rattle.qe_texts.specs.declared.fault.PrintFault.{PrintFault}
use Rattle.qe_texts.specs.declared.fault.PrintFault.TheVariants as f
use Rattle.qe_texts.specs.Documents.{cell_element, elements_of, text_of, value_text, document_json, document_text}
use Rattle.qe_texts.specs.Phrases.{counted}
use Rattle.qe_texts.specs.Replies.{spaced_document, spaced_value, reply_line}
use Rattle.qe_texts.specs.Unprintable.{is_formless_cell, is_formless, holds_formless}

-- the test tells whether the answer is the one fault, or a value
Tells : {A E : Type 0} → E → Bool → Result A E → Type 0
Tells fault true answer = answer ≡ Err fault
Tells {A = A} fault false answer = (x : A) × (answer ≡ Ok x)

-- so the fault comes exactly where the test holds
exactly : {A E : Type 0} (fault : E) (test : Bool) (answer : Result A E) → Tells fault test answer → (answer ≡ Err fault) ↔ (test ≡ true)
unfolding Tells
exactly fault true answer told = (λ _. refl, λ _. told)
exactly fault false answer told = (λ h. let e : Ok told.0 ≡ Err fault = sym told.1 ∙ h in cc, λ h. cc)

-- a value
value_told : (value : Plain) → Tells j.Unprintable (formless value) (json_of value)
unfolding Tells
value_told value = by_test (json_of value) refl (formless value) (json_of-unprintable value) (json_of-fault value)
  where
    by_test : (answer : Result Data JsonFault) → json_of value ≡ answer → (test : Bool) → (json_of value ≡ Err j.Unprintable) ↔ (test ≡ true)
        → ((fault : JsonFault) → json_of value ≡ Err fault → fault ≡ j.Unprintable) → Tells j.Unprintable test (json_of value)
    by_test answer is true both alone = both.1 refl
    by_test (Ok d) is false both alone = (d, is)
    by_test (Err fault) is false both alone =
        let one = alone fault is in
        let e : false ≡ true = both.0 (is ∙ ap Err one) in cc

-- the second judgement is of what the first gave
both_told : {A B E : Type 0} (fault : E) (first : Result A E) (next : A → Result B E) (one two : Bool) → Tells fault one first
    → ((x : A) → Tells fault two (next x)) → Tells fault (one || two) (bind first next)
unfolding Tells
both_told fault first next true two told later = rw told refl
both_told fault first next false two told later = rw told.1 (later told.0)

then_told : {A B : Type 0} (first : Result A JsonFault) (next : A → Result B JsonFault) (one two : Bool) → Tells j.Unprintable one first
    → ((x : A) → Tells j.Unprintable two (next x)) → Tells j.Unprintable (one || two) (then next first)
unfolding Tells
then_told first next true two told later = rw told refl
then_told first next false two told later = rw told.1 (later told.0)

-- a value that comes behind
passed : {A B E : Type 0} (fault : E) (first : Result A E) (next : A → B) (one : Bool) → Tells fault one first
    → Tells fault one (bind first (λ x. Ok (next x)))
unfolding Tells
passed fault first next true told = rw told refl
passed fault first next false told = (next told.0, rw told.1 refl)

abbrev formless_element : List ℕ × Plain → Bool
formless_element element = formless element.1

members_told : (elements : List (List ℕ × Plain)) (before : Members)
    → Tells j.Unprintable (list_any formless_element elements) (members_from before (map json_field elements))
unfolding Tells
members_told [] before = (before, refl)
members_told (element ∷ elements) before =
    then_told (json_of element.1) (λ d. members_from (put element.0 d before) (map json_field elements)) (formless element.1) (list_any formless_element elements)
    (value_told element.1) (λ d. members_told elements (put element.0 d before))

cells_alike : (fields : List Field) (cells : List PlainCell)
    → list_any formless_element (map (cell_element fields) cells) ≡ list_any is_formless_cell cells
cells_alike fields [] = refl
cells_alike fields (cell ∷ cells) = ap (λ rest. formless cell.value || rest) (cells_alike fields cells)

objects_told : (test : Bool) (members : Result Members JsonFault) → Tells j.Unprintable test members → Tells j.Unprintable test (then object_data members)
unfolding Tells
objects_told true members told = rw told refl
objects_told false members told = (object told.0, rw told.1 refl)

json_told : (fields : List Field) (document : PlainDocument) → Tells j.Unprintable (is_formless document) (document_json fields document)
json_told fields document =
    let told = members_told (elements_of fields document) no_members in
    objects_told (is_formless document) (members_from no_members (map json_field (elements_of fields document)))
    (subst (λ (b : Bool). Tells j.Unprintable b (members_from no_members (map json_field (elements_of fields document))))
    (ap (λ rest. formless document.id || rest) (cells_alike fields document.cells)) told)

text_told : (test : Bool) (json : Result Data JsonFault) → Tells j.Unprintable test json → Tells f.Unprintable test (text_of json)
unfolding Tells
text_told true json told = rw told refl
text_told false (Ok d) told = (_, refl)
text_told false (Err fault) told = let wrong = told.1 in cc

gathered_told : {A : Type 0} (judge : A → Result (List ℕ) PrintFault) (test : A → Bool) → ((x : A) → Tells f.Unprintable (test x) (judge x))
    → (xs : List A) → Tells f.Unprintable (list_any test xs) (gather judge xs)
unfolding Tells
gathered_told judge test each [] = ([], refl)
gathered_told judge test each (x ∷ xs) =
    both_told f.Unprintable (judge x) (λ ys. bind (gather judge xs) (λ zs. Ok (ys ++ zs))) (test x) (list_any test xs) (each x)
    (λ ys. passed f.Unprintable (gather judge xs) (λ zs. ys ++ zs) (list_any test xs) (gathered_told judge test each xs))

ahead_told : (front : List ℕ) (test : Bool) (rest : Result (List ℕ) PrintFault) → Tells f.Unprintable test rest → Tells f.Unprintable test (ahead front rest)
unfolding Tells
ahead_told front true rest told = rw told refl
ahead_told front false rest told = (front ++ told.0, rw told.1 refl)

document_told : (fields : List Field) (document : PlainDocument) → Tells f.Unprintable (is_formless document) (spaced_document fields document)
unfolding spaced_document
document_told fields document =
    passed f.Unprintable (document_text fields document) (λ bytes. 32 ∷ bytes) (is_formless document)
    (text_told (is_formless document) (document_json fields document) (json_told fields document))

id_told : (value : Plain) → Tells f.Unprintable (formless value) (spaced_value value)
id_told value = passed f.Unprintable (value_text value) (λ bytes. 32 ∷ bytes) (formless value) (text_told (formless value) (json_of value) (value_told value))

reply_told : (fields : List Field) (reply : PlainReply) → Tells f.Unprintable (holds_formless reply) (reply_line fields reply)
unfolding Tells reply_line
reply_told fields r.Inserted = (_, refl)
reply_told fields r.DuplicateId = (_, refl)
reply_told fields (r.Updated n) = (_, refl)
reply_told fields (r.Deleted n) = (_, refl)
reply_told fields (r.Found documents) =
    ahead_told (counted (codes "found") (length documents)) (list_any is_formless documents) (gather (spaced_document fields) documents)
    (gathered_told (spaced_document fields) is_formless (document_told fields) documents)
reply_told fields (r.Ids ids) = ahead_told (codes "ids") (list_any formless ids) (gather spaced_value ids) (gathered_told spaced_value formless id_told ids)
reply_told fields (r.Begun n) = (_, refl)
reply_told fields (r.Stepped n) = (_, refl)
reply_told fields (r.Ended n) = (_, refl)
reply_told fields r.Abandoned = (_, refl)
reply_told fields (r.JobRunning n) = (_, refl)
reply_told fields (r.NoJob asked running) = (_, refl)
reply_told fields (r.TokenMissing i) = (_, refl)
reply_told fields (r.TokenMismatch i) = (_, refl)
reply_told fields (r.NotDone n) = (_, refl)
reply_told fields (r.Raised n) = (_, refl)
reply_told fields (r.NotRaised asked current) = (_, refl)
reply_told fields (r.ContentionBelow i got current) = (_, refl)
reply_told fields (r.ContentionOver i got current) = (_, refl)

-- exactly the replies with a double, a decimal or a timestamp
pub unprintable : (fields : List Field) (reply : PlainReply) → (reply_line fields reply ≡ Err f.Unprintable) ↔ (holds_formless reply ≡ true)
unprintable fields reply = exactly f.Unprintable (holds_formless reply) (reply_line fields reply) (reply_told fields reply)
