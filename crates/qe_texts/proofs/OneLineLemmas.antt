-- A reply is one line.
use Rattle.std.proofs.Common.{◌≡◌, ℕ, zero, suc, List, [], ◌∷◌, ◌++◌, length, Bool, true, false, refl, subst, arith}
use Rattle.std.proofs.lemmas.Bool.{and_from, and_parts}
use Rattle.std.specs.Char.{is_ascii_alphabetic, is_ascii_alphanumeric}
use Rattle.std.specs.Fmt.{decimal}
use Rattle.std.specs.Prelude.{All, Result, Ok, Err, codes, nat_le, slice_index, ◌==◌, ◌||◌, ◌&&◌, cond}
use Rattle.serde_json.specs.Data.{Data}
use Rattle.serde_json.specs.Written.{compact_text}
use Rattle.qe_value.specs.declared.value.Plain.{Plain}
use Rattle.qe_bson.specs.declared.extended_json.fault.JsonFault.{JsonFault}
use Rattle.qe_bson.specs.JsonWriting.{json_of}
use Rattle.qe_plain.specs.declared.command.PlainDocument.{PlainDocument}
use Rattle.qe_plain.specs.declared.command.PlainReply.{PlainReply}
use Rattle.qe_plain.specs.declared.command.PlainReply.TheVariants as r
use Rattle.qe_field.specs.declared.field.Field.{Field}
use Rattle.qe_schema.specs.Judgements.{bind, gather, ahead}
use Rattle.qe_schema.specs.Names.{is_word, is_path}
use Rattle.qe_schema.specs.Schema.{IsField, IsSchema}
use Rattle.qe_texts.specs.declared.fault.PrintFault.{PrintFault}
use Rattle.qe_field.specs.Lookup.{path_of}
use Rattle.qe_texts.specs.Documents.{text_of, value_text, document_json, document_text}
use Rattle.qe_texts.specs.OneLine.{is_no_feed, is_one_line}
use Rattle.qe_texts.specs.Phrases.{counted, named, twice_counted}
use Rattle.qe_texts.specs.Replies.{spaced, spaced_document, spaced_value, ended_line, reply_line}
use Rattle.qe_texts.proofs.JsonLineLemmas.{joined, no_feed, decimal_line, json_line}

word_byte : (byte : ℕ) → (is_ascii_alphanumeric byte || byte == 95) ≡ true → is_no_feed byte ≡ true
word_byte byte e = no_feed byte (λ is. let wrong : false ≡ true = subst (λ (b : ℕ). (is_ascii_alphanumeric b || b == 95) ≡ true) is e in cc)

word_line : (text : List ℕ) → is_word text ≡ true → is_one_line text ≡ true
word_line [] e = refl
word_line (byte ∷ text) e =
    let parts = and_parts (is_ascii_alphanumeric byte || byte == 95) (is_word text) e in
    and_from (is_no_feed byte) (is_one_line text) (word_byte byte parts.0) (word_line text parts.1)

path_line : (path : List ℕ) → is_path path ≡ true → is_one_line path ≡ true
path_line path e =
    word_line path (and_parts (nat_le (length path) 64 && is_ascii_alphabetic (slice_index path 0)) (is_word path) e).1

-- the path of a field of a schema, or none
path_of_line : (fields : List Field) (i : ℕ) → All IsField fields → is_one_line (path_of fields i) ≡ true
path_of_line [] i each = refl
path_of_line (field ∷ fields) zero each = path_line field.path (each 0 field (omega arith)).path
path_of_line (field ∷ fields) (suc i) each = path_of_line fields i (λ k d lt. each (suc k) d (omega arith))

counted_line : (phrase : List ℕ) (n : ℕ) → is_one_line phrase ≡ true → is_one_line (counted phrase n) ≡ true
counted_line phrase n line = joined phrase (codes " " ++ decimal n) line (joined (codes " ") (decimal n) refl (decimal_line n))

named_line : (phrase name : List ℕ) → is_one_line phrase ≡ true → is_one_line name ≡ true → is_one_line (named phrase name) ≡ true
named_line phrase name line named_so = joined phrase (codes " " ++ name) line (joined (codes " ") name refl named_so)

twice_line : (phrase : List ℕ) (first second : ℕ) → is_one_line phrase ≡ true → is_one_line (twice_counted phrase first second) ≡ true
twice_line phrase first second line =
    joined phrase (codes " " ++ (decimal first ++ (codes " " ++ decimal second))) line
    (joined (codes " ") (decimal first ++ (codes " " ++ decimal second)) refl
    (joined (decimal first) (codes " " ++ decimal second) (decimal_line first)
    (joined (codes " ") (decimal second) refl (decimal_line second))))

text_line : (json : Result Data JsonFault) (text : List ℕ) → text_of json ≡ Ok text → is_one_line text ≡ true
text_line (Ok d) text h = let e : compact_text d ≡ text = cc in subst (λ (t : List ℕ). is_one_line t ≡ true) e (json_line d)
text_line (Err fault) text h = cc

spaced_line : (text : Result (List ℕ) PrintFault) (line : List ℕ) → ((bytes : List ℕ) → text ≡ Ok bytes → is_one_line bytes ≡ true)
    → spaced text ≡ Ok line → is_one_line line ≡ true
spaced_line (Ok bytes) line each h = let e : 32 ∷ bytes ≡ line = cc in subst (λ (t : List ℕ). is_one_line t ≡ true) e (each bytes refl)
spaced_line (Err fault) line each h = cc

gathered_line : {A : Type 0} (judge : A → Result (List ℕ) PrintFault) → ((x : A) (part : List ℕ) → judge x ≡ Ok part → is_one_line part ≡ true)
    → (xs : List A) (line : List ℕ) → gather judge xs ≡ Ok line → is_one_line line ≡ true
gathered_line judge each [] line h = let e : [] ≡ line = cc in subst (λ (t : List ℕ). is_one_line t ≡ true) e refl
gathered_line judge each (x ∷ xs) line h = first (judge x) (each x) (gather judge xs) (gathered_line judge each xs) h
  where
    first : (one : Result (List ℕ) PrintFault) → ((part : List ℕ) → one ≡ Ok part → is_one_line part ≡ true)
        → (rest : Result (List ℕ) PrintFault) → ((part : List ℕ) → rest ≡ Ok part → is_one_line part ≡ true)
        → bind one (λ ys. bind rest (λ zs. Ok (ys ++ zs))) ≡ Ok line → is_one_line line ≡ true
    first (Err fault) one_line rest rest_line e = cc
    first (Ok ys) one_line (Err fault) rest_line e = cc
    first (Ok ys) one_line (Ok zs) rest_line e =
        let all : ys ++ zs ≡ line = cc in
        subst (λ (t : List ℕ). is_one_line t ≡ true) all (joined ys zs (one_line ys refl) (rest_line zs refl))

ahead_line : (front : List ℕ) (rest : Result (List ℕ) PrintFault) (line : List ℕ) → is_one_line front ≡ true
    → ((part : List ℕ) → rest ≡ Ok part → is_one_line part ≡ true) → ahead front rest ≡ Ok line → is_one_line line ≡ true
ahead_line front (Ok zs) line first each h =
    let all : front ++ zs ≡ line = cc in
    subst (λ (t : List ℕ). is_one_line t ≡ true) all (joined front zs first (each zs refl))
ahead_line front (Err fault) line first each h = cc

document_line : (fields : List Field) (document : PlainDocument) (line : List ℕ) → spaced_document fields document ≡ Ok line → is_one_line line ≡ true
unfolding spaced_document
document_line fields document line h = spaced_line (document_text fields document) line (text_line (document_json fields document)) h

value_line : (value : Plain) (line : List ℕ) → spaced_value value ≡ Ok line → is_one_line line ≡ true
value_line value line h = spaced_line (value_text value) line (text_line (json_of value)) h

-- a line that is made without a fault
made : (text line : List ℕ) → is_one_line text ≡ true → (the : Result (List ℕ) PrintFault) → the ≡ Ok text → the ≡ Ok line → is_one_line line ≡ true
made text line so the is h = let e : text ≡ line = cc in subst (λ (t : List ℕ). is_one_line t ≡ true) e so

ended : (leaves : ℕ) → is_one_line (ended_line leaves) ≡ true
ended leaves = by_test (leaves == 0)
  where
    by_test : (b : Bool) → is_one_line (cond b (codes "ended") (counted (codes "ended leaves") leaves)) ≡ true
    by_test true = refl
    by_test false = counted_line (codes "ended leaves") leaves refl

pub reply_is_line : (fields : List Field) (reply : PlainReply) (line : List ℕ) → IsSchema fields → reply_line fields reply ≡ Ok line → is_one_line line ≡ true
unfolding reply_line
reply_is_line fields r.Inserted line is h = made (codes "inserted") line refl (Ok (codes "inserted")) refl h
reply_is_line fields r.DuplicateId line is h = made (codes "duplicate") line refl (Ok (codes "duplicate")) refl h
reply_is_line fields (r.Updated n) line is h = made _ line (counted_line (codes "updated") n refl) _ refl h
reply_is_line fields (r.Deleted n) line is h = made _ line (counted_line (codes "deleted") n refl) _ refl h
reply_is_line fields (r.Found documents) line is h =
    ahead_line (counted (codes "found") (length documents)) (gather (spaced_document fields) documents) line (counted_line (codes "found") (length documents) refl)
    (gathered_line (spaced_document fields) (document_line fields) documents) h
reply_is_line fields (r.Ids ids) line is h = ahead_line (codes "ids") (gather spaced_value ids) line refl (gathered_line spaced_value value_line ids) h
reply_is_line fields (r.Begun n) line is h = made _ line (counted_line (codes "begun") n refl) _ refl h
reply_is_line fields (r.Stepped n) line is h = made _ line (counted_line (codes "stepped") n refl) _ refl h
reply_is_line fields (r.Ended n) line is h = made _ line (ended n) _ refl h
reply_is_line fields r.Abandoned line is h = made (codes "abandoned") line refl (Ok (codes "abandoned")) refl h
reply_is_line fields (r.JobRunning n) line is h = made _ line (counted_line (codes "job running") n refl) _ refl h
reply_is_line fields (r.NoJob asked running) line is h = made _ line (twice_line (codes "no job") asked running refl) _ refl h
reply_is_line fields (r.TokenMissing i) line is h = made _ line (named_line (codes "token missing") (path_of fields i) refl (path_of_line fields i is.each)) _ refl h
reply_is_line fields (r.TokenMismatch i) line is h = made _ line (named_line (codes "token mismatch") (path_of fields i) refl (path_of_line fields i is.each)) _ refl h
reply_is_line fields (r.NotDone n) line is h = made _ line (counted_line (codes "not done") n refl) _ refl h
reply_is_line fields (r.Raised n) line is h = made _ line (counted_line (codes "raised") n refl) _ refl h
reply_is_line fields (r.NotRaised asked current) line is h = made _ line (twice_line (codes "not raised") asked current refl) _ refl h
reply_is_line fields (r.ContentionBelow i got current) line is h =
    made _ line (twice_line (named (codes "contention below") (path_of fields i)) got current
    (named_line (codes "contention below") (path_of fields i) refl (path_of_line fields i is.each))) _ refl h
reply_is_line fields (r.ContentionOver i got current) line is h =
    made _ line (twice_line (named (codes "contention over") (path_of fields i)) got current
    (named_line (codes "contention over") (path_of fields i) refl (path_of_line fields i is.each))) _ refl h
