-- What a header, a line and a script that were read are.
use Rattle.std.proofs.Common.{◌≡◌, ℕ, ◌<◌, List, [], ◌∷◌, length, Bool, true, false, cond, Option, None, Some, option_map, refl, subst}
use Rattle.std.proofs.lemmas.Bool.{and_from, eqb-true}
use Rattle.std.specs.List.{AllByRecursion}
use Rattle.std.specs.Prelude.{Result, Ok, Err, IfOk, is_none, nat_eq, codes}
use Rattle.qe_base.specs.Answers.{Answers}
use Rattle.qe_base.specs.Lines.{placed_lines}
use Rattle.qe_field.specs.declared.field.Field.{Field}
use Rattle.qe_plain.specs.declared.command.RawCommand.{RawCommand}
use Rattle.qe_schema.specs.Fits.{job_fits, misfit}
use Rattle.qe_schema.specs.Judgements.{unless, refuse_as}
use Rattle.qe_schema.specs.Keys.{keys_of, roots_from}
use Rattle.qe_schema.specs.Laws.{IsReadAsSchema}
use Rattle.qe_schema.specs.Lookup.{encrypted_numbers}
use Rattle.qe_schema.specs.Reading.{schema_of}
use Rattle.qe_schema.specs.Resolve.{resolved}
use Rattle.qe_schema.specs.Schema.{IsSchema}
use Rattle.qe_schema.specs.declared.fault.KeyFault.TheVariants as key
use Rattle.qe_raw.specs.declared.fault.ScriptFault.{ScriptFault}
use Rattle.qe_raw.specs.declared.fault.ScriptFault.TheVariants as f
use Rattle.qe_raw.specs.declared.fault.ScriptKind.{ScriptKind}
use Rattle.qe_raw.specs.declared.fault.ScriptKind.TheVariants as k
use Rattle.qe_raw.specs.Callers.{caller_in}
use Rattle.qe_raw.specs.Faults.{script_refusal}
use Rattle.qe_raw.specs.Lines.{numbered}
use Rattle.qe_raw.specs.Names.{checked_names}
use Rattle.qe_raw.specs.Objects.{object_of}
use Rattle.qe_raw.specs.Raw.{command_in, object_command, raw_of}
use Rattle.qe_raw.specs.Values.{Fields}
use Rattle.qe_raw.specs.Verbs.{verb_in, rules_of}
use Rattle.qe_script.specs.declared.script.Header.{Header}
use Rattle.qe_script.specs.declared.script.Line.{Line}
use Rattle.qe_script.specs.declared.script.Script.{Script}
use Rattle.qe_script.specs.Callers.{callers_in}
use Rattle.qe_script.specs.Fields.{fields_in}
use Rattle.qe_script.specs.Header.{header_rules, seed_in, flag_in, with_keys, schema_with, header_with, header_in, header_of}
use Rattle.qe_script.specs.Line.{bad_part, command_of, line_of, line_with, meant}
use Rattle.qe_script.specs.Read.{AreCallers, IsHeader, IsRead, IsScript}
use Rattle.qe_script.specs.Script.{header_at, line_at, one_line, lines_of, script_with, behind, script_from, script_of}
use Rattle.qe_script.proofs.CallerLemmas.{caller_is, callers_are}
use Rattle.qe_field.proofs.GaveLemmas.{gave, past, unmapped, unwrapped, gather_all}
use Rattle.qe_script.proofs.JobLemmas.{raw_fits, raw_small, resolved_small}

-- what a raw line holds
record RawIs (callers : List (List ℕ)) (raw : ℕ × RawCommand) : Type 0 where
  pub caller : raw.0 < length callers
  pub job : raw_fits raw.1 ≡ true

raw_is : (callers : List (List ℕ)) (bytes : List ℕ) (raw : ℕ × RawCommand) → 0 < length callers → raw_of callers bytes ≡ Ok raw → RawIs callers raw
raw_is callers bytes raw some h =
    let ms = gave (object_of bytes) (object_command callers) raw h in
    let verb = gave (verb_in ms.value) _ raw ms.then_is in
    let names = gave (checked_names (rules_of verb.value) ms.value) _ raw verb.then_is in
    let caller = gave (caller_in callers ms.value) _ raw names.then_is in
    let command = gave (command_in verb.value ms.value) _ raw caller.then_is in
    let last = command.then_is in
    let e : (caller.value, command.value) ≡ raw = cc in
    subst (RawIs callers) e (record {
      caller = caller_is callers ms.value caller.value some caller.found;
      job = raw_small verb.value ms.value command.value command.found;
    })

nothing : {A : Type 0} (o : Option A) → o ≡ None → is_none o ≡ true
nothing None h = refl
nothing (Some x) h = cc

-- what a line is under a header that has a caller
pub line_is : (header : Header) (bytes : List ℕ) (line : Line) → 0 < length header.callers → line_of header bytes ≡ Ok line
    → IsRead header.schema header.callers line
line_is header bytes line some h =
    let raw = gave (raw_of header.callers bytes) (meant header.schema) line h in
    let command = gave (command_of header.schema raw.value.1) _ line raw.then_is in
    let fitting = past (option_map bad_part (misfit header.schema command.value)) _ line command.then_is in
    let last = fitting.1 in
    let e : line_with raw.value.0 command.value ≡ line = cc in
    let is = raw_is header.callers bytes raw.value some raw.found in
    let means = unwrapped k.Plain (resolved header.schema raw.value.1) command.value command.found in
    subst (IsRead header.schema header.callers) e (record {
      caller = is.caller;
      raw = raw.value.1;
      meant = means;
      fitting = and_from (job_fits command.value) _ (resolved_small header.schema raw.value.1 command.value is.job means)
          (nothing (misfit header.schema command.value) (unmapped bad_part _ fitting.0));
    })

one_is : (header : Header) (line : ℕ × List ℕ) (lines : List Line) → 0 < length header.callers → one_line header line ≡ Ok lines
    → AllByRecursion (IsRead header.schema header.callers) lines
unfolding one_line
one_is header line lines some h =
    let one = gave (line_at header line) _ lines h in
    let last = one.then_is in
    let e : one.value ∷ [] ≡ lines = cc in
    subst (AllByRecursion (IsRead header.schema header.callers)) e
    (line_is header line.1 one.value some (unwrapped (f.At line.0) (line_of header line.1) one.value one.found), tt)

-- each encrypted field has a key
kept_counts : (fields : List Field) (keys kept : List (List ℕ)) → keys_of fields keys ≡ Ok kept → length kept ≡ length (encrypted_numbers fields)
kept_counts fields keys kept h = by_test (nat_eq (length keys) (length (encrypted_numbers fields))) refl h
  where
    by_test : (b : Bool) → nat_eq (length keys) (length (encrypted_numbers fields)) ≡ b
        → cond b (unless (roots_from (encrypted_numbers fields) 0 [] keys) (Ok keys)) (Err (key.WrongNumber (length (encrypted_numbers fields)) (length keys))) ≡ Ok kept
        → length kept ≡ length (encrypted_numbers fields)
    by_test true e made =
        let free = past (roots_from (encrypted_numbers fields) 0 [] keys) (Ok keys) kept made in
        let last = free.1 in
        let same : keys ≡ kept = cc in
        subst (λ (ks : List (List ℕ)). length ks ≡ length (encrypted_numbers fields)) same (eqb-true _ _ e)
    by_test false e made = cc

-- the fields and the keys of a header
record Both (both : List Field × List (List ℕ)) : Type 0 where
  pub schema : IsSchema both.0
  pub keys : length both.1 ≡ length (encrypted_numbers both.0)

both_are : IsReadAsSchema → (fields : Fields × List (List ℕ)) (both : List Field × List (List ℕ)) → schema_with fields ≡ Ok both → Both both
both_are law fields both h =
    let schema = gave (refuse_as k.Schema (schema_of fields.0)) (with_keys fields.1) both h in
    let keys = gave (refuse_as k.Keys (keys_of schema.value fields.1)) _ both schema.then_is in
    let last = keys.then_is in
    let e : (schema.value, keys.value) ≡ both = cc in
    subst Both e (record {
      schema = law fields.0 schema.value (unwrapped k.Schema (schema_of fields.0) schema.value schema.found);
      keys = kept_counts schema.value fields.1 keys.value (unwrapped k.Keys (keys_of schema.value fields.1) keys.value keys.found);
    })

abbrev Is : Header → Type 0
Is header = IsHeader header.schema header.keys header.callers

abbrev IsIfOk : Result Header ScriptKind → Type 0
IsIfOk (Ok header) = Is header
IsIfOk (Err fault) = Unit {0}

-- what a header is, by its parts
made_is : (seed : List ℕ) (callers : List (List ℕ)) (brief leaf : Bool) (both : List Field × List (List ℕ)) (header : Header) → Both both → AreCallers callers
    → header_with seed callers brief leaf both ≡ Ok header → Is header
made_is seed callers brief leaf both header parts named h = subst IsIfOk h (record { schema = parts.schema; keyed = parts.keys; named = named })

-- what a header that was read is
pub header_is : IsReadAsSchema → (bytes : List ℕ) (header : Header) → header_of bytes ≡ Ok header → Is header
header_is law bytes header h =
    let ms = gave (object_of bytes) header_in header h in
    let names = gave (checked_names header_rules ms.value) _ header ms.then_is in
    let seed = gave (seed_in ms.value) _ header names.then_is in
    let fields = gave (fields_in ms.value) _ header seed.then_is in
    let callers = gave (callers_in ms.value) _ header fields.then_is in
    let brief = gave (flag_in (codes "brief") false ms.value) _ header callers.then_is in
    let leaf = gave (flag_in (codes "leaf") true ms.value) _ header brief.then_is in
    let both = gave (schema_with fields.value) _ header leaf.then_is in
    made_is seed.value callers.value brief.value leaf.value both.value header (both_are law fields.value both.value both.found)
    (callers_are ms.value callers.value callers.found) both.then_is

script_is : IsReadAsSchema → (lines : List (ℕ × List ℕ)) (script : Script) → script_from lines ≡ Ok script → IsScript script
script_is law [] script h = cc
script_is law (line ∷ lines) script h =
    let header = gave (header_at line) (behind lines) script h in
    let read = gave (lines_of header.value lines) _ script header.then_is in
    let last = read.then_is in
    let e : script_with header.value read.value ≡ script = cc in
    let is = header_is law line.1 header.value (unwrapped (f.At line.0) (header_of line.1) header.value header.found) in
    subst IsScript e (record {
      header = is;
      lines = gather_all (IsRead header.value.schema header.value.callers) (one_line header.value)
          (λ x ys. one_is header.value x ys is.named.some) lines read.value read.found;
    })

-- a script that is answered
pub script_answer : IsReadAsSchema → (answer : Result Script ScriptFault) (bytes : List ℕ)
    → Answers (λ it. it) script_refusal answer (script_of bytes) → IfOk answer IsScript
script_answer law (Ok script) bytes is = script_is law (numbered (placed_lines bytes)) script is
script_answer law (Err fault) bytes is = tt
