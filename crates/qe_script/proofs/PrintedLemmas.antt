-- What a script holds is printed.
use Rattle.std.proofs.Common.{◌≡◌, ◌≢◌, ℕ, List, [], ◌∷◌, map, true, false, true≢false, sym, subst, ◌∙◌}
use Rattle.std.proofs.lemmas.List.Elements.{All-contains, All-from_recursion, All-weaker}
use Rattle.std.specs.List.{AllByRecursion}
use Rattle.std.specs.Prelude.{All, Contains, Ok, Err, option_map}
use Rattle.qe_base.specs.Lines.{placed_lines}
use Rattle.qe_field.proofs.GaveLemmas.{gave, past, unwrapped, gather_all}
use Rattle.qe_plain.specs.declared.command.PlainCommand.{PlainCommand}
use Rattle.qe_plain.specs.declared.command.PlainReply.{PlainReply}
use Rattle.qe_plain.specs.declared.command.RawCommand.{RawCommand}
use Rattle.qe_schema.specs.Fits.{misfit}
use Rattle.qe_schema.specs.Resolve.{resolved}
use Rattle.qe_raw.specs.declared.fault.ScriptFault.TheVariants as f
use Rattle.qe_raw.specs.declared.fault.ScriptKind.TheVariants as k
use Rattle.qe_raw.specs.Callers.{caller_in}
use Rattle.qe_raw.specs.Lines.{numbered}
use Rattle.qe_raw.specs.Names.{checked_names}
use Rattle.qe_raw.specs.Objects.{object_of}
use Rattle.qe_raw.specs.Raw as raws
use Rattle.qe_raw.specs.Verbs.{verb_in, rules_of}
use Rattle.qe_texts.specs.declared.fault.PrintFault.TheVariants as print
use Rattle.qe_texts.specs.Replies.{reply_line}
use Rattle.qe_texts.specs.Unprintable.{brings_formless, holds_formless}
use Rattle.qe_texts.proofs.FormedLemmas.{none_held}
use Rattle.qe_texts.proofs.LineLemmas.{RawForms, raw_formed, resolved_brings}
use Rattle.qe_texts.proofs.UnprintableLemmas.{unprintable}
use Rattle.qe_script.specs.declared.script.Header.{Header}
use Rattle.qe_script.specs.declared.script.Line.{Line}
use Rattle.qe_script.specs.declared.script.Script.{Script}
use Rattle.qe_script.specs.Line.{bad_part, command_of, line_of, line_with, meant}
use Rattle.qe_script.specs.Printed.{LinesBringNone, RepliesArePrinted, command_in}
use Rattle.qe_script.specs.Script.{header_at, line_at, one_line, lines_of, script_with, behind, script_from}

raw_of_line : (callers : List (List ℕ)) (bytes : List ℕ) (raw : ℕ × RawCommand) → raws.raw_of callers bytes ≡ Ok raw → RawForms raw.1
raw_of_line callers bytes raw h =
    let ms = gave (object_of bytes) (raws.object_command callers) raw h in
    let verb = gave (verb_in ms.value) _ raw ms.then_is in
    let names = gave (checked_names (rules_of verb.value) ms.value) _ raw verb.then_is in
    let caller = gave (caller_in callers ms.value) _ raw names.then_is in
    let command = gave (raws.command_in verb.value ms.value) _ raw caller.then_is in
    let last = command.then_is in
    let e : (caller.value, command.value) ≡ raw = cc in
    subst (λ r. RawForms r.1) e (raw_formed verb.value ms.value command.value command.found)

abbrev Brings : PlainCommand → Type 0
Brings command = brings_formless command ≡ false

pub lines_bring_none : LinesBringNone
lines_bring_none header bytes line h =
    let raw = gave (raws.raw_of header.callers bytes) (meant header.schema) line h in
    let command = gave (command_of header.schema raw.value.1) _ line raw.then_is in
    let fitting = past (option_map bad_part (misfit header.schema command.value)) _ line command.then_is in
    let last = fitting.1 in
    let e : line_with raw.value.0 command.value ≡ line = cc in
    let means = unwrapped k.Plain (resolved header.schema raw.value.1) command.value command.found in
    subst (λ (l : Line). Brings l.command) e
    (resolved_brings header.schema raw.value.1 command.value (raw_of_line header.callers bytes raw.value raw.found) means)

abbrev LineBrings : Line → Type 0
LineBrings line = Brings line.command

one_brings : (header : Header) (line : ℕ × List ℕ) (lines : List Line) → one_line header line ≡ Ok lines → AllByRecursion LineBrings lines
unfolding one_line
one_brings header line lines h =
    let one = gave (line_at header line) _ lines h in
    let last = one.then_is in
    let e : one.value ∷ [] ≡ lines = cc in
    subst (AllByRecursion LineBrings) e (lines_bring_none header line.1 one.value (unwrapped (f.At line.0) (line_of header line.1) one.value one.found), tt)

commands_bring : (lines : List Line) → AllByRecursion LineBrings lines → AllByRecursion Brings (map command_in lines)
commands_bring [] all = tt
commands_bring (line ∷ lines) all = (all.0, commands_bring lines all.1)

-- the commands of a script bring none
script_brings : (lines : List (ℕ × List ℕ)) (script : Script) → script_from lines ≡ Ok script → All Brings (map command_in script.lines)
script_brings [] script h = cc
script_brings (line ∷ lines) script h =
    let header = gave (header_at line) (behind lines) script h in
    let read = gave (lines_of header.value lines) _ script header.then_is in
    let last = read.then_is in
    let e : script_with header.value read.value ≡ script = cc in
    let all = gather_all LineBrings (one_line header.value) (one_brings header.value) lines read.value read.found in
    subst (λ (s : Script). All Brings (map command_in s.lines)) e
    (All-from_recursion Brings (map command_in read.value) (commands_bring read.value all))

is_printed : (script : Script) (reply : PlainReply) → holds_formless reply ≡ false → reply_line script.schema reply ≢ Err print.Unprintable
is_printed script reply none refused = true≢false (sym ((unprintable script.schema reply).0 refused) ∙ none)

pub replies_are_printed : RepliesArePrinted
replies_are_printed bytes script commands last read of_these h =
    let all = script_brings (numbered (placed_lines bytes)) script read in
    let bring = All-weaker (Contains (map command_in script.lines)) Brings (λ command there. All-contains Brings (map command_in script.lines) command all there) commands of_these in
    All-weaker (λ reply. holds_formless reply ≡ false) (λ reply. reply_line script.schema reply ≢ Err print.Unprintable) (is_printed script) last.1
    (none_held commands last bring h)
