-- What a script holds is printed.
use Rattle.std.specs.Prelude.{◌≡◌, ◌≢◌, ℕ, List, map, All, Contains, false, Some, Ok, Err}
use Rattle.qe_plain.specs.declared.command.PlainCommand.{PlainCommand}
use Rattle.qe_plain.specs.declared.command.PlainDocument.{PlainDocument}
use Rattle.qe_plain.specs.declared.command.PlainReply.{PlainReply}
use Rattle.qe_schema.specs.Collection.{plain_replay}
use Rattle.qe_texts.specs.declared.fault.PrintFault.TheVariants as f
use Rattle.qe_texts.specs.Replies.{reply_line}
use Rattle.qe_texts.specs.Unprintable.{brings_formless}
use Rattle.qe_script.specs.declared.script.Header.{Header}
use Rattle.qe_script.specs.declared.script.Line.{Line}
use Rattle.qe_script.specs.declared.script.Script.{Script}
use Rattle.qe_script.specs.Line.{line_of}
use Rattle.qe_script.specs.Script.{script_of}

-- a line's command inserts and sets no double, decimal or timestamp
abbrev pub LinesBringNone : Type 0
LinesBringNone = (header : Header) (bytes : List ℕ) (line : Line) → line_of header bytes ≡ Ok line → brings_formless line.command ≡ false

abbrev pub command_in : Line → PlainCommand
command_in line = line.command

-- commands of a script are given, whichever of them and in whichever order, and each reply is printed
abbrev pub RepliesArePrinted : Type 0
RepliesArePrinted = (bytes : List ℕ) (script : Script) (commands : List PlainCommand) (last : List PlainDocument × List PlainReply)
    → script_of bytes ≡ Ok script → All (Contains (map command_in script.lines)) commands → plain_replay commands ≡ Some last
    → All (λ reply. reply_line script.schema reply ≢ Err f.Unprintable) last.1
