use Rattle.std.proofs.Common.{Ok, [], ◌∷◌, sym, ◌∙◌}
use Rattle.qe_document.specs.Spelling.{spelled}
use Rattle.qe_document.specs.Views.{plain}
use Rattle.qe_document.specs.Writing.{value_encoded}
use Rattle.qe_encode.proofs.FlatLemmas.{writing_laws}
use Rattle.qe_encode.proofs.RefusalLemmas.{only_memory, bytes_written}
use Rattle.qe_show.proofs.parts.bytes_of.Goals as goal
use Rattle.qe_show.proofs.parts.bytes_of.Goals.{in-NoMemory, in_default}

-- a value that fits is refused for want of memory alone
pub prove-unreachable-requires : goal.prove-unreachable-requires
prove-unreachable-requires c =
    let v = plain c.args.value.now in
    let memory = only_memory c.in-Err.fault (value_encoded v) (spelled v).bytes (writing_laws.value v c.requires) c.in-Err.ensures.exact in
    elim c.match-matches.branch [
      | in-NoMemory w ↦ let same = sym w.matches-is ∙ c.if-prove.true in absurd cc
      | in_default w ↦ w.in_default.not-NoMemory memory
    ]

pub returns-in-Ok : goal.returns-in-Ok
returns-in-Ok c = let v = plain c.args.value.now in bytes_written (([], v) ∷ []) (spelled v).bytes (Ok c.in-Ok.bytes) c.in-Ok.ensures.exact
