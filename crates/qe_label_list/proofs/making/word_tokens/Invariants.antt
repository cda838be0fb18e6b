use Rattle.std.proofs.Common.{◌≡◌, List, map, take}
use Rattle.qe_tokens.specs.declared.tokens.RootKey.{RootKey}
use Rattle.qe_label_list.specs.Kept.{IsKeptIfAny}
use Rattle.qe_label_list.specs.Roots.{root_in}
use Rattle.qe_label_list.specs.Tokens.{AreOfFields, tokens_of}
use Rattle.qe_label_list.proofs.making.word_tokens.Given as goal

abbrev pub invariant-loop-word : goal.invariant-loop-word
invariant-loop-word l =
    (roots : List RootKey) → AreOfFields l.fields roots
    → IsKeptIfAny roots l.kept × (l.tokens.items ≡ map (tokens_of (root_in roots)) (take l.word-index l.counted))
