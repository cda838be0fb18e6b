-- What holds of the spelling of values and of blocks, besides their definitions.
use Rattle.std.specs.Prelude.{◌≡◌, ℕ, List, None}
use Rattle.qe_base.specs.Bytes.{AreBytes}
use Rattle.qe_tokens.specs.Tokens.{document_tag_of}
use Rattle.qe_indexed.specs.Block.{tag_in, IsMade}
use Rattle.qe_indexed.specs.Parts.{Indexed}
use Rattle.qe_indexed.specs.Spelling.{IsLaidOut}
use Rattle.qe_indexed.specs.Faults.{refusal_of}

-- bytes are one value at most, and a value exactly where nothing is refused
pub record SpellingLaws : Type 0 where
  pub one : (value other : Indexed) (bytes : List ℕ) → IsLaidOut value bytes → IsLaidOut other bytes → value ≡ other
  pub accepted : (value : Indexed) (bytes : List ℕ) → IsLaidOut value bytes → refusal_of bytes ≡ None
  pub found : (bytes : List ℕ) → AreBytes bytes → refusal_of bytes ≡ None → (value : Indexed) × IsLaidOut value bytes

-- the tag of a made block is the document's
abbrev pub HasMadeTag : Type 0
HasMadeTag = (count contention : ℕ) (edc server iv_count iv_zeros block : List ℕ) → IsMade count contention edc server iv_count iv_zeros block
    → tag_in block ≡ document_tag_of edc count
