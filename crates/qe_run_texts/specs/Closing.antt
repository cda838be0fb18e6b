-- The line that ends the text of a run: how many labels the run has; how many ESC rows the server keeps, which are those for
-- positions and anchors; how many ECOC rows, none of which is an ESC row, the next compaction or cleanup reads; and the SHA-256
-- of the dump in hex.
use Rattle.std.specs.Prelude.{ℕ, List, [], ◌∷◌, ◌++◌, length, codes}
use Rattle.std.specs.Fmt.{decimal}
use Rattle.std.specs.FinMap.{len}
use Rattle.hex.specs.Hex.{encode_lower}
use Rattle.sha2.specs.Sha256.{sha256}
use Rattle.qe_field.specs.declared.field.Field.{Field}
use Rattle.qe_protocol.specs.State.{State}
use Rattle.qe_dump.specs.Dump.{dump_of}

abbrev pub counts_line : ℕ → ℕ → ℕ → List ℕ → List ℕ
counts_line labels esc ecoc dump =
    codes "end labels " ++ (decimal labels ++ (codes " esc " ++ (decimal esc ++ (codes " ecoc " ++ (decimal ecoc
    ++ (codes " digest " ++ (encode_lower (sha256 dump) ++ 10 ∷ [])))))))

-- .. of a state; rows aside aren't counted
unfoldable pub closing_line : List Field → State → ℕ → List ℕ
closing_line fields state labels = counts_line labels (len state.index.rows) (length state.index.ecoc) (dump_of fields state)
