-- What a search answers.
use Rattle.std.specs.Prelude.{◌≡◌, ℕ, List}
use Rattle.qe_esc.specs.Rows.{Rows, has}
use Rattle.qe_esc.specs.Identifiers.{id_of}
use Rattle.qe_esc.specs.Pairs.{null_pair, base_of}
use Rattle.qe_esc.specs.Counts.{IsTrueCount}
use Rattle.qe_esc.specs.declared.found.Emu.{Emu}
use Rattle.qe_esc.specs.declared.key.RowKind.TheVariants.{Anchor}

-- whether there is a null anchor, its numbers, the base, and a true count
pub record IsFound (rows : Rows) (token : List ℕ) (found : Emu) : Type 0 where
  pub has_null : found.has_null ≡ has rows (id_of Anchor token 0)
  pub null : (found.null_apos, found.null_cpos) ≡ null_pair rows token
  pub base : found.base ≡ base_of rows token found.hop
  pub counted : IsTrueCount rows token found.hop found.count
