-- What is drawn for a value, in parts.
use Rattle.std.specs.Prelude.{◌≡◌, ℕ, ◌+◌, ◌*◌}
use Rattle.qe_encodes.specs.Draws.{iv_at}
use Rattle.qe_encodes.specs.Payloads.{Drawn}
use Rattle.qe_keyring.specs.Drawing.{Drawing}
use Rattle.qe_sending.specs.declared.values.OwnDraws.{OwnDraws}

-- the value's own: its factor, and the IVs of the sealed value and of the token
pub record IsOwn (own : OwnDraws) (drawn : Drawn) : Type 0 where
  pub factor : drawn.factor ≡ own.factor
  pub value_iv : drawn.value_iv ≡ own.value_iv
  pub token_iv : drawn.token_iv ≡ own.token_iv

-- its edges': the factor, and an IV each from a place on
pub record HasEdgeDraws (drawn : Drawn) (factor : ℕ) (drawing : Drawing) : Type 0 where
  pub factor_is : drawn.factor ≡ factor
  pub ivs : (edge : ℕ) → drawn.edge_iv edge ≡ iv_at drawing.stream (drawing.place + 4 * edge)
