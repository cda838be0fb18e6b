use Rattle.qe_seal.specs.Hmac.{prf2_of}
use Rattle.qe_seal.proofs.mac.HmacKey.prf2.Goals as goal

pub returns : goal.returns
unfolding prf2_of
returns c = λ key keyed. rw (c.mac_of_parts.ensures key keyed, c.to_le_bytes.ensures, c.to_le_bytes-2.ensures)
