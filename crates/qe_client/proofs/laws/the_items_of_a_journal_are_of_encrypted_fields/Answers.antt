use Rattle.qe_client.proofs.WordLemmas.{items_are_encrypted}
use Rattle.qe_client.proofs.laws.the_items_of_a_journal_are_of_encrypted_fields.Goals as goal

pub returns : goal.returns
returns c = items_are_encrypted
