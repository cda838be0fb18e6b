use Rattle.std.proofs.Common.{arith}
use Rattle.qe_words.proofs.NumberLemmas.{documents_read, no_documents}
use Rattle.qe_words.proofs.words.documents_of.Goals as goal

pub returns-then-n-le-MOST : goal.returns-then-n-le-MOST
returns-then-n-le-MOST c = documents_read c.args.word.now c.in_ok-n.n c.in_ok-n.ensures (omega arith) (omega arith)

pub returns-else-n-ge1 : goal.returns-else-n-ge1
returns-else-n-ge1 c = no_documents c.args.word.now c.in_ok-n.n c.in_ok-n.ensures c.else-n-ge1.either
