use Rattle.qe_layout.proofs.LaidLemmas.{arranged_laid, laid_arranged}
use Rattle.qe_layout.proofs.WrittenLemmas.{written_laid}
use Rattle.qe_layout.proofs.laws.laid_out_is_read.Goals as goal

pub returns : goal.returns
returns g c =
    let reads = g.L.Layout.reads c.args.layout.now in
    let rows = g.L.Layout.rows c.args.layout.now in
    record {
      read_is_laid = λ slots elements distinct is. arranged_laid reads rows slots elements distinct c.requires is;
      laid_is_read = λ slots elements is. laid_arranged reads rows slots elements is;
      written_is_read = λ spell slots apart each. laid_arranged reads rows slots _ (written_laid reads spell rows slots apart each);
    }
