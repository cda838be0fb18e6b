-- The laws, of their lemmas.
use Rattle.std.proofs.Common.{ℕ, List}
use Rattle.qe_relation.specs.Laws.{CountAllWords, KeptByIndexing, MaintenanceKeeps, MismatchesAtStrays}
use Rattle.qe_relation.proofs.FreeLemmas.{true_count, number_is}
use Rattle.qe_relation.proofs.IndexLemmas.{all_learned_stand}
use Rattle.qe_relation.proofs.ItemLemmas.{items_kept, items_tagged}
use Rattle.qe_relation.proofs.JobKeepLemmas.{begin_stands, step_stands, end_stands, abandon_stands}
use Rattle.qe_relation.proofs.StepKeepLemmas.{units_kept}

pub counts_words : CountAllWords
counts_words root numbers rows free stand = record {
  only = λ word n known. true_count root numbers free rows stand word n known;
  number = λ word n known count counts. number_is root numbers free rows stand word n known count counts.searched counts.is_true;
}

pub kept_by_indexing : (root : ℕ → List ℕ) → KeptByIndexing root
kept_by_indexing root = record {
  learning = λ words numbers rows ecoc aside captured doomed free stand. all_learned_stand root rows ecoc aside captured doomed words numbers free stand;
  items = λ field factor xs items counts nonces numbers index aside captured doomed are allowed free stand.
      items_kept root aside captured doomed field factor xs items counts nonces numbers index are allowed free stand;
  tags = λ field factor xs items counts numbers index aside captured doomed are allowed free stand.
      items_tagged root aside captured doomed field factor xs items counts numbers index are allowed free stand;
}

pub maintenance_keeps : MaintenanceKeeps
maintenance_keeps root numbers state free stand = record {
  begun = begin_stands root numbers state stand;
  stepped = λ asked nonces counts long allowed known. step_stands root numbers state stand free asked nonces long counts known allowed;
  ended = end_stands root numbers state stand;
  abandoned = abandon_stands root numbers state stand;
}

pub mismatches_at_strays : MismatchesAtStrays
mismatches_at_strays root numbers ecoc kind tokens nonces work counts free long stand allowed known =
    (units_kept root numbers free ecoc kind tokens nonces long work counts stand allowed known).tells
