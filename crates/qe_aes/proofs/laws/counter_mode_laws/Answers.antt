use Rattle.qe_aes.proofs.CounterLemmas.{counter_mode-IsCounterMode, only_counter_mode, counter_mode-counter_mode}
use Rattle.qe_aes.proofs.laws.counter_mode_laws.Goals as goal

pub returns : goal.returns
returns c = record { meets = counter_mode-IsCounterMode; only = only_counter_mode; undoes = counter_mode-counter_mode }
