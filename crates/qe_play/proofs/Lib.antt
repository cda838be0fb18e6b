mod LabelLemmas
mod PrintedLemmas
mod DueLemmas
