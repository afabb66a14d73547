mod ConfigLemmas
mod ServingLemmas
mod BackLemmas
mod ServiceLemmas
mod AskLemmas
mod DoorLemmas
mod EndLemmas
mod NoteLemmas
