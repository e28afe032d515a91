mod AskingLemmas
mod KeptLemmas
