mod FlowingLemmas
mod PrintingLemmas
