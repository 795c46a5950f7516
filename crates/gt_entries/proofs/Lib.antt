mod DumpLemmas
