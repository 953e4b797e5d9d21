mod BeneathLemmas
