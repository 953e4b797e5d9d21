mod EndLemmas
mod NumberLemmas
mod CheckLemmas
mod FirstLemmas
mod HeadStays
