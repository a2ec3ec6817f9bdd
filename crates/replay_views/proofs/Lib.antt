mod FoldLemmas
mod ReadLemmas
