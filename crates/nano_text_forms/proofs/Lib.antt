mod ExcerptLemmas
