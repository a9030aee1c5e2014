-- Laws of distinct_terms: the terms that stand once, and what is asked of them.
pub mod Keeping
