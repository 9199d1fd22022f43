-- Words of this crate's own contracts and proofs, which no promise speaks of.
pub mod Texts
