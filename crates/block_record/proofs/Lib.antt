-- Laws: packing loses nothing of a record in its range.
pub mod Laws
pub mod MemoryLaws
