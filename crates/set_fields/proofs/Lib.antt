-- Fields: how each field goes, by what is read. Assumes nothing.
pub mod Fields
