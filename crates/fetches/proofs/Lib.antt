-- Leads: where fetches lead. Assumes nothing.
pub mod Leads
