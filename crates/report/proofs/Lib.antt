-- Sums: laws of reports. Steps: a report that is being added to.
pub mod Sums
pub mod Steps
