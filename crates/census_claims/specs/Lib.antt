-- Sums: what the counts of a recording add up to. Reports: reports that recordings are added to. Calls: a recording as frame calls.
pub mod Sums
pub mod Reports
pub mod Calls
