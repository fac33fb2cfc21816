-- Parts: sums of parts of a report. Packet: what one packet adds. Recording: all of them. Reports: recordings one after the other. Calls: a recording as frame calls.
pub mod Parts
pub mod Packet
pub mod Recording
pub mod Reports
pub mod Calls
