-- Cut: lists of packets. Rules: what stays from packet to packet. Packet: one packet is the frame call. Loop: all of them.
pub mod Cut
pub mod Rules
pub mod Packet
pub mod Loop
