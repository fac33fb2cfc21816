-- The numbers of refusals, by name: document 01's table, and what document 02 adds to it. docs/NUMBERS.md says in which order each call gives them.
use Rattle.std.specs.Prelude.{ℕ}

-- "a lent length differs from the published one"
abbrev pub wrong_length : ℕ
wrong_length = 1

-- "a header's type byte or "theora" is not the wanted one"
abbrev pub other_header : ℕ
other_header = 2

-- "VMAJ is not 3, or VMIN is not 2"
abbrev pub other_version : ℕ
other_version = 3

-- "a read passes the end of the packet"
abbrev pub packet_ends : ℕ
packet_ends = 4

-- "an identification field breaks its range"
abbrev pub out_of_range : ℕ
out_of_range = 5

-- "PF is 1, or the 3 last identification bits are not 0"
abbrev pub bad_format : ℕ
bad_format = 6

-- "NBMS above 384, a matrix index not below NBMS, a qi sum above 63, a code longer than 32, a 33rd leaf"
abbrev pub bad_setup : ℕ
bad_setup = 7

-- no accepted header leaves this session, or this table memory
abbrev pub not_genuine : ℕ
not_genuine = 8

-- "an inter or empty packet and no references"
abbrev pub no_references : ℕ
no_references = 9

-- "the first bit of a frame packet is 1"
abbrev pub no_frame : ℕ
no_frame = 10

-- "an intra frame's 3 reserved bits are not 0"
abbrev pub reserved_bits : ℕ
reserved_bits = 11

-- "a run exceeds the bits still wanted"
abbrev pub long_run : ℕ
long_run = 12

-- "a token moves its block past position 64"
abbrev pub past_block : ℕ
past_block = 13

-- requests 1, 8 and 10: the lent output is too short
abbrev pub short_output : ℕ
short_output = 14

-- request 4: a sum of a census would pass 64 bits
abbrev pub past_count : ℕ
past_count = 15

-- request 6: the lengths of packets reach past the joined bytes
abbrev pub past_packets : ℕ
past_packets = 16

-- request 7: one packet more than the session can count
abbrev pub uncounted : ℕ
uncounted = 17

-- request 8: "CS is neither 1 nor 2"
abbrev pub unknown_colour : ℕ
unknown_colour = 18

-- request 10: a reader for version 1 is given a text of version 2
abbrev pub later_version : ℕ
later_version = 19

-- request 10: any other fault of a settings text, or of settings
abbrev pub bad_settings : ℕ
bad_settings = 20

-- request 1: the stream is none that the writer writes
abbrev pub other_stream : ℕ
other_stream = 21
