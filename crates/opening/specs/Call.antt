-- The shot call: what it is lent, and when it is refused.
use Rattle.std.specs.Prelude.{ℕ, ◌*◌, Bool, ◌&&◌, List, [], ◌∷◌, eqb, leb, length, get_or}
use Rattle.bitstream.specs.Reading.{choose}
use Rattle.bitstream.specs.Numbers.{wrong_length, not_genuine, past_packets}
use Rattle.headers.specs.declared.Session.{Session}
use Rattle.headers.specs.Fits.{session_fits}
use Rattle.setup.specs.Table.{is_table}
use Rattle.work_memory.specs.Memory.{Memory}
use Rattle.work_memory.specs.Lengths.{blocks, lengths_of, lengths_fit}
use Rattle.calls.specs.Lengths.{buffers_fit}
use Rattle.packet_list.specs.Packets.{total, answer_size}
use Rattle.buffer_names.specs.declared.Names.{Names}
use Rattle.buffer_names.specs.Names.{names_fit}

-- ---- what a call brings
pub record ShotCall : Type 0 where
  pub session : Session
  pub names : Names
  pub lengths : List ℕ
  pub joined : List ℕ
  pub table : List ℕ
  pub memory : Memory
  pub planes : List (List ℕ)
  pub answers : List ℕ

abbrev pub shot_call : Session → Names → (lengths joined table : List ℕ) → Memory → (first second third answers : List ℕ) → ShotCall
shot_call s n lengths joined table memory first second third answers = record {
  session = s;
  names = n;
  lengths = lengths;
  joined = joined;
  table = table;
  memory = memory;
  planes = first ∷ second ∷ third ∷ [];
  answers = answers;
}

-- ---- when a call is refused
-- every lent length is the published one. "Three plane buffers are lent"; "Packet answers go to a lent list as long as the lengths, else 1": 8 numbers for each
unfoldable pub shot_lengths_fit : ShotCall → Bool
shot_lengths_fit c =
    let s = c.session in
    (buffers_fit (blocks s) (get_or c.planes 0 []) (get_or c.planes 1 []) (get_or c.planes 2 []) c.table && lengths_fit (lengths_of s) c.memory)
    && eqb (length c.answers) (answer_size * length c.lengths)

-- "Lengths reaching past the buffer's end": over whole numbers
abbrev pub reaches : ShotCall → Bool
reaches c = leb (total c.lengths) (length c.joined)

-- the tests before table memory is looked at: the identification part of 8, then 1, then the names, which are 8
unfoldable pub lent_number : ShotCall → ℕ
lent_number c = choose (session_fits c.session) (choose (shot_lengths_fit c) (choose (names_fit c.session c.names) 0 not_genuine) wrong_length) not_genuine

-- then the rest of 8; "number 16, found after 1 and 8 and before the first packet". 0 where the call is accepted
unfoldable pub shot_number : ShotCall → ℕ
shot_number c = choose (eqb (lent_number c) 0) (choose (is_table c.table) (choose (reaches c) 0 past_packets) not_genuine) (lent_number c)
