-- Worked examples of the identification header.
use Prim.Native.Nat.{ℕ}
use mathlib.Core.Path.{◌≡◌, refl}
use mathlib.Core.Bool.{false}
use mathlib.Core.List.{List, [], ◌∷◌, ◌++◌}
use lib.ListN.{take}
use Rattle.bitstream.specs.Bits.{bit_at, number}
use Rattle.bitstream.specs.Reading.{got, refused, field, judged}
use Rattle.headers.specs.declared.Session.{Session}
use Rattle.header_groups.specs.Judgement.{spelled, theora, common_header}
use Rattle.header_groups.specs.Groups.{rates, coding}
use Rattle.headers.specs.Identification.{identification}
use Rattle.header_fields.specs.Frame.{version, frame_size}

-- a header of 42 bytes: 2 by 1 macro blocks, a picture of 30 by 16 at (2, 0), 30 frames a second, QUAL 63, KFGSHIFT 6, 4:2:0
header : List ℕ
header =
    0x80 ∷ (theora ++ (3 ∷ 2 ∷ 1 ∷ 0 ∷ 2 ∷ 0 ∷ 1 ∷ 0 ∷ 0 ∷ 30 ∷ 0 ∷ 0 ∷ 16 ∷ 2 ∷ 0
    ∷ 0 ∷ 0 ∷ 0 ∷ 30 ∷ 0 ∷ 0 ∷ 0 ∷ 1 ∷ 0 ∷ 0 ∷ 0 ∷ 0 ∷ 0 ∷ 0 ∷ 0 ∷ 0 ∷ 0 ∷ 0 ∷ 0xFC ∷ 0xC0 ∷ []))

session : Session
session = record {
  fields = record {
    vrev = 1;
    fmbw = 2;
    fmbh = 1;
    picw = 30;
    pich = 16;
    picx = 2;
    picy = 0;
    frn = 30;
    frd = 1;
    parn = 0;
    pard = 0;
    cs = 0;
    nombr = 0;
    qual = 63;
    kfgshift = 6;
    pf = 0;
  };
  references = false;
  key_frames = 0;
  others = 0;
}

accepted : identification header 0 ≡ got session 336
unfolding header session identification common_header spelled version frame_size rates coding judged field number bit_at
accepted = refl

-- an empty packet; a packet that ends within VMIN; a VMIN of 3, with nothing behind it
empty : identification [] 0 ≡ refused 4 0
unfolding identification common_header spelled judged field
empty = refl

cut : identification (0x80 ∷ (theora ++ (3 ∷ []))) 0 ≡ refused 4 64
unfolding identification common_header spelled version judged field number bit_at
cut = refl

newer : identification (0x80 ∷ (theora ++ (3 ∷ 3 ∷ []))) 0 ≡ refused 3 64
unfolding identification common_header spelled version judged field number bit_at
newer = refl

-- each letter of "theora" is a field of its own: the first one is wrong, at bit 8
misspelled : identification (0x80 ∷ 0x54 ∷ []) 0 ≡ refused 2 8
unfolding identification common_header spelled judged field number bit_at
misspelled = refl

-- PICX is 3, and 3 + 30 is more than the 32 columns: refused at PICX, not where its group begins
outside : identification (0x80 ∷ (theora ++ (3 ∷ 2 ∷ 1 ∷ 0 ∷ 2 ∷ 0 ∷ 1 ∷ 0 ∷ 0 ∷ 30 ∷ 0 ∷ 0 ∷ 16 ∷ 3 ∷ []))) 0 ≡ refused 5 160
unfolding identification common_header spelled version frame_size judged field number bit_at
outside = refl

-- the header above with its last bit set: PF and the 3 bits behind it are two fields
last_bits : identification (take 41 header ++ 0xC1 ∷ []) 0 ≡ refused 6 333
unfolding header identification common_header spelled version frame_size rates coding judged field number bit_at
last_bits = refl
