-- A frame keeps the reading algebra's laws, and needs fewer than 2 ^ 50 bits. Assumes nothing.
use Prim.Native.Nat.{ℕ, ◌+◌, ◌-◌, ◌*◌, ◌≤◌, ◌^◌}
use native.Mathlib.Omega.{arith}
use native.Mathlib.Nat.{mul-le-mul}
use mathlib.Core.Path.{◌≡◌, refl, sym, ap, ◌∙◌}
use mathlib.Core.List.{List, [], ◌∷◌}
use mathlib.Core.Bool.{Bool, true, false}
use lib.ListN.{length, take, length-take}
use Rattle.bitstream.specs.Bits.{bits}
use Rattle.bitstream.specs.Lists.{among}
use Rattle.bitstream.specs.Reading.{got, refused, Parse, pure, bind, pick}
use Rattle.bitstream.specs.Answer.{readable}
use Rattle.bitstream.proofs.Fields.{no_mix}
use Rattle.bitstream.proofs.Laws.{Lawful, pure_lawful, pick_lawful, bind_lawful}
use Rattle.bitstream.proofs.Inside.{Inside, pure_inside, pick_inside, bind_inside, place_inside, Refuses, pure_refuses, pick_refuses, bind_refuses}
use Rattle.bitstream.proofs.Spends.{Spends, spends_more, pure_spends, pick_spends, bind_spends, bind_spends_got, readable_same}
use Rattle.geometry.specs.declared.PixelFormat.{PixelFormat}
use Rattle.geometry.specs.Sizes.{blocks_of, super_blocks_of, macro_blocks_of}
use Rattle.geometry.proofs.SizeLaws.{sizes_small}
use Rattle.huffman.specs.Tree.{Tree}
use Rattle.block_record.specs.declared.BlockRecord.{BlockRecord}
use Rattle.frame_header.specs.declared.Kind.{Kind}
use Rattle.frame_header.proofs.Laws.{header_lawful, header_inside, header_refuses, header_spends, header_fits}
use Rattle.coded_flags.specs.Flags.{inter_flags, intra_flags}
use Rattle.coded_flags.specs.Coded.{coded_blocks, coded_luma, coded_records}
use Rattle.coded_flags.proofs.Laws.{flags_lawful, flags_inside, flags_refuses, flags_spends, flags_length, intra_length}
use Rattle.coded_flags.proofs.CodedLaws.{coded_most, luma_most}
use Rattle.modes.specs.Modes.{macro_modes}
use Rattle.modes.proofs.Laws.{macro_modes_lawful, macro_modes_inside, macro_modes_refuses, macro_modes_spends, macro_modes_length}
use Rattle.vectors.proofs.Laws.{vectors_lawful, vectors_inside, vectors_refuses, vectors_spends}
use Rattle.block_qi.specs.BlockQi.{block_qi}
use Rattle.block_qi.proofs.Laws.{qi_lawful, qi_inside, qi_refuses, qi_spends}
use Rattle.tokens.specs.Tokens.{Tokens, read_tokens}
use Rattle.tokens.specs.Answer.{AllProper}
use Rattle.tokens.proofs.Laws.{tokens_lawful, tokens_inside, tokens_refuses, tokens_spends}
use Rattle.packet_body.specs.Frame.{Body, is_intra, flags_of, modes_of, vectors_of, body, frame, frame_packet}

-- the numbers by which a frame packet is refused
abbrev pub packet_numbers : List ℕ
packet_numbers = 4 ∷ 9 ∷ 10 ∷ 11 ∷ 12 ∷ 13 ∷ []

module _ (f : PixelFormat) (w h : ℕ) where
  -- ---- the parts of `body` behind its modes
  abbrev pub made : (flags modes : List ℕ) → List BlockRecord → Tokens → Body
  made flags modes records t = record { coded = coded_blocks f w h flags; modes = modes; records = records; tokens = t }

  abbrev pub tokens_then : List Tree → (flags modes : List ℕ) → List BlockRecord → Parse Body
  tokens_then trees flags modes records = bind (read_tokens trees (coded_luma f w h flags) (length (coded_blocks f w h flags))) (λ t. pure (made flags modes records t))

  abbrev pub index_then : List Tree → ℕ → (flags modes : List ℕ) → List BlockRecord → Parse Body
  index_then trees qis flags modes predicted = bind (block_qi qis (coded_blocks f w h flags) predicted) (tokens_then trees flags modes)

  abbrev pub vectors_then : List Tree → Kind → ℕ → (flags modes : List ℕ) → Parse Body
  vectors_then trees kind qis flags modes = bind (vectors_of f w h kind modes (coded_records f w h flags)) (index_then trees qis flags modes)

  -- ---- Local and Firm
  flags_of_lawful : (kind : Kind) → Lawful (flags_of f w h kind)
  unfolding flags_of
  flags_of_lawful kind = pick_lawful (is_intra kind) (pure_lawful _) (flags_lawful f w h)

  modes_of_lawful : (kind : Kind) (flags : List ℕ) → Lawful (modes_of f w h kind flags)
  unfolding modes_of
  modes_of_lawful kind flags = pick_lawful (is_intra kind) (pure_lawful []) (macro_modes_lawful flags (macro_blocks_of w h))

  vectors_of_lawful : (kind : Kind) (modes : List ℕ) (rs : List BlockRecord) → Lawful (vectors_of f w h kind modes rs)
  unfolding vectors_of
  vectors_of_lawful kind modes rs = pick_lawful (is_intra kind) (pure_lawful rs) (vectors_lawful f w h modes rs)

  body_lawful : (trees : List Tree) (kind : Kind) (qis : ℕ) → Lawful (body f w h trees kind qis)
  unfolding body
  body_lawful trees kind qis =
      bind_lawful (flags_of_lawful kind) (λ flags.
      bind_lawful (modes_of_lawful kind flags) (λ modes.
      bind_lawful (vectors_of_lawful kind modes (coded_records f w h flags)) (λ predicted.
      bind_lawful (qi_lawful qis (coded_blocks f w h flags) predicted) (λ records.
      bind_lawful (tokens_lawful trees (coded_luma f w h flags) (length (coded_blocks f w h flags))) (λ t. pure_lawful _)))))

  pub frame_lawful : (trees : List Tree) (references : Bool) → Lawful (frame f w h trees references)
  unfolding frame
  frame_lawful trees references =
      bind_lawful (header_lawful references) (λ head.
      bind_lawful (body_lawful trees head.kind (length head.qis)) (λ b. pure_lawful _))

  -- ---- what is refused lies in the packet
  flags_of_inside : {d : ℕ} (kind : Kind) → Inside d (flags_of f w h kind)
  unfolding flags_of
  flags_of_inside kind = pick_inside (is_intra kind) (pure_inside _) (flags_inside f w h)

  modes_of_inside : {d : ℕ} (kind : Kind) (flags : List ℕ) → Inside d (modes_of f w h kind flags)
  unfolding modes_of
  modes_of_inside kind flags = pick_inside (is_intra kind) (pure_inside []) (macro_modes_inside flags (macro_blocks_of w h))

  vectors_of_inside : {d : ℕ} (kind : Kind) (modes : List ℕ) (rs : List BlockRecord) → Inside d (vectors_of f w h kind modes rs)
  unfolding vectors_of
  vectors_of_inside kind modes rs = pick_inside (is_intra kind) (pure_inside rs) (vectors_inside f w h modes rs)

  body_inside : {d : ℕ} (trees : List Tree) (kind : Kind) (qis : ℕ) → Inside d (body f w h trees kind qis)
  unfolding body
  body_inside trees kind qis =
      bind_inside (flags_of_inside kind) (λ flags.
      bind_inside (modes_of_inside kind flags) (λ modes.
      bind_inside (vectors_of_inside kind modes (coded_records f w h flags)) (λ predicted.
      bind_inside (qi_inside qis (coded_blocks f w h flags) predicted) (λ records.
      bind_inside (tokens_inside trees (coded_luma f w h flags) (length (coded_blocks f w h flags))) (λ t. pure_inside _)))))

  pub frame_inside : {d : ℕ} (trees : List Tree) (references : Bool) → Inside d (frame f w h trees references)
  unfolding frame
  frame_inside trees references =
      bind_inside (header_inside references) (λ head.
      bind_inside (body_inside trees head.kind (length head.qis)) (λ b. pure_inside _))

  pub packet_inside : (trees : List Tree) (references : Bool) (p : List ℕ) (k e : ℕ) → frame_packet f w h trees references p ≡ refused k e → e ≤ bits p
  unfolding frame_packet
  packet_inside trees true [] k e r = no_mix r
  packet_inside trees false [] k e r = let z : 0 ≡ e = cc in omega arith
  packet_inside trees references (b ∷ p) k e r = place_inside (frame_inside trees references) (b ∷ p) k e r

  -- ---- and is refused by the numbers of a packet
  flags_of_refuses : (kind : Kind) → Refuses packet_numbers (flags_of f w h kind)
  unfolding flags_of among
  flags_of_refuses kind = pick_refuses (is_intra kind) (pure_refuses _) (flags_refuses refl refl f w h)

  modes_of_refuses : (kind : Kind) (flags : List ℕ) → Refuses packet_numbers (modes_of f w h kind flags)
  unfolding modes_of among
  modes_of_refuses kind flags = pick_refuses (is_intra kind) (pure_refuses []) (macro_modes_refuses refl flags (macro_blocks_of w h))

  vectors_of_refuses : (kind : Kind) (modes : List ℕ) (rs : List BlockRecord) → Refuses packet_numbers (vectors_of f w h kind modes rs)
  unfolding vectors_of among
  vectors_of_refuses kind modes rs = pick_refuses (is_intra kind) (pure_refuses rs) (vectors_refuses refl f w h modes rs)

  body_refuses : (trees : List Tree) (kind : Kind) (qis : ℕ) → Refuses packet_numbers (body f w h trees kind qis)
  unfolding body among
  body_refuses trees kind qis =
      bind_refuses (flags_of_refuses kind) (λ flags.
      bind_refuses (modes_of_refuses kind flags) (λ modes.
      bind_refuses (vectors_of_refuses kind modes (coded_records f w h flags)) (λ predicted.
      bind_refuses (qi_refuses refl refl qis (coded_blocks f w h flags) predicted) (λ records.
      bind_refuses (tokens_refuses refl refl trees (coded_luma f w h flags) (length (coded_blocks f w h flags))) (λ t. pure_refuses _)))))

  pub frame_refuses : (trees : List Tree) (references : Bool) → Refuses packet_numbers (frame f w h trees references)
  unfolding frame among
  frame_refuses trees references =
      bind_refuses (header_refuses refl refl refl refl references) (λ head.
      bind_refuses (body_refuses trees head.kind (length head.qis)) (λ b. pure_refuses _))

  pub packet_refuses : (trees : List Tree) (references : Bool) (p : List ℕ) (k e : ℕ) → frame_packet f w h trees references p ≡ refused k e → among packet_numbers k ≡ true
  unfolding frame_packet among
  packet_refuses trees true [] k e r = no_mix r
  packet_refuses trees false [] k e r = let z : 9 ≡ k = cc in rw (← z) refl
  packet_refuses trees references (b ∷ p) k e r = (frame_refuses trees references).by (b ∷ p) 0 k e r

  -- a flag for each block
  pub flags_of_length : (kind : Kind) (p : List ℕ) (i : ℕ) {flags : List ℕ} {e : ℕ} → flags_of f w h kind p i ≡ got flags e → length flags ≡ blocks_of f w h
  unfolding flags_of
  flags_of_length kind p i {flags} {e} g = go (is_intra kind) g
    where
      go : (t : Bool) → pick t (pure (intra_flags f w h)) (inter_flags f w h) p i ≡ got flags e → length flags ≡ blocks_of f w h
      go true g = let z : intra_flags f w h ≡ flags = cc in ap length (sym z) ∙ intra_length f w h
      go false g = flags_length f w h p i flags e g

  -- ---- bits that are spent: for each block 19 of its flag, 38 of its qi index and 2816 of its tokens; for each super block 38, for each macro block 71 of its mode and vectors;
  -- 540 of the scheme and ranks of modes, the vector bit and the choices of tables; 25 of the header
  abbrev pub body_bits : ℕ
  body_bits = 540 + super_blocks_of f w h * 38 + blocks_of f w h * 2873 + macro_blocks_of w h * 71

  abbrev pub frame_bits : ℕ
  frame_bits = 25 + body_bits

  pub frame_below : w ≤ 65535 → h ≤ 65535 → frame_bits ≤ 2 ^ 50
  frame_below hw hh = let s = sizes_small f w h hw hh in omega (arith, s.macro_blocks, s.blocks, s.super_blocks)

  flags_of_spends : (kind : Kind) → Spends (super_blocks_of f w h * 38 + blocks_of f w h * 19) (flags_of f w h kind)
  unfolding flags_of
  flags_of_spends kind = pick_spends (is_intra kind) (λ _. spends_more (omega arith) (pure_spends _)) (λ _. flags_spends f w h)

  modes_of_spends : (kind : Kind) (flags : List ℕ) → Spends (27 + macro_blocks_of w h * 7) (modes_of f w h kind flags)
  unfolding modes_of
  modes_of_spends kind flags = pick_spends (is_intra kind) (λ _. spends_more (omega arith) (pure_spends [])) (λ _. macro_modes_spends flags (macro_blocks_of w h))

  -- at most a mode for each macro block
  modes_of_most : (kind : Kind) (flags p : List ℕ) (i : ℕ) {modes : List ℕ} {e : ℕ} → modes_of f w h kind flags p i ≡ got modes e → length modes ≤ macro_blocks_of w h
  unfolding modes_of
  modes_of_most kind flags p i {modes} {e} g = go (is_intra kind) g
    where
      go : (t : Bool) → pick t (pure []) (macro_modes flags (macro_blocks_of w h)) p i ≡ got modes e → length modes ≤ macro_blocks_of w h
      go true g = let z : [] ≡ modes = cc in omega (arith, ap length z)
      go false g = omega (arith, macro_modes_length flags (macro_blocks_of w h) p i g)

  vectors_of_spends : (kind : Kind) (modes : List ℕ) → length modes ≤ macro_blocks_of w h → (rs : List BlockRecord) → Spends (1 + macro_blocks_of w h * 64) (vectors_of f w h kind modes rs)
  unfolding vectors_of
  vectors_of_spends kind modes most rs = pick_spends (is_intra kind) (λ _. spends_more (omega arith) (pure_spends rs)) (λ _. spends_more (omega arith) (vectors_spends f w h modes rs))

  -- a packet that is not empty
  pub packet_some : (trees : List Tree) (references : Bool) (p : List ℕ) → 1 ≤ length p → frame_packet f w h trees references p ≡ frame f w h trees references p 0
  unfolding frame_packet
  packet_some trees references [] l = absurd (omega arith)
  packet_some trees references (b ∷ p) l = refl

  module _ (trees : List Tree) (proper : AllProper trees) where
    index_spends : (flags : List ℕ) → length flags ≡ blocks_of f w h → (modes : List ℕ) (qis : ℕ) → qis ≤ 3 → (rs : List BlockRecord) → Spends (512 + blocks_of f w h * 2854) (index_then trees qis flags modes rs)
    index_spends flags full modes qis few rs =
        spends_more (omega (arith, coded_most f w h flags full, steps))
        (bind_spends (qi_spends qis (coded_blocks f w h flags) rs) (λ records.
        bind_spends {b = 0} (tokens_spends trees proper (coded_luma f w h flags) (length (coded_blocks f w h flags)) (luma_most f w h flags full)) (λ t. pure_spends _)))
      where
        steps : (qis - 1) * (length (coded_blocks f w h flags) * 19) ≤ 2 * (length (coded_blocks f w h flags) * 19)
        steps = mul-le-mul (omega arith) (omega arith)

    body_spends : (kind : Kind) (qis : ℕ) → qis ≤ 3 → Spends body_bits (body f w h trees kind qis)
    unfolding body
    body_spends kind qis few =
        spends_more (omega arith)
        (bind_spends_got {b = 540 + blocks_of f w h * 2854 + macro_blocks_of w h * 71} (flags_of_spends kind) (λ flags p i e g.
        spends_more (omega arith)
        (bind_spends_got {b = 513 + blocks_of f w h * 2854 + macro_blocks_of w h * 64} (modes_of_spends kind flags) (λ modes q j d y.
        spends_more (omega arith)
        (bind_spends {b = 512 + blocks_of f w h * 2854} (vectors_of_spends kind modes (modes_of_most kind flags q j y) (coded_records f w h flags)) (λ predicted.
        index_spends flags (flags_of_length kind p i g) modes qis few predicted))))))

    pub frame_spends : (references : Bool) → Spends frame_bits (frame f w h trees references)
    unfolding frame
    frame_spends references =
        spends_more (omega arith)
        (bind_spends_got {b = body_bits} (header_spends references) (λ head p i e g.
        spends_more (omega arith)
        (bind_spends {b = 0} (body_spends head.kind (length head.qis) (header_fits references p i head e g).most) (λ b. pure_spends _))))

    -- so the part that is handed on to readers is read as the whole packet
    pub packet_readable : w ≤ 65535 → h ≤ 65535 → (references : Bool) (p : List ℕ) → frame_packet f w h trees references (readable p) ≡ frame_packet f w h trees references p
    packet_readable hw hh references [] = refl
    packet_readable hw hh references (b ∷ p) = go (b ∷ p) (omega arith)
      where
        some_front : (k : ℕ) (p : List ℕ) → 1 ≤ k → 1 ≤ length p → 1 ≤ length (take k p)
        some_front k p hk l = omega (arith, length-take k p)

        go : (p : List ℕ) → 1 ≤ length p → frame_packet f w h trees references (readable p) ≡ frame_packet f w h trees references p
        go p l =
            packet_some trees references (readable p) (some_front (2 ^ 58) p (omega arith) l)
            ∙ readable_same (frame_lawful trees references) (frame_spends references) (omega (arith, frame_below hw hh)) p
            ∙ sym (packet_some trees references p l)
