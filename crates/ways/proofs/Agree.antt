-- The two ways make the same frame.
-- Assumes nothing.
use mathlib.Core.Path.{◌≡◌, refl, sym, ap, ◌∙◌, subst}
use mathlib.Core.Bool.{Bool, true, false, true≢false, cond}
use mathlib.Core.List.{List, [], ◌∷◌, map}
use Prim.Native.Nat.{ℕ, ◌*◌, ◌<◌}
use native.Mathlib.Omega.{arith}
use lib.ListN.{length, get_or, set}
use lib.Seq.{ext_get_or}
use Rattle.geometry.specs.declared.PixelFormat.{PixelFormat}
use Rattle.geometry.specs.declared.Block.{Block}
use Rattle.geometry.specs.Sizes.{blocks_of}
use Rattle.geometry.specs.Frame.{InFrame}
use Rattle.geometry.specs.Raster.{raster_number, block_no, raster}
use Rattle.geometry.specs.Sample.{sample_at}
use Rattle.geometry.proofs.SampleLaws.{sample_below, sample_once, sample_hit}
use Rattle.ways.specs.Loops.{◌∈◌, up_to, over, passing, when}
use Rattle.ways.specs.Raster.{each_sample}
use Rattle.ways.specs.Ways.{Picture, made, filter_all, first_way, second_way, write_block, edges, only_coded}
use Rattle.ways.proofs.Members.{in_passing, of_passing, in_map, of_map}
use Rattle.ways.proofs.Steps.{Stays, Puts, Long, set_stays, set_puts, set_long, up_to_stays, up_to_puts, up_to_long, over_stays, over_puts, over_long, kept}
use Rattle.ways.proofs.Where.{Within, each_sample_at, samples_length, raster_inside, inside_raster}
use Rattle.geometry.proofs.RasterLaws.{number_of_block, block_at_number}

-- ---- a loop over all that does nothing at some is a loop over the others
pub over_passing : {A B : Type 0} (test : B → Bool) (f : B → A → A) (bs : List B) (a : A) → over bs (λ b. when (test b) (f b)) a ≡ over (passing test bs) f a
unfolding over passing
over_passing test f [] a = refl
over_passing {A} {B} test f (b ∷ bs) a = go (test b) (over_passing test f bs)
  where
    go : (t : Bool) → ((a : A) → over bs (λ b. when (test b) (f b)) a ≡ over (passing test bs) f a)
        → over bs (λ b. when (test b) (f b)) (cond t (f b a) a) ≡ over (cond t (b ∷ passing test bs) (passing test bs)) f a
    go true ih = ih (f b a)
    go false ih = ih a

passing_none : {B : Type 0} (test : B → Bool) (bs : List B) → ((b : B) → test b ≡ false) → passing test bs ≡ []
unfolding passing
passing_none test [] h = refl
passing_none test (b ∷ bs) h = rw (h b) (passing_none test bs h)

module _ (f : PixelFormat) (w h : ℕ) (pic : Picture) where
  -- the filter over all blocks is the filter over the coded ones
  pub filter_coded : (s : List ℕ) → filter_all f w h pic.coded pic.filtered s ≡ over (only_coded f w h pic) (edges f w h pic.coded pic.filtered) s
  unfolding filter_all only_coded
  filter_coded s = over_passing pic.coded (edges f w h pic.coded pic.filtered) (raster f w h) s

  -- ---- writing blocks
  -- one sample of a block
  abbrev put : Block → ℕ → ℕ → List ℕ → List ℕ
  put b r c s = set s (sample_at f w h b c r) (pic.sample b c r)

  pub write_long : (b : Block) → Long (write_block f w h pic b)
  unfolding write_block
  write_long b = up_to_long (λ r. up_to 8 (put b r)) 8 (λ r. up_to_long (put b r) 8 (λ c. set_long (sample_at f w h b c r) (pic.sample b c r)))

  module _ (a : Block) (c r : ℕ) (o : Within f w h a c r) where
    -- what a block's write puts at this sample's address is this sample
    here_is : (b : Block) (c' r' : ℕ) → Within f w h b c' r' → sample_at f w h b c' r' ≡ sample_at f w h a c r → (b ≡ a) × (pic.sample b c' r' ≡ pic.sample a c r)
    here_is b c' r' o' e =
        let q = sample_once f w h b a c' r' c r o'.inside o'.column o'.row o.inside o.column o.row e in
        (q.0, λ i. pic.sample (q.0 i) (q.1 i) (q.2 i))

    write_stays : (v : ℕ) (b : Block) → InFrame f w h b → (b ≡ a → pic.sample a c r ≡ v) → Stays (sample_at f w h a c r) v (write_block f w h pic b)
    unfolding write_block
    write_stays v b i mine =
        up_to_stays (λ r. up_to 8 (put b r)) 8
        (λ r' l. up_to_stays (put b r') 8
        (λ c' k. set_stays (sample_at f w h b c' r') (pic.sample b c' r')
        (λ e. let t = here_is b c' r' (record { inside = i; column = k; row = l }) e in t.1 ∙ mine t.0)))

    write_puts : Puts (sample_at f w h a c r) (pic.sample a c r) (write_block f w h pic a)
    unfolding write_block
    write_puts =
        let stays : (r' : ℕ) → r' < 8 → (c' : ℕ) → c' < 8 → Stays (sample_at f w h a c r) (pic.sample a c r) (put a r' c') =
        λ r' l c' k. set_stays (sample_at f w h a c' r') (pic.sample a c' r') (λ e. (here_is a c' r' (record { inside = o.inside; column = k; row = l }) e).1) in
        let long : (r' c' : ℕ) → Long (put a r' c') = λ r' c'. set_long (sample_at f w h a c' r') (pic.sample a c' r') in
        up_to_puts (λ r'. up_to 8 (put a r')) 8 (λ r' l. up_to_stays (put a r') 8 (stays r' l)) (λ r'. up_to_long (put a r') 8 (long r')) r o.row
        (up_to_puts (put a r) 8 (stays r o.row) (long r) c o.column (set_puts (sample_at f w h a c r) (pic.sample a c r) refl refl))

  -- a list of the coded blocks, each at least once, in any order
  pub record Coded (bs : List Block) : Type 0 where
    pub only : (b : Block) → b ∈ bs → InFrame f w h b × (pic.coded b ≡ true)
    pub every : (b : Block) → InFrame f w h b → pic.coded b ≡ true → b ∈ bs

  pub raster_coded : Coded (only_coded f w h pic)
  unfolding only_coded
  raster_coded = record {
    only = λ b m. let t = of_passing pic.coded (raster f w h) b m in (raster_inside f w h b t.0, t.1);
    every = λ b i t. in_passing pic.coded (raster f w h) b (inside_raster f w h b i) t;
  }

  -- the coded blocks by their raster numbers, in any order
  pub numbers_coded : (ns : List ℕ) → ((n : ℕ) → n ∈ ns → (n < blocks_of f w h) × (pic.coded (block_no f w h n) ≡ true))
      → ((b : Block) → InFrame f w h b → pic.coded b ≡ true → raster_number f w h b ∈ ns) → Coded (map (block_no f w h) ns)
  numbers_coded ns only every = record {
    only = λ b m.
        let t = of_map (block_no f w h) ns b m in
        let n = only t.0 t.1 in
        (subst (InFrame f w h) (sym t.2) (number_of_block f w h t.0 n.0).0, ap pic.coded t.2 ∙ n.1);
    every = λ b i t. subst (λ (a : Block). a ∈ map (block_no f w h) ns) (block_at_number f w h b i) (in_map (block_no f w h) ns (raster_number f w h b) (every b i t));
  }

  module _ (previous : List ℕ) (len : length previous ≡ 64 * blocks_of f w h) (bs : List Block) (all : Coded bs) where
    abbrev written : List ℕ
    written = over bs (write_block f w h pic) previous

    -- an uncoded block is written by nobody
    pub uncoded_written : (b : Block) (c r : ℕ) → Within f w h b c r → pic.coded b ≡ false → get_or written (sample_at f w h b c r) 0 ≡ get_or previous (sample_at f w h b c r) 0
    uncoded_written b c r o t =
        kept previous (over_stays (write_block f w h pic) bs
        (λ a m. write_stays b c r o _ a (all.only a m).0 (λ e. absurd (true≢false (sym (all.only a m).1 ∙ ap pic.coded e ∙ t)))))

    coded_written : (b : Block) (c r : ℕ) → Within f w h b c r → pic.coded b ≡ true → get_or written (sample_at f w h b c r) 0 ≡ pic.sample b c r
    coded_written b c r o t =
        (over_puts (write_block f w h pic) bs (λ a m. write_stays b c r o _ a (all.only a m).0 (λ e. refl)) write_long b (all.every b o.inside t) (write_puts b c r o)
        ).puts previous (let k = sample_below f w h b c r o.inside o.column o.row in omega arith)

    written_at : (b : Block) (c r : ℕ) → Within f w h b c r → get_or written (sample_at f w h b c r) 0 ≡ made f w h pic previous b c r
    unfolding made
    written_at b c r o = go (pic.coded b) refl
      where
        go : (t : Bool) → pic.coded b ≡ t → get_or written (sample_at f w h b c r) 0 ≡ cond t (pic.sample b c r) (get_or previous (sample_at f w h b c r) 0)
        go true t = coded_written b c r o t
        go false t = uncoded_written b c r o t

    -- the coded blocks written over previous, in whatever order: all blocks made
    pub written_made : written ≡ each_sample f w h (made f w h pic previous)
    written_made =
        let long : length written ≡ 64 * blocks_of f w h = (over_long (write_block f w h pic) bs write_long).long previous ∙ len in
        ext_get_or 0 written (each_sample f w h (made f w h pic previous)) (long ∙ sym (samples_length f w h (made f w h pic previous)))
        (λ i l. let t = sample_hit f w h i (omega arith) in
        let b = t.0.block in
        let c = t.0.column in
        let r = t.0.row in
        let o : Within f w h b c r = record { inside = t.1.in_frame; column = t.1.column; row = t.1.row } in
        ap (λ (k : ℕ). get_or written k 0) (sym t.1.lies)
        ∙ written_at b c r o
        ∙ sym (each_sample_at f w h (made f w h pic previous) 0 b c r o)
        ∙ ap (λ (k : ℕ). get_or (each_sample f w h (made f w h pic previous)) k 0) t.1.lies)

    -- so whoever writes the coded blocks over previous, in any order, and then filters makes the frame of the first way
    pub any_order : filter_all f w h pic.coded pic.filtered written ≡ first_way f w h pic previous
    unfolding first_way
    any_order = ap (filter_all f w h pic.coded pic.filtered) written_made

  -- the two ways make the same frame
  pub ways_agree : (previous : List ℕ) → length previous ≡ 64 * blocks_of f w h → first_way f w h pic previous ≡ second_way f w h pic previous
  unfolding second_way
  ways_agree previous len =
      sym (any_order previous len (only_coded f w h pic) raster_coded) ∙ filter_coded (over (only_coded f w h pic) (write_block f w h pic) previous)

  -- "An empty packet codes no block": where no block is coded, previous is the frame
  pub nothing_coded : (previous : List ℕ) → ((b : Block) → pic.coded b ≡ false) → second_way f w h pic previous ≡ previous
  unfolding second_way only_coded over
  nothing_coded previous none =
      ap (λ (bs : List Block). over bs (edges f w h pic.coded pic.filtered) (over bs (write_block f w h pic) previous)) (passing_none pic.coded (raster f w h) none)
