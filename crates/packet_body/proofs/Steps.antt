-- What each function has to show, over plain lists and outcomes. Assumes nothing.
use Prim.Native.Nat.{ℕ, ◌-◌, ◌*◌, ◌≤◌, ◌^◌}
use native.Mathlib.Omega.{arith}
use native.Mathlib.Nat.{sub-zero}
use mathlib.Core.Path.{◌≡◌, refl, sym, ap, ◌∙◌, subst}
use mathlib.Core.List.{List, [], ◌++◌, map, append-nil}
use mathlib.Core.Bool.{false}
use lib.IntN.{ℤ, pos}
use lib.ListN.{length, take, drop, replicate, length-append, length-replicate, take-append-drop}
use lib.Seq.{take_at, length-take-le}
use Rattle.bitstream.specs.Reading.{Outcome, got, refused, after, bind}
use Rattle.bitstream.proofs.Fields.{no_mix}
use Rattle.bitstream.proofs.Laws.{bind_step, bind_got}
use Rattle.huffman.specs.Tree.{Tree}
use Rattle.buffer.proofs.Laws.{take_cleared, drop_cleared}
use Rattle.geometry.specs.declared.PixelFormat.{PixelFormat}
use Rattle.geometry.specs.declared.PixelFormat.TheVariants.{Chroma420, Chroma422, Chroma444}
use Rattle.geometry.specs.Sizes.{blocks_of, super_blocks_of, macro_blocks_of}
use Rattle.geometry.proofs.SizeLaws.{blocks_each_law, sizes_small}
use Rattle.bitstream.specs.declared.End.{End}
use Rattle.bitstream.specs.declared.End.TheVariants as end
use Rattle.bitstream.specs.Answer.{IfGot, Stored, StoredAs, as_end}
use Rattle.bitstream.specs.Lists.{Once, AllBelow}
use Rattle.block_record.specs.declared.BlockRecord.{BlockRecord}
use Rattle.block_record.specs.Packed.{packed}
use Rattle.block_record.specs.Memory.{AllPacked, records_of}
use Rattle.block_record.proofs.MemoryLaws.{AllInRange, all_packed, records_packed}
use Rattle.frame_header.specs.declared.Kind.{Kind}
use Rattle.frame_header.specs.declared.Kind.TheVariants.{Intra, Inter, Repeat}
use Rattle.coded_list.specs.declared.Listed.{Listed}
use Rattle.coded_flags.specs.Flags.{inter_flags, intra_flags}
use Rattle.coded_flags.specs.Coded.{coded_blocks, coded_luma, coded_records}
use Rattle.coded_list.specs.Answer.{listed_of}
use Rattle.coded_flags.proofs.CodedLaws.{coded_once, coded_below, luma_most, coded_in_range}
use Rattle.modes.specs.Modes.{macro_modes}
use Rattle.modes.proofs.Laws.{macro_modes_length}
use Rattle.vectors.specs.Vectors.{vectors}
use Rattle.vectors.proofs.Laws.{Keeps}
use Rattle.block_qi.specs.BlockQi.{block_qi}
use Rattle.tokens.specs.Tokens.{Tokens, read_tokens}
use Rattle.tokens.specs.declared.Counted.{Counted}
use Rattle.tokens.specs.declared.Counted.TheVariants as counted
use Rattle.tokens.specs.Answer as tokens
use Rattle.work_memory.specs.Memory.{Work, work}
use Rattle.work_memory.specs.Lengths.{published, cleared}
use Rattle.packet_body.specs.declared.CodedRead.{CodedRead}
use Rattle.packet_body.specs.declared.CodedRead.TheVariants as answer
use Rattle.packet_body.specs.declared.Read.TheVariants as read
use Rattle.packet_body.specs.Frame.{Body, is_intra, flags_of, modes_of, vectors_of, body}
use Rattle.packet_body.specs.Work.{padded, LeftBy, Left, as_coded, StoredCoded, predictions, StoredModes, StoredTokens, as_read}
use Rattle.packet_body.proofs.Laws.{made}
use Rattle.packet_body.proofs.Fits.{vectors_of_keep}

-- ---- the published lengths
pub record Sized (f : PixelFormat) (w h : ℕ) (m : Work) : Type 0 where
  pub records : length m.records ≡ blocks_of f w h
  pub coded : length m.coded ≡ blocks_of f w h
  pub coefs : length m.coefs ≡ 64 * blocks_of f w h
  pub lasts : length m.lasts ≡ blocks_of f w h
  pub flags : length m.flags ≡ blocks_of f w h
  pub bits : length m.bits ≡ blocks_of f w h
  pub supers : length m.supers ≡ 2 * super_blocks_of f w h
  pub modes : length m.modes ≡ macro_blocks_of w h
  pub active : length m.active ≡ blocks_of f w h

pub sized : (f : PixelFormat) (w h : ℕ) (m : Work) → m ≡ (cleared (published f w h)).work → Sized f w h m
sized f w h m e =
    let n = length-replicate {A = ℕ} (blocks_of f w h) 0 in
    rw e (record {
      records = n;
      coded = n;
      coefs = length-replicate (64 * blocks_of f w h) (pos 0);
      lasts = n;
      flags = n;
      bits = n;
      supers = length-replicate (2 * super_blocks_of f w h) 0;
      modes = length-replicate (macro_blocks_of w h) 0;
      active = n;
    })

-- ---- kinds
-- a kind that is not the first
pub not_intra : (k : Kind) → (k ≡ Intra → ⊥) → is_intra k ≡ false
not_intra Intra o = absurd (o refl)
not_intra Inter o = refl
not_intra Repeat o = refl

-- ---- flags
module _ (f : PixelFormat) (w h : ℕ) (k : Kind) (p : List ℕ) (i : ℕ) where
  pub flags_intra : (out : List ℕ) (n : ℕ) → k ≡ Intra → out ≡ replicate n 1 → n ≡ blocks_of f w h → (end.At i ≡ as_end (flags_of f w h k p i)) × Stored out (flags_of f w h k p i)
  unfolding flags_of intra_flags
  flags_intra out n e a b = rw e (refl, a ∙ ap (λ (m : ℕ). replicate m 1) b)

  pub flags_inter : (out : List ℕ) {r : End} → is_intra k ≡ false → r ≡ as_end (inter_flags f w h p i) → Stored out (inter_flags f w h p i)
      → (r ≡ as_end (flags_of f w h k p i)) × Stored out (flags_of f w h k p i)
  unfolding flags_of
  flags_inter out e a b = rw e (a, b)

-- ---- a list with zeros behind it
module _ {A : Type 0} (z : A) where
  pub padded_by : (n k : ℕ) (l t : List A) → length l ≡ n → k ≤ n → take k l ≡ t → drop k l ≡ replicate (n - k) z → l ≡ padded z n t
  padded_by n k l t e h a b =
      let m : k ≡ length t = sym (length-take-le k l (omega arith)) ∙ ap length a in
      sym (take-append-drop k l) ∙ (λ i. a i ++ b i) ∙ ap (λ (j : ℕ). t ++ replicate (n - j) z) m

-- ---- the coded blocks
module _ (f : PixelFormat) (w h : ℕ) (o : Outcome (List ℕ)) where
  pub on_no_flags : (flags records coded : List ℕ) {k e : ℕ} → o ≡ refused k e → (answer.Refused k e ≡ as_coded f w h o) × StoredCoded f w h flags records coded o
  on_no_flags flags records coded g = rw g (refl, tt)

  pub on_coded : (flags records coded coded₀ : List ℕ) {e : ℕ} (l : Listed) → o ≡ got flags e → l ≡ listed_of f w h flags → records ≡ map packed (coded_records f w h flags)
      → coded₀ ≡ replicate (blocks_of f w h) 0 → coded ≡ coded_blocks f w h flags ++ drop (length (coded_blocks f w h flags)) coded₀
      → (answer.Listed l.count l.luma e ≡ as_coded f w h o) × StoredCoded f w h flags records coded o
  on_coded flags records coded coded₀ {e} l g a b z c =
      rw g (
        ap (λ (x : Listed). answer.Listed x.count x.luma e) a,
        (refl, b, c ∙ ap (λ (x : List ℕ). coded_blocks f w h flags ++ x) (ap (drop (length (coded_blocks f w h flags))) z ∙ drop_cleared 0 (length (coded_blocks f w h flags)) (blocks_of f w h))),
      )

-- ---- the tokens, where the slices are all zero
module _ (n count : ℕ) (h : count ≤ n) (ps ls : List ℕ) (cs : List ℤ) (bs : List ℕ) (p : ps ≡ replicate n 0) (l : ls ≡ replicate n 0) (c : cs ≡ replicate (64 * n) (pos 0)) (b : bs ≡ replicate n 0) where
  pub all_cleared : n ≤ 2 ^ 36 → tokens.Cleared count ps ls cs bs
  all_cleared m = record {
    few = omega arith;
    positions = ap (take count) p ∙ take_cleared 0 count n h;
    lasts = ap (take count) l ∙ take_cleared 0 count n h;
    coefs = ap (take (64 * count)) c ∙ take_cleared (pos 0) (64 * count) (64 * n) (omega arith);
    active = omega (arith, ap length b, length-replicate {A = ℕ} n 0);
  }

  pub tokens_stored : (o : Outcome Tokens) (ps' ls' : List ℕ) (cs' : List ℤ) (bs' : List ℕ) → length ls' ≡ length ls → length cs' ≡ length cs
      → tokens.Stored count ls' cs' o → tokens.Untouched count ps ls cs bs ps' ls' cs' bs' → StoredTokens n count cs' ls' ps' bs' o
  tokens_stored (got t e) ps' ls' cs' bs' el ec s u = (
    padded_by (pos 0) (64 * n) (64 * count) cs' t.coefs (ec ∙ ap length c ∙ length-replicate (64 * n) (pos 0)) (omega arith) s.1 (u.coefs ∙ ap (drop (64 * count)) c ∙ drop_cleared (pos 0) (64 * count) (64 * n)),
    padded_by 0 n count ls' t.lasts (el ∙ ap length l ∙ length-replicate n 0) h s.0 (u.lasts ∙ ap (drop count) l ∙ drop_cleared 0 count n),
    u.positions ∙ ap (drop count) p ∙ drop_cleared 0 count n,
    u.active ∙ ap (drop count) b ∙ drop_cleared 0 count n,
  )
  tokens_stored (refused k e) ps' ls' cs' bs' el ec s u = tt

-- ---- the records: predictions, and then qi indices
-- the same answer of an outcome that is the same
pub same_stored : {A : Type 0} (form : A → List ℕ) (out : List ℕ) {r : End} {o o' : Outcome A} → o ≡ o' → r ≡ as_end o' → StoredAs form out o' → (r ≡ as_end o) × StoredAs form out o
same_stored form out e a b = rw e (a, b)

-- four luma blocks to a macro block
pub macro_blocks_fit : (f : PixelFormat) (w h : ℕ) → macro_blocks_of w h * 4 ≤ blocks_of f w h
macro_blocks_fit Chroma420 w h = omega (arith, blocks_each_law Chroma420 w h)
macro_blocks_fit Chroma422 w h = omega (arith, blocks_each_law Chroma422 w h)
macro_blocks_fit Chroma444 w h = omega (arith, blocks_each_law Chroma444 w h)

module _ (f : PixelFormat) (w h : ℕ) (k : Kind) (flags : List ℕ) (rs : List BlockRecord) (p : List ℕ) (i : ℕ) where
  pub predictions_none : k ≡ Intra → predictions f w h k flags rs p i ≡ got rs i
  unfolding predictions modes_of vectors_of
  predictions_none e = rw e refl

  module _ (e : is_intra k ≡ false) where
    pub predictions_modes : {n d : ℕ} → macro_modes flags (macro_blocks_of w h) p i ≡ refused n d → predictions f w h k flags rs p i ≡ refused n d
    unfolding predictions modes_of vectors_of
    predictions_modes g = rw (e, g)

    pub predictions_vectors : {modes : List ℕ} {d : ℕ} → macro_modes flags (macro_blocks_of w h) p i ≡ got modes d → predictions f w h k flags rs p i ≡ vectors f w h modes rs p d
    unfolding predictions modes_of vectors_of
    predictions_vectors g = rw (e, g)

  -- the modes as the slice has them: it was all zero before
  pub modes_none : (modes : List ℕ) → k ≡ Intra → modes ≡ replicate (macro_blocks_of w h) 0 → StoredModes f w h modes (modes_of f w h k flags p i)
  unfolding modes_of
  modes_none modes e z = rw e (z ∙ ap (λ (n : ℕ). replicate n 0) (sym (sub-zero (macro_blocks_of w h))))

  pub modes_stored : (modes : List ℕ) → is_intra k ≡ false → {d : ℕ} → macro_modes flags (macro_blocks_of w h) p i ≡ got modes d → StoredModes f w h modes (modes_of f w h k flags p i)
  unfolding modes_of
  modes_stored modes e g =
      let z : macro_blocks_of w h - length modes ≡ 0 = omega (arith, macro_modes_length flags (macro_blocks_of w h) p i g) in
      rw (e, g) (sym (append-nil modes) ∙ ap (λ (n : ℕ). modes ++ replicate n 0) (sym z))

  pub modes_refused : (modes : List ℕ) → is_intra k ≡ false → {n d : ℕ} → macro_modes flags (macro_blocks_of w h) p i ≡ refused n d → StoredModes f w h modes (modes_of f w h k flags p i)
  unfolding modes_of
  modes_refused modes e g = rw (e, g) tt

  -- predictions change nothing else of the records
  predictions_keep : {ss : List BlockRecord} {e : ℕ} → AllInRange rs → predictions f w h k flags rs p i ≡ got ss e → Keeps rs ss
  unfolding predictions
  predictions_keep a g =
      let u = bind_got (modes_of f w h k flags) (λ modes. vectors_of f w h k modes rs) p i g in
      vectors_of_keep f w h k u.0 rs p u.1 a u.3

  -- the predictions as the slice has them
  module _ (l : List ℕ) (a : AllInRange rs) {ss : List BlockRecord} {e : ℕ} (g : predictions f w h k flags rs p i ≡ got ss e) (s : l ≡ map packed ss) where
    in_range : AllInRange ss
    in_range = (predictions_keep a g).in_range

    pub predicted_packed : AllPacked l
    predicted_packed = subst AllPacked (sym s) (all_packed ss in_range)

    pub predicted_then : (qis : ℕ) (coded : List ℕ) → bind (predictions f w h k flags rs) (block_qi qis coded) p i ≡ block_qi qis coded (records_of l) p e
    predicted_then qis coded = bind_step (predictions f w h k flags rs) (block_qi qis coded) p i g ∙ ap (λ (x : List BlockRecord). block_qi qis coded x p e) (sym (ap records_of s ∙ records_packed ss in_range))

-- ---- the body, part by part
pub coded_refused : (f : PixelFormat) (w h : ℕ) (o : Outcome (List ℕ)) {r : CodedRead} {k e : ℕ} → r ≡ as_coded f w h o → r ≡ answer.Refused k e → o ≡ refused k e
coded_refused f w h (got l d) s g = let z : ◌≡◌ {A = ℕ} 0 1 = cc in absurd (omega arith)
coded_refused f w h (refused j d) s g = cc

-- what stands in the slices behind the flags
pub record Listing (f : PixelFormat) (w h : ℕ) (o : Outcome (List ℕ)) (flags records coded : List ℕ) (count luma place : ℕ) : Type 0 where
  pub there : o ≡ got flags place
  pub counted : count ≡ length (coded_blocks f w h flags)
  pub lumas : luma ≡ coded_luma f w h flags
  pub recorded : records ≡ map packed (coded_records f w h flags)
  pub numbers : coded ≡ padded 0 (blocks_of f w h) (coded_blocks f w h flags)

pub coded_listed : (f : PixelFormat) (w h : ℕ) (o : Outcome (List ℕ)) (flags records coded : List ℕ) {r : CodedRead} {count luma place : ℕ} → r ≡ as_coded f w h o → StoredCoded f w h flags records coded o
    → r ≡ answer.Listed count luma place → Listing f w h o flags records coded count luma place
coded_listed f w h (got l d) flags records coded {r} {count} {luma} {place} s t g =
    let z : answer.Listed (length (coded_blocks f w h l)) (coded_luma f w h l) d ≡ answer.Listed count luma place = sym s ∙ g in
    let y : flags ≡ l = t.0 in
    record { there = cc; counted = cc; lumas = cc; recorded = t.1 ∙ ap (λ (x : List ℕ). map packed (coded_records f w h x)) (sym y); numbers = t.2 ∙ ap (λ (x : List ℕ). padded 0 (blocks_of f w h) (coded_blocks f w h x)) (sym y) }
coded_listed f w h (refused j d) flags records coded s t g = let z : ◌≡◌ {A = ℕ} 0 1 = cc in absurd (omega arith)

after_after : {A B C : Type 0} (o : Outcome A) (m : A → ℕ → Outcome B) (g : B → ℕ → Outcome C) → after o (λ a e. after (m a e) g) ≡ after (after o m) g
after_after (got a e) m g = refl
after_after (refused k e) m g = refl

-- the list that was got, none after a refusal
abbrev list_of : Outcome (List ℕ) → List ℕ
list_of (got l e) = l
list_of (refused k e) = []

-- what came first is needed again at last: it is there if what stands between them is
module _ {A B C : Type 0} (o : Outcome (List ℕ)) (then : List ℕ → ℕ → Outcome A) (next : A → ℕ → Outcome B) where
  first_at_last : (last : List ℕ → B → ℕ → Outcome C) → after o (λ l d. after (then l d) (λ a e. after (next a e) (last l))) ≡ after (after (after o then) next) (last (list_of o))
  first_at_last last = go o
    where
      go : (o : Outcome (List ℕ)) → after o (λ l d. after (then l d) (λ a e. after (next a e) (last l))) ≡ after (after (after o then) next) (last (list_of o))
      go (got l d) = after_after (then l d) next (last l)
      go (refused k e) = refl

module _ {A B : Type 0} (o : Outcome (List ℕ)) (then : List ℕ → ℕ → Outcome A) (next : A → ℕ → Outcome B) where
  first_there : (P : List ℕ → Type 0) → IfGot P o → {b : B} {e : ℕ} → after (after o then) next ≡ got b e → P (list_of o)
  first_there P s {b} {e} g = go o s g
    where
      go : (o : Outcome (List ℕ)) → IfGot P o → after (after o then) next ≡ got b e → P (list_of o)
      go (got l d) s g = s
      go (refused k d) s g = no_mix (sym g)

module _ (f : PixelFormat) (w h : ℕ) (trees : List Tree) (k : Kind) (qis : ℕ) (p : List ℕ) (i : ℕ) where
  pub body_flags : {n e : ℕ} → flags_of f w h k p i ≡ refused n e → body f w h trees k qis p i ≡ refused n e
  unfolding body
  body_flags g = rw g

  module _ (flags records coded : List ℕ) (count luma place : ℕ) (x : Listing f w h (flags_of f w h k p i) flags records coded count luma place) where
    pub listed_fits : count ≤ length coded
    listed_fits = omega (arith, x.counted, ap length x.numbers, length-append (coded_blocks f w h flags) (replicate (blocks_of f w h - length (coded_blocks f w h flags)) 0))

    -- there is room for the coded blocks where there is room for all
    pub listed_room : (n : ℕ) → length coded ≡ blocks_of f w h → n ≡ blocks_of f w h → count ≤ n
    listed_room n e b = omega (arith, listed_fits)

    pub listed_part : (n : ℕ) → length coded ≡ blocks_of f w h → n ≡ blocks_of f w h → length (take count coded) ≤ n
    listed_part n e b = omega (arith, length-take-le count coded listed_fits, listed_room n e b)

    listed_taken : take count coded ≡ coded_blocks f w h flags
    listed_taken = ap (take count) x.numbers ∙ take_at (coded_blocks f w h flags) _ count (sym x.counted)

    pub listed_once : Once (take count coded)
    listed_once = subst Once (sym listed_taken) (coded_once f w h flags)

    pub listed_below : AllBelow (blocks_of f w h) (take count coded)
    listed_below = subst (AllBelow (blocks_of f w h)) (sym listed_taken) (coded_below f w h flags)

    pub listed_packed : AllPacked records
    listed_packed = subst AllPacked (sym x.recorded) (all_packed (coded_records f w h flags) (coded_in_range f w h flags))

    listed_records : records_of records ≡ coded_records f w h flags
    listed_records = ap records_of x.recorded ∙ records_packed (coded_records f w h flags) (coded_in_range f w h flags)

    pub listed_luma : length flags ≡ blocks_of f w h → luma ≤ count
    listed_luma full = omega (arith, x.counted, x.lumas, luma_most f w h flags full)

    abbrev pub indexed : Outcome (List BlockRecord)
    indexed = bind (predictions f w h k flags (records_of records)) (block_qi qis (take count coded)) p place

    abbrev sent : Outcome (List ℕ)
    sent = modes_of f w h k flags p place

    abbrev pub whole : List BlockRecord → Tokens → Body
    whole rs t = made f w h flags (list_of sent) rs t

    abbrev behind : List BlockRecord → ℕ → Outcome Body
    behind rs e = after (read_tokens trees luma count p e) (λ t d. got (whole rs t) d)

    body_after : body f w h trees k qis p i ≡ after indexed behind
    unfolding body predictions
    body_after =
        rw x.there
        (first_at_last sent (λ modes d. vectors_of f w h k modes (coded_records f w h flags) p d) (λ rs e. block_qi qis (coded_blocks f w h flags) rs p e)
        (λ modes rs e. after (read_tokens trees (coded_luma f w h flags) (length (coded_blocks f w h flags)) p e) (λ t d. got (made f w h flags modes rs t) d))
        ∙ (λ j. after (after (after sent (λ modes d. vectors_of f w h k modes (sym listed_records j) p d)) (λ rs e. block_qi qis (sym listed_taken j) rs p e))
        (λ rs e. after (read_tokens trees (sym x.lumas j) (sym x.counted j) p e) (λ t d. got (whole rs t) d))))

    pub body_index : {n e : ℕ} → indexed ≡ refused n e → body f w h trees k qis p i ≡ refused n e
    body_index g = body_after ∙ ap (λ (o : Outcome (List BlockRecord)). after o behind) g

    module _ {rs : List BlockRecord} {e : ℕ} (g : indexed ≡ got rs e) where
      pub body_tokens : {n d : ℕ} → read_tokens trees luma count p e ≡ refused n d → body f w h trees k qis p i ≡ refused n d
      body_tokens q = body_after ∙ ap (λ (o : Outcome (List BlockRecord)). after o behind) g ∙ ap (λ (o : Outcome Tokens). after o (λ t d. got (whole rs t) d)) q

      pub body_whole : {t : Tokens} {d : ℕ} → read_tokens trees luma count p e ≡ got t d → body f w h trees k qis p i ≡ got (whole rs t) d
      body_whole q = body_after ∙ ap (λ (o : Outcome (List BlockRecord)). after o behind) g ∙ ap (λ (o : Outcome Tokens). after o (λ t d. got (whole rs t) d)) q

    -- what stands in the slices then
    pub left_by : (n : ℕ) (rs : List BlockRecord) (t : Tokens) (e : ℕ) (records' : List ℕ) (cs : List ℤ) (ls flags' bs supers modes active : List ℕ) → n ≡ blocks_of f w h → records' ≡ map packed rs
        → {d : ℕ} → indexed ≡ got rs d → StoredModes f w h modes sent → StoredTokens n count cs ls bs active (got t e) → LeftBy f w h (whole rs t) (work records' coded cs ls flags' bs supers modes active)
    unfolding predictions
    left_by n rs t e records' cs ls flags' bs supers modes active en r {d} g m s = record {
      records = r;
      coded = x.numbers;
      coefs = s.0 ∙ ap (λ (m : ℕ). padded (pos 0) (64 * m) t.coefs) en;
      lasts = s.1 ∙ ap (λ (m : ℕ). padded 0 m t.lasts) en;
      modes = first_there sent (λ ms e. vectors_of f w h k ms (records_of records) p e) (λ rs e. block_qi qis (take count coded) rs p e) (λ l. modes ≡ padded 0 (macro_blocks_of w h) l) m g;
      bits = subst (λ (c : ℕ). drop c bs ≡ replicate (blocks_of f w h - c) 0) x.counted (s.2 ∙ ap (λ (m : ℕ). replicate (m - count) 0) en);
      active = subst (λ (c : ℕ). drop c active ≡ replicate (blocks_of f w h - c) 0) x.counted (s.3 ∙ ap (λ (m : ℕ). replicate (m - count) 0) en);
    }

pub blocks_few : (f : PixelFormat) (w h n : ℕ) → w ≤ 65535 → h ≤ 65535 → n ≡ blocks_of f w h → n ≤ 2 ^ 36
blocks_few f w h n hw hh e = omega (arith, (sizes_small f w h hw hh).blocks)

-- ---- the answer of the tokens, by its arm
pub counted_refused : (o : Outcome Tokens) {r : Counted} {k e : ℕ} → r ≡ tokens.as_counted o → r ≡ counted.Refused k e → o ≡ refused k e
counted_refused (got l d) s g = let z : ◌≡◌ {A = ℕ} 0 1 = cc in absurd (omega arith)
counted_refused (refused j d) s g = cc

pub counted_done : (o : Outcome Tokens) (n count : ℕ) (cs : List ℤ) (ls bs active : List ℕ) {r : Counted} {e number : ℕ} → r ≡ tokens.as_counted o → StoredTokens n count cs ls bs active o → r ≡ counted.Done e number
    → (t : Tokens) × (o ≡ got t e) × (number ≡ t.tokens) × StoredTokens n count cs ls bs active (got t e)
counted_done (got t d) n count cs ls bs active {r} {e} {number} s h g = let z : counted.Done d t.tokens ≡ counted.Done e number = sym s ∙ g in (t, cc, cc, h)
counted_done (refused j d) n count cs ls bs active s h g = let z : ◌≡◌ {A = ℕ} 0 1 = cc in absurd (omega arith)

-- ---- what a return of the body has to show
module _ (f : PixelFormat) (w h : ℕ) (m : Work) (o : Outcome Body) where
  pub on_no_body : {k e : ℕ} → o ≡ refused k e → (read.Refused k e ≡ as_read o) × Left f w h m o
  on_no_body g = rw g (refl, tt)

  pub on_body : {b : Body} {e count number : ℕ} → o ≡ got b e → count ≡ length b.coded → number ≡ b.tokens.tokens → LeftBy f w h b m → (read.Whole count number e ≡ as_read o) × Left f w h m o
  on_body {b} {e} g a n l = rw g ((λ i. read.Whole (a i) (n i) e), l)
