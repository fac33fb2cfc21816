use Prim.Native.Nat.{ℕ, ◌+◌, ◌*◌, ◌%◌, ◌<◌}
use native.Mathlib.Omega.{arith}
use mathlib.Core.Path.{◌≡◌, refl, ap, ◌∙◌, subst}
use mathlib.Core.List.{List, [], ◌∷◌, ◌++◌}
use lib.IntN.{ℤ, pos}
use lib.ListN.{length, get_or, take, length-set}
use mir.Syntax.{w32}
use Rattle.numeric.proofs.Magnitude.{size}
use Rattle.numeric.proofs.Known.{Known, k_made, k_add, ask_add}
use Rattle.geometry.specs.Order.{in_turn}
use Rattle.colour_tables.specs.Rule.{luma, entry, contributions}
use Rattle.rgb.specs.Pixel.{to_byte}
use Rattle.colour_tables.specs.Parts.{of_cb, of_cr, three, chroma_rows}
use Rattle.colour_tables.proofs.Tables.{tables_length, luma_at}
use Rattle.rgb.proofs.Facts.{sum_is, laid, no_bytes, byte_more, bytes_done}
use Rattle.colour_tables.proofs.Parts.{rows_length, cb_at, cr_at, cb_small, cr_small}
use Rattle.rgb.proofs.put_pixel.Goals as goal

-- the two entries of the rows, and luma
module _ (rows : List ℤ) (is : rows ≡ chroma_rows) (first j : ℕ) (turn : first % 3 ≡ 0) (inside : first + j < 9) where
  abbrev one : (cb : ℕ) → cb < 256 → Known w32 (get_or (three (of_cb cb)) (j % 3) (pos 0)) 33587200
  one cb h =
      k_made (ap (λ (l : List ℤ). get_or l (9 * cb + first + j) (pos 0)) is ∙ cb_at cb first j h turn inside)
      (size (cb_small cb (j % 3) h)) tt

  abbrev two : (cr : ℕ) → cr < 256 → Known w32 (get_or (three (of_cr cr)) (j % 3) (pos 0)) 33587200
  two cr h =
      k_made (ap (λ (l : List ℤ). get_or l (2304 + 9 * cr + first + j) (pos 0)) is ∙ cr_at cr first j h turn inside)
      (size (cr_small cr (j % 3) h)) tt

abbrev light : (tables : List ℤ) → tables ≡ contributions → (y : ℕ) → y < 256 → Known w32 (entry luma y) 33554432
light tables is y h = let t = luma_at y h in k_made (ap (λ (l : List ℤ). get_or l y (pos 0)) is ∙ t.there) (size t.small) tt

pub bounds-tables-y : goal.bounds-tables-y
bounds-tables-y c = omega (arith, ap length c.requires.0 ∙ tables_length)

pub loop-j-init : goal.loop-j-init
loop-j-init c = (omega arith, refl, no_bytes c.args.y c.args.cb c.args.cr c.args.at c.args.out.now)

pub bounds-rows-u : goal.bounds-rows-u
bounds-rows-u c = omega (arith, ap length c.requires.1 ∙ rows_length, c.requires.3, c.loop-j-test.true)

pub bounds-rows-v : goal.bounds-rows-v
bounds-rows-v c = omega (arith, ap length c.requires.1 ∙ rows_length, c.requires.3, c.loop-j-test.true)

pub overflow_add-sum : goal.overflow_add-sum
overflow_add-sum c =
    let inside : c.args.first + c.loop-j.j < 9 = omega (arith, c.requires.3, c.loop-j-test.true) in
    ask_add
    (one c.args.rows.now c.requires.1 c.args.first c.loop-j.j c.requires.2 inside c.args.cb (omega arith))
    (two c.args.rows.now c.requires.1 c.args.first c.loop-j.j c.requires.2 inside c.args.cr (omega arith)) tt

pub overflow_add-sum-in-loop-j : goal.overflow_add-sum-in-loop-j
overflow_add-sum-in-loop-j c =
    let inside : c.args.first + c.loop-j.j < 9 = omega (arith, c.requires.3, c.loop-j-test.true) in
    ask_add
    (k_add
    (one c.args.rows.now c.requires.1 c.args.first c.loop-j.j c.requires.2 inside c.args.cb (omega arith))
    (two c.args.rows.now c.requires.1 c.args.first c.loop-j.j c.requires.2 inside c.args.cr (omega arith)) tt)
    (light c.args.tables.now c.requires.0 c.args.y (omega arith)) tt

pub loop-j-preserved : goal.loop-j-preserved
loop-j-preserved c =
    let inside : c.args.first + c.loop-j.j < 9 = omega (arith, c.requires.3, c.loop-j-test.true) in
    let both = k_add
    (one c.args.rows.now c.requires.1 c.args.first c.loop-j.j c.requires.2 inside c.args.cb (omega arith))
    (two c.args.rows.now c.requires.1 c.args.first c.loop-j.j c.requires.2 inside c.args.cr (omega arith)) tt in
    let sum = k_add both (light c.args.tables.now c.requires.0 c.args.y (omega arith)) tt in
    let e : c.to_byte.result ∷ [] ≡ laid c.args.y c.args.cb c.args.cr c.loop-j.j =
    ap (λ (b : ℕ). b ∷ []) (c.to_byte.ensures ∙ ap to_byte (sum.reads ∙ sum_is c.args.y c.args.cb c.args.cr (c.loop-j.j % 3) (omega arith))) in (
      omega (arith, c.loop-j-test.true),
      simp length-set c.loop-j.invariant.1,
      byte_more c.args.y c.args.cb c.args.cr c.args.at c.args.out.now c.loop-j.out c.loop-j.j _ (omega (arith, c.loop-j.invariant.1, c.requires.5, c.loop-j-test.true)) e c.loop-j.invariant.2,
    )

pub returns : goal.returns
returns c = let e : c.loop-j.j ≡ c.args.n = omega (arith, c.loop-j.invariant.0, c.loop-j-test.false) in
    bytes_done c.args.y c.args.cb c.args.cr c.args.at c.args.out.now c.loop-j.out c.args.n c.requires.4 (omega (arith, c.requires.5))
    (subst (λ (m : ℕ). take (c.args.at + m) c.loop-j.out ≡ take c.args.at c.args.out.now ++ in_turn (laid c.args.y c.args.cb c.args.cr) m) e c.loop-j.invariant.2)
