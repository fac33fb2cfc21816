-- `work_memory::lengths_of` meets its contract. Assumes nothing.
use native.Mathlib.Omega.{arith}
use Prim.Native.Nat.{◌≤◌}
use Rattle.headers.specs.declared.Session.{Session}
use Rattle.headers.proofs.Fitting.{fits_macro_blocks}
use Rattle.work_memory.proofs.Lengths.{counted_few}
use Rattle.work_memory.proofs.lengths_of.Goals as goal

pub sizes-sizes-requires : goal.sizes-sizes-requires
sizes-sizes-requires c = let f = fits_macro_blocks c.args.s c.requires in (f.1, f.3)

pub overflow_mul-k : goal.overflow_mul-k
overflow_mul-k c =
    let s : Session =
    c.args.s in
    let few : (c.sizes-sizes.result.blocks ≤ 51538034700) × (c.sizes-sizes.result.macro_blocks ≤ 4294836225) × (c.sizes-sizes.result.super_blocks ≤ 3221225472) =
    counted_few s c.requires c.pixel_format-format.ensures c.sizes-sizes.ensures in
    record { fits = omega (arith, (few).2) }

pub overflow_mul-bytes : goal.overflow_mul-bytes
overflow_mul-bytes c =
    let s : Session =
    c.args.s in
    let few : (c.sizes-sizes.result.blocks ≤ 51538034700) × (c.sizes-sizes.result.macro_blocks ≤ 4294836225) × (c.sizes-sizes.result.super_blocks ≤ 3221225472) =
    counted_few s c.requires c.pixel_format-format.ensures c.sizes-sizes.ensures in
    record { fits = omega (arith, (few).0) }

pub overflow_add-bytes : goal.overflow_add-bytes
overflow_add-bytes c =
    let s : Session =
    c.args.s in
    let few : (c.sizes-sizes.result.blocks ≤ 51538034700) × (c.sizes-sizes.result.macro_blocks ≤ 4294836225) × (c.sizes-sizes.result.super_blocks ≤ 3221225472) =
    counted_few s c.requires c.pixel_format-format.ensures c.sizes-sizes.ensures in
    record { fits = omega (arith, (few).0, (few).2) }

pub overflow_add-bytes-2 : goal.overflow_add-bytes-2
overflow_add-bytes-2 c =
    let s : Session =
    c.args.s in
    let few : (c.sizes-sizes.result.blocks ≤ 51538034700) × (c.sizes-sizes.result.macro_blocks ≤ 4294836225) × (c.sizes-sizes.result.super_blocks ≤ 3221225472) =
    counted_few s c.requires c.pixel_format-format.ensures c.sizes-sizes.ensures in
    record { fits = omega (arith, (few).0, (few).1, (few).2) }
