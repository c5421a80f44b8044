-- `capi::run_bytes_calls::ct_run_size` meets its contract. Assumes nothing.
use native.Mathlib.Omega.{arith}
use Rattle.line_listing.specs.taken.Run.{run_blocks}
use Rattle.line_listing.specs.taken.Call.{size_of}
use Rattle.capi.proofs.RunBytes.{size-short, size_fits, size-put}
use Rattle.capi.proofs.run_bytes_calls.ct_run_size.Goals as goal

pub returns-then-out-lt32 : goal.returns-then-out-lt32
returns-then-out-lt32 c =
    let a = c.args in
    size-short (size_of (run_blocks a.run.now)) a.out.now c.if-out-lt32.true c.refused.type_inv c.refused.ensures

pub overflow_cast-result : goal.overflow_cast-result
overflow_cast-result c =
    let z = c.run_size-size in
    record { sfits = omega (arith, size_fits c.args.run.now z.result z.ensures, c.well_formed) }

pub returns : goal.returns
returns c =
    let z = c.run_size-size in
    size-put c.args.run.now z.result z.ensures c.args.out.now _ _ _ _ c.if-out-lt32.false c.put_nth_u64.ensures c.put_nth_u64-2.ensures
    c.put_nth_u64-3.ensures c.put_nth_u64-4.ensures (omega (arith, size_fits c.args.run.now z.result z.ensures, c.well_formed))
