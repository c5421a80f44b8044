-- `lines::gather` meets its contract. Assumes nothing.
use native.Mathlib.Omega.{arith}
use Rattle.line_listing.proofs.lines.Pages.{gathered_more}
use Rattle.line_listing.proofs.lines.gather.Goals as goal

pub loop-i-init : goal.loop-i-init
loop-i-init c = (λ i h. let w : ⊥ = omega arith in absurd w, c.requires.1)

pub loop-i-preserved : goal.loop-i-preserved
loop-i-preserved c =
    let l = c.loop-i in (
      gathered_more _ _ _ l.i l.out _ _ _ (omega (arith, l.invariant.1, c.loop-i-test.true)) l.invariant.0 c.nth_u32-place.ensures c.nth_u64.ensures
          (omega arith) c.put_nth_u64.ensures,
      omega (arith, l.invariant.1),
    )

pub returns : goal.returns
returns c = let l = c.loop-i in (λ i h. l.invariant.0 i (omega (arith, h, c.loop-i-test.false)), l.invariant.1)
