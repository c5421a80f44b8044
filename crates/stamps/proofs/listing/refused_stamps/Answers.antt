-- `listing::refused_stamps` meets its contract: the first i stamps are counted. Assumes nothing.
use mathlib.Core.Path.{◌≡◌, refl, ap, ◌∙◌}
use Prim.Native.Nat.{zero-le}
use native.Mathlib.Omega.{arith}
use Rattle.stamps.specs.Listing.{refused_in}
use Rattle.stamps.proofs.Lines.{refused-more}
use Rattle.stamps.proofs.listing.refused_stamps.Goals as goal

pub loop-i-init : goal.loop-i-init
unfolding refused_in
loop-i-init c = ((λ rows. refl), zero-le)

pub loop-i-preserved : goal.loop-i-preserved
loop-i-preserved c =
    let l = c.loop-i.invariant in (
      (λ rows. refused-more rows _ _ _ _ _ _ (l.0 rows) c.stamp_at.ensures (c.one_if_refused-refused.ensures.0 rows)),
      omega (arith, l.1, c.one_if_refused-refused.ensures.1),
    )

pub returns : goal.returns
returns c =
    let e : c.loop-i.i ≡ c.args.stamps = omega (arith, c.loop-i-test.false) in
    λ rows. c.loop-i.invariant.0 rows ∙ ap (refused_in rows _ _) e
