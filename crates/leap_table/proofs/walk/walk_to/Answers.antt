-- The walk begins where it stood: by hand, so that one which begins elsewhere is seen to.
use Rattle.std.proofs.Common.{◌≡◌, ℕ, ◌<◌, List, ap, sym, refl, ◌∙◌, arith}
use lib.ListN.{get_or}
use Rattle.leap_table.specs.rows.Table.{Row, starts}
use Rattle.leap_table.specs.rows.Announced.{rows_of}
use Rattle.leap_table.specs.offsets.Forward.{never}
use Rattle.leap_table.specs.declared.walk.Walk.{Walk}
use Rattle.leap_table.specs.walk.Asked.{Standing}
use Rattle.leap_table.proofs.walk.Forward.{Walking}
use Rattle.leap_table.proofs.walk.walk_to.Goals as goal

begins : (rows : List Row) (month : ℕ) (w : Walk) (k : ℕ) → k ≡ w.reached → Standing rows w → w.compared < 0x8000_0000_0000_0000
    → Walking rows month k w.compared k w.next w.compared
begins rows month w k e s h =
    record {
      most = omega (arith, s.most);
      small = s.small;
      few = h;
      forward = omega arith;
      is-next = s.next ∙ ap (λ (j : ℕ). get_or (starts rows) j never) (sym e);
      begun = λ j a b. absurd (omega arith);
      count = refl;
    }

pub loop-next-init : goal.loop-next-init
loop-next-init c = begins (rows_of c.args.table) c.args.month c.args.w _ (omega arith) c.requires.0 c.requires.2
