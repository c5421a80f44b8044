-- `leap_table::offsets::look_up::none_reached` meets its contract. Assumes nothing.
use Rattle.std.proofs.Common.{◌≡◌, ℕ, ◌+◌, ◌<◌, Bool, true, false, ◌&&◌, get_or, ℤ, pos, sym, refl, ap, ◌∙◌, subst}
use Rattle.std.proofs.Common.{true≢false, add-one, take, to_z-of_z, w32, SFits, arith, rules}
use Rattle.std.proofs.lemmas.List.{get_or-take}
use lib.Signed.{lt_z}
use Rattle.leap_table.specs.declared.rows.AnnouncedRows.{AnnouncedRows}
use Rattle.leap_table.specs.rows.Table.{starts, reached}
use Rattle.leap_table.specs.rows.Announced.{natural, least, rows_to}
use Rattle.leap_table.specs.offsets.Plain.{by_found}
use Rattle.leap_table.proofs.rows.Tables.{announced_passed}
use Rattle.leap_table.proofs.rows.Naturals.{not_begun}
use Rattle.leap_table.proofs.offsets.look_up.none_reached.Goals as goal

-- one row more that has not begun
more : (t : AnnouncedRows) (n i : ℕ) (none r : Bool) (z k : ℤ) → SFits w32 z → z ≡ get_or t.months i (pos 0) → k ≡ pos (least n 2147483647)
    → r ≡ none && lt_z k z
    → (none ≡ true → by_found n 0 ≡ reached (starts (rows_to t i)) n) → r ≡ true → by_found n 0 ≡ reached (starts (rows_to t (i + 1))) n
more t n i false r z k f p q e inv g = absurd (true≢false (sym g ∙ e))
more t n i true r z k f p q e inv b =
    let g = not_begun z n f (ap (λ (y : ℤ). lt_z y z) (sym q) ∙ sym e ∙ b) in
    rw (add-one i) (inv refl ∙ sym (announced_passed t i n (subst (λ (y : ℤ). n < natural y) p g)))

pub loop-row-init : goal.loop-row-init
unfolding rows_to
loop-row-init c = λ e. refl

pub loop-row-preserved : goal.loop-row-preserved
loop-row-preserved c =
    let i = c.loop-row.row-index in
    let h : i < c.args.size = omega arith in
    let z = get_or (take c.args.size c.args.table.now.months) i (pos 0) in
    let f : SFits w32 z = search rules in
    more c.args.table.now c.args.n i c.loop-row.none c.and_later-none.result z c.args.month f (get_or-take c.args.size c.args.table.now.months i (pos 0) h)
    c.requires.1 (c.and_later-none.ensures ∙ (λ j. c.loop-row.none && lt_z (to_z-of_z c.ranges.month j) (to_z-of_z f j))) c.loop-row.invariant
