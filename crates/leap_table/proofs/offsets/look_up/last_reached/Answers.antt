-- `leap_table::offsets::look_up::last_reached` meets its contract. Assumes nothing.
use Rattle.std.proofs.Common.{◌≡◌, ℕ, zero, suc, ◌+◌, ◌-◌, ◌<◌, ◌≤◌, true, false, get_or, ℤ, pos, sym, refl, ap, ◌∙◌, subst, arith, w32, SFits, rules}
use lib.Signed.{le_z}
use Rattle.leap_table.specs.declared.rows.AnnouncedRows.{AnnouncedRows}
use Rattle.leap_table.specs.rows.Table.{starts, reached}
use Rattle.leap_table.specs.rows.Announced.{natural, least, rows_to}
use Rattle.leap_table.specs.offsets.Plain.{by_found}
use Rattle.leap_table.proofs.rows.Tables.{announced_found, announced_passed}
use Rattle.leap_table.proofs.rows.Naturals.{begun-or-not}
use Rattle.leap_table.proofs.offsets.look_up.last_reached.Goals as goal

-- the row before place i has begun, or it has not
module _ (t : AnnouncedRows) (n i : ℕ) (z k : ℤ) (h : 0 < i) (f : SFits w32 z) (p : z ≡ get_or t.months (i - 1) (pos 0))
    (q : k ≡ pos (least n 2147483647)) where
  back : suc (i - 1) ≡ i
  back = omega arith

  one-begun : le_z z k ≡ true → by_found n (i - 1 + 1) ≡ reached (starts (rows_to t i)) n
  one-begun e =
      let g = (begun-or-not z n f).0 (ap (λ (y : ℤ). le_z z y) (sym q) ∙ e) in
      let b : i - 1 + 1 ≡ i = omega arith in
      rw b
      (subst (λ (j : ℕ). by_found n j ≡ reached (starts (rows_to t j)) n) back
      (sym (announced_found t (i - 1) n (subst (λ (y : ℤ). natural y ≤ n) p g))))

  one-not : le_z z k ≡ false → reached (starts (rows_to t i)) n ≡ reached (starts (rows_to t (i - 1))) n
  one-not e =
      let g = (begun-or-not z n f).1 (ap (λ (y : ℤ). le_z z y) (sym q) ∙ e) in
      subst (λ (j : ℕ). reached (starts (rows_to t j)) n ≡ reached (starts (rows_to t (i - 1))) n) back
      (announced_passed t (i - 1) n (subst (λ (y : ℤ). n < natural y) p g))

none_left : (t : AnnouncedRows) (n i : ℕ) → i ≤ 0 → by_found n 0 ≡ reached (starts (rows_to t i)) n
unfolding rows_to
none_left t n zero h = refl
none_left t n (suc i) h = absurd (omega arith)

pub returns-then-row-month : goal.returns-then-row-month
returns-then-row-month c =
    let t = c.args.table.now in (
      one-begun t c.args.n c.loop-i.i (get_or t.months (c.loop-i.i - 1) (pos 0)) c.args.month (omega arith) (search rules) refl c.requires.1 (search rules)
          ∙ sym c.loop-i.invariant,
      omega arith,
    )

pub loop-i-preserved : goal.loop-i-preserved
loop-i-preserved c =
    let t = c.args.table.now in
    c.loop-i.invariant
    ∙ one-not t c.args.n c.loop-i.i (get_or t.months (c.loop-i.i - 1) (pos 0)) c.args.month (omega arith) (search rules) refl c.requires.1 (search rules)

pub returns : goal.returns
returns c = (none_left c.args.table.now c.args.n c.loop-i.i (omega arith) ∙ sym c.loop-i.invariant, omega arith)
