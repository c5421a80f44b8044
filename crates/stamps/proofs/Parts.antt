-- The lines that a part holds, counted line by line, and what the part's answer says to a caller. Assumes nothing.
use Prim.Native.Nat.{ℕ, zero, suc, ◌+◌, ◌-◌, ◌<◌, ◌≤◌}
use native.Mathlib.Omega.{arith}
use native.Mathlib.Nat.{add_assoc, zero-add}
use mathlib.Core.Path.{◌≡◌, refl, sym, ap, ◌∙◌}
use mathlib.Core.Bool.{Bool, true, false}
use mathlib.Core.List.{List, ◌++◌}
use lib.ListN.{length, take, drop, length-append}
use lib.Seq.{length-take-le}
use lib.Dec.{leb}
use borrow.Author.Tests.{le-leb, lt-leb, leb-false}
use Rattle.std.specs.Prelude.{Result, Ok, Err, IsErrAnd}
use Rattle.refusals.specs.declared.Refusal.{Refusal}
use Rattle.refusals.proofs.Handed.{handed_on}
use Rattle.refusals.specs.Outcome.{Outcome, answer, outcome, number_said}
use Rattle.leap_table.specs.declared.rows.AnnouncedRows.{AnnouncedRows}
use Rattle.leap_table.specs.rows.Table.{Row}
use Rattle.leap_table.specs.rows.Announced.{rows_of, table_of, unless_refused}
use Rattle.leap_table.proofs.rows.TablesTaken.{call_refused, call_taken}
use Rattle.stamps.specs.declared.Reporting.{Reporting}
use Rattle.stamps.specs.declared.Part.{Part}
use Rattle.stamps.specs.Block.{block_of}
use Rattle.numerals.specs.digits.Placed.{pasted, Placed}
use Rattle.stamps.specs.Listing.{line_room}
use Rattle.stamps.specs.Parts.{line_of, lines_in, lines_from, held_lines, part_lines, part_text, part_of, PartPlaced, scratch_holds, PartCall}
use Rattle.stamps.proofs.Blocks.{few-lines}

module _ (how : Reporting) (rows : List Row) (s : List ℕ) where
  held-full : (line room left : ℕ) → room < line_room how → held_lines how rows s line room left ≡ 0
  unfolding held_lines
  held-full line room zero h = refl
  held-full line room (suc left) h = simp (lt-leb _ _ h)

  held_one : (line room left : ℕ) → line_room how ≤ room
      → held_lines how rows s line room (suc left) ≡ 1 + held_lines how rows s (line + 1) (room - length (line_of how rows (block_of s) s line)) left
  unfolding held_lines
  held_one line room left h = simp (le-leb _ _ h)

  pub held-few : (line room left : ℕ) → held_lines how rows s line room left ≤ left
  unfolding held_lines
  held-few line room zero = omega arith
  held-few line room (suc left) = by (leb (line_room how) room) refl (held-few (line + 1) (room - length (line_of how rows (block_of s) s line)) left)
    where
      by : (b : Bool) → leb (line_room how) room ≡ b → held_lines how rows s (line + 1) (room - length (line_of how rows (block_of s) s line)) left ≤ left
          → held_lines how rows s line room (suc left) ≤ suc left
      by true e h = rw e (omega arith)
      by false e h = rw e (omega arith)

  pub held-some : (line room left : ℕ) → line_room how ≤ room → 0 < left → 1 ≤ held_lines how rows s line room left
  held-some line room left h l =
      let e : left ≡ suc (left - 1) = omega arith in
      let one = ap (held_lines how rows s line room) e ∙ held_one line room (left - 1) h in
      omega arith

  -- before the first line
  pub start : (line whole left : ℕ) → held_lines how rows s line whole left ≡ 0 + held_lines how rows s (line + 0) (whole - 0) (left - 0)
  start line whole left =
      let a : line ≡ line + 0 = omega arith in
      let b : whole ≡ whole - 0 = omega arith in
      let c : left ≡ left - 0 = omega arith in
      ap (λ (x : ℕ). held_lines how rows s x whole left) a
      ∙ ap (λ (x : ℕ). held_lines how rows s (line + 0) x left) b
      ∙ ap (held_lines how rows s (line + 0) (whole - 0)) c
      ∙ sym (zero-add (held_lines how rows s (line + 0) (whole - 0) (left - 0)))

  -- after k of the `left` lines from `line` on
  module _ (line whole left k at : ℕ) (so_far : held_lines how rows s line whole left ≡ k + held_lines how rows s (line + k) (whole - at) (left - k)) where
    pub ends-full : whole - at < line_room how → held_lines how rows s line whole left ≡ k
    ends-full h = let z = held-full (line + k) (whole - at) (left - k) h in omega arith

    pub ends-all : left ≤ k → held_lines how rows s line whole left ≡ k
    ends-all h = let z = held-few (line + k) (whole - at) (left - k) in omega arith

    pub goes_on : (r : ℕ) → k < left → line_room how ≤ whole - at → r ≡ at + length (line_of how rows (block_of s) s (line + k))
        → held_lines how rows s line whole left ≡ (k + 1) + held_lines how rows s (line + (k + 1)) (whole - r) (left - (k + 1))
    goes_on r h room e =
        let l : left - k ≡ suc (left - (k + 1)) = omega arith in
        let one = held_one (line + k) (whole - at) (left - (k + 1)) room in
        let m : whole - at - length (line_of how rows (block_of s) s (line + k)) ≡ whole - r = omega arith in
        so_far
        ∙ ap (λ (x : ℕ). k + held_lines how rows s (line + k) (whole - at) x) l
        ∙ ap (λ (x : ℕ). k + x) (one ∙ ap (λ (x : ℕ). 1 + held_lines how rows s (line + k + 1) x (left - (k + 1))) m
        ∙ ap (λ (x : ℕ). 1 + held_lines how rows s x (whole - r) (left - (k + 1))) (add_assoc line k 1))
        ∙ sym (add_assoc k 1 (held_lines how rows s (line + (k + 1)) (whole - r) (left - (k + 1))))

  -- the answer
  module _ (line : ℕ) (d d' : List ℕ) (left k at : ℕ) (el : left ≡ lines_in (block_of s) - line) (held : held_lines how rows s line (length d) left ≡ k)
      (p : Placed d 0 (lines_from how rows s line k) at d') where
    count : part_lines how rows s line (length d) ≡ k
    unfolding part_lines
    count = ap (held_lines how rows s line (length d)) (sym el) ∙ held

    text : part_text how rows s line (length d) ≡ lines_from how rows s line k
    unfolding part_text
    text = ap (lines_from how rows s line) count

    part_placed : (b : Bool) → b ≡ leb (lines_in (block_of s)) (line + k) → PartPlaced how rows s line d (record { written = at; line = line + k; done = b }) d'
    unfolding part_of pasted
    part_placed b eb =
        let n : at ≡ length (lines_from how rows s line k) = p.ends ∙ zero-add (length (lines_from how rows s line k)) in
        record {
          says = rw (text, count, n, eb) refl;
          holds = rw text (p.holds ∙ ap (λ (i : ℕ). lines_from how rows s line k ++ drop i d) (zero-add (length (lines_from how rows s line k))));
        }

    pub stops_full : k < left → PartPlaced how rows s line d (record { written = at; line = line + k; done = false }) d'
    stops_full h = part_placed false (sym (lt-leb (lines_in (block_of s)) (line + k) (omega arith)))

    pub stops_done : left ≡ k → PartPlaced how rows s line d (record { written = at; line = line + left; done = true }) d'
    stops_done h = rw h (part_placed true (sym (le-leb (lines_in (block_of s)) (line + k) (omega arith))))

-- ---- what a caller learns
module _ {how : Reporting} {rows : List Row} {s d d' : List ℕ} {line : ℕ} {r : Part} (p : PartPlaced how rows s line d r d') where
  -- what is written lies within the scratch
  pub part-within : (r.written ≤ length d') × (r.written ≡ length (take r.written d'))
  unfolding part_of
  part-within =
      let n : r.written ≡ length (part_text how rows s line (length d)) = ap (λ (x : Part). x.written) p.says in
      let m = ap length p.holds ∙ length-append (part_text how rows s line (length d)) (drop (length (part_text how rows s line (length d))) d) in
      let le : r.written ≤ length d' = omega arith in
      (le, sym (length-take-le r.written d' le))

  -- a part that is not the last brings the caller on by a line at least
  pub part-brings-on : line_room how ≤ length d → r.done ≡ false → (line < r.line) × (r.line ≤ 4001)
  unfolding part_of part_lines
  part-brings-on room e =
      let n : r.line ≡ line + held_lines how rows s line (length d) (lines_in (block_of s) - line) = ap (λ (x : Part). x.line) p.says in
      let b = leb-false (lines_in (block_of s)) (line + held_lines how rows s line (length d) (lines_in (block_of s) - line))
      (sym (ap (λ (x : Part). x.done) p.says) ∙ e) in
      let some = held-some how rows s line (length d) (lines_in (block_of s) - line) room (omega arith) in
      let few = few-lines s in
      (omega arith, omega arith)

-- ---- the call that tests its table, by the result of the test
module _ (how : Reporting) (t : AnnouncedRows) (judged : Result Unit Refusal) (e : unless_refused (number_said judged) (rows_of t) ≡ table_of t)
    (s : List ℕ) (line : ℕ) (d : List ℕ) where
  pub part-refused : (k : Refusal) → judged ≡ Err k → (r : Result Part Refusal) → IsErrAnd r (λ e. e ≡ k) → PartCall how (table_of t) s line d r d
  unfolding scratch_holds
  part-refused k is r on =
      record {
        says = handed_on r k on ∙ call_refused t judged e _ k is;
        holds = ap (λ (o : Outcome (List ℕ)). scratch_holds o d) (call_refused t judged e _ k is);
      }

  pub part-taken : (u : Unit) → judged ≡ Ok u → (r : Part) (d' : List ℕ) → PartPlaced how (rows_of t) s line d r d'
      → PartCall how (table_of t) s line d (Ok r) d'
  unfolding outcome scratch_holds
  part-taken u is r d' p =
      record {
        says = ap answer p.says ∙ call_taken t judged e (λ rows. answer (part_of how rows s line (length d))) u is;
        holds = p.holds ∙ ap (λ (o : Outcome (List ℕ)). scratch_holds o d) (call_taken t judged e (λ rows. answer (part_text how rows s line (length d))) u is);
      }
