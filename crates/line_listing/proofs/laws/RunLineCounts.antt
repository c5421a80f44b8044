-- THE HEAD'S LINE OF A RUN has the digits of the counts of the run's lines: how many there are, and how many of them are not finite, refused and left out, each
-- number whole; and the head is the three runs' lines, each by its own lines. Assumes nothing.
use Rattle.std.proofs.Common.{◌≡◌, ℕ, zero, suc, ◌+◌, ◌-◌, ◌≤◌, Bool, true, false, cond, eqb, List, [], ◌∷◌, ◌++◌, length, sym, refl, ap, ◌∙◌, append_assoc}
use Rattle.std.proofs.Common.{arith, le-leb}
use Rattle.numerals.specs.digits.Decimal.{digits_of}
use Rattle.utc.specs.text.Ascii.{ascii_bytes}
use Rattle.line_listing.specs.declared.head.RunEnd.{RunEnd}
use Rattle.line_listing.specs.head.Counts.{kind_at, kinds_in, first_end, second_end}
use Rattle.line_listing.specs.head.Head.{counted, block_end, run_line, run_if_named, one_if_named, head_text}
use Rattle.line_listing.specs.lines.StampLine.{Stamps}
use Rattle.line_listing.specs.laws.Places.{up_from, only, Run, run_1, run_2, run_3, in_run, EveryLine}
use Rattle.line_listing.specs.laws.HeadTold.{block_told, run_line_told, run_by_lines, run_if_told, head_told}
use Rattle.line_listing.proofs.laws.RunCounts.{run-counts}

regroup : (a b c d e f g h i j : List ℕ)
    → (((((a ++ b) ++ (c ++ d)) ++ (e ++ f)) ++ (g ++ h)) ++ i) ++ j ≡ a ++ (b ++ (c ++ (d ++ (e ++ (f ++ (g ++ (h ++ (i ++ j))))))))
regroup a b c d e f g h i j = simp append_assoc

-- what ended it
block-is : (end : RunEnd) → block_end end ≡ block_told end
unfolding block_end counted
block-is end = by (eqb end.refused 0)
  where
    by : (b : Bool) → cond b [] ((ascii_bytes " block " ++ digits_of end.block) ++ (ascii_bytes " refused " ++ digits_of end.refused))
        ≡ cond b [] (ascii_bytes " block " ++ (digits_of end.block ++ (ascii_bytes " refused " ++ digits_of end.refused)))
    by true = refl
    by false = append_assoc (ascii_bytes " block ") (digits_of end.block) (ascii_bytes " refused " ++ digits_of end.refused)

-- A RUN'S LINE by its counts
pub run-line-told : (name : List ℕ) (end : RunEnd) (js ks ms : List ℕ) (from n : ℕ)
    → run_line name end js ks ms from n ≡ run_line_told name n (kinds_in js ks ms 1 from n) (kinds_in js ks ms 2 from n) (kinds_in js ks ms 3 from n) end
unfolding run_line counted
run-line-told name end js ks ms from n =
    regroup name (digits_of n) (ascii_bytes " not finite ") (digits_of (kinds_in js ks ms 1 from n)) (ascii_bytes " refused ")
    (digits_of (kinds_in js ks ms 2 from n)) (ascii_bytes " left out ") (digits_of (kinds_in js ks ms 3 from n)) (block_end end) (10 ∷ [])
    ∙ ap (λ (l : List ℕ). name ++ (digits_of n ++ (ascii_bytes " not finite " ++ (digits_of (kinds_in js ks ms 1 from n) ++ (ascii_bytes " refused "
    ++ (digits_of (kinds_in js ks ms 2 from n) ++ (ascii_bytes " left out " ++ (digits_of (kinds_in js ks ms 3 from n) ++ (l ++ (10 ∷ []))))))))))
    (block-is end)

up_long : (i d : ℕ) → length (up_from i d) ≡ d
unfolding up_from
up_long i zero = refl
up_long i (suc d) = ap suc (up_long (suc i) d)

-- BY THE LINES of its run
module _ (all : Stamps) (line lines : List ℕ) (each : EveryLine all.numbers all.first (all.first + all.second) line lines) where
  abbrev InRun : ℕ → ℕ → Type 0
  InRun from to = Run all.first (all.first + all.second) (length all.numbers) from to

  run_long : (from to : ℕ) → InRun from to → to - from ≡ length (only (in_run from to) lines)
  run_long from to r = sym (ap length (each.run from to r) ∙ up_long from (to - from))

  kinds : (kind from to : ℕ) → InRun from to
      → kinds_in all.jd1s all.jd2s all.numbers kind from (to - from)
      ≡ length (only (λ (p : ℕ). eqb (kind_at all.jd1s all.jd2s all.numbers p) kind) (only (in_run from to) lines))
  kinds kind from to r =
      run-counts all.jd1s all.jd2s all.numbers all.first (all.first + all.second) line lines each from to r kind

  -- a named run, from its first place up to its end
  pub named-run-told : (name : List ℕ) (end : RunEnd) (from to : ℕ) → Run all.first (all.first + all.second) (length all.numbers) from to
      → end.named ≡ true
      → run_if_named name end all.jd1s all.jd2s all.numbers from (to - from) ≡ run_by_lines name end all lines from to
  unfolding run_if_named
  named-run-told name end from to r e =
      ap (λ (b : Bool). cond b (run_line name end all.jd1s all.jd2s all.numbers from (to - from)) []) e
      ∙ run-line-told name end all.jd1s all.jd2s all.numbers from (to - from)
      ∙ (λ i. run_line_told name (run_long from to r i) (kinds 1 from to r i) (kinds 2 from to r i) (kinds 3 from to r i) end)

  run-told : (name : List ℕ) (end : RunEnd) (from to : ℕ) → InRun from to
      → run_if_named name end all.jd1s all.jd2s all.numbers from (to - from) ≡ run_if_told name end all lines from to
  unfolding run_if_named
  run-told name end from to r = by end.named refl
    where
      by : (b : Bool) → end.named ≡ b
          → run_if_named name end all.jd1s all.jd2s all.numbers from (to - from) ≡ run_if_told name end all lines from to
      by true e = named-run-told name end from to r e ∙ ap (λ (b : Bool). cond b (run_by_lines name end all lines from to) []) (sym e)
      by false e =
          ap (λ (b : Bool). cond b (run_line name end all.jd1s all.jd2s all.numbers from (to - from)) []) e
          ∙ ap (λ (b : Bool). cond b (run_by_lines name end all lines from to) []) (sym e)

  -- ---- the head
  module _ (fits : all.first + all.second ≤ length all.numbers) where
    first-end : first_end all ≡ all.first
    unfolding first_end
    first-end = rw (le-leb all.first (length all.numbers) (omega arith))

    second-end : second_end all ≡ all.first + all.second
    unfolding second_end
    second-end = rw (first-end, le-leb all.second (length all.numbers - all.first) (omega arith))

    abbrev part : List ℕ → RunEnd → ℕ → ℕ → List ℕ
    part name end from n = run_if_named name end all.jd1s all.jd2s all.numbers from n

    five : (a b c d e f : List ℕ) → ((((a ++ b) ++ c) ++ d) ++ e) ++ f ≡ a ++ (b ++ (c ++ (d ++ (e ++ f))))
    five a b c d e f = simp append_assoc

    -- THE HEAD is the three runs' lines by their own lines
    pub head_by_lines : (gps tai utc : RunEnd) → head_text gps tai utc all ≡ head_told gps tai utc all lines
    unfolding head_text counted
    head_by_lines gps tai utc =
        let n : ℕ = one_if_named gps.named + one_if_named tai.named + one_if_named utc.named in
        let z : first_end all ≡ all.first - 0 = omega (arith, first-end) in
        let d : second_end all - first_end all ≡ all.first + all.second - all.first = (λ i. second-end i - first-end i) in
        five (ascii_bytes "line up ") (digits_of n) (ascii_bytes " runs\n") (part (ascii_bytes "gps ") gps 0 (first_end all))
        (part (ascii_bytes "tai ") tai (first_end all) (second_end all - first_end all))
        (part (ascii_bytes "utc ") utc (second_end all) (length all.numbers - second_end all))
        ∙ (λ i. ascii_bytes "line up " ++ (digits_of n ++ (ascii_bytes " runs\n"
        ++ ((ap (part (ascii_bytes "gps ") gps 0) z ∙ run-told (ascii_bytes "gps ") gps 0 all.first run_1) i
        ++ (((λ j. part (ascii_bytes "tai ") tai (first-end j) (d j)) ∙ run-told (ascii_bytes "tai ") tai all.first (all.first + all.second) run_2) i
        ++ ((λ j. part (ascii_bytes "utc ") utc (second-end j) (length all.numbers - second-end j))
        ∙ run-told (ascii_bytes "utc ") utc (all.first + all.second) (length all.numbers) run_3) i)))))
