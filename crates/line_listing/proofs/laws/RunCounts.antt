-- THE COUNTS OF THE LINES: each count of a run's line is the number of the run's lines of that kind, and those of the last line are the numbers of the lines of
-- ordered stamps and of those without text, which say `no text`. Assumes nothing.
use Rattle.std.proofs.Common.{◌≡◌, ℕ, zero, suc, ◌+◌, ◌-◌, ◌≤◌, Bool, true, false, cond, eqb, ◌⊎◌, List, [], ◌∷◌, ◌++◌, length, sym, refl, ap, ◌∙◌, inl, inr}
use Rattle.std.proofs.Common.{arith, length-append}
use Rattle.refusals.specs.Outcome.{Outcome, answer, refusal, onward}
use Rattle.julian.specs.declared.JulianDate.{JulianDate}
use Rattle.leap_table.specs.rows.Table.{Row}
use Rattle.stamps.specs.Listing.{one_if_refused}
use Rattle.utc_scales.specs.UtcTai.{tai_to_utc}
use Rattle.utc.specs.iso_texts.Expanded.{iso_text_expanded}
use Rattle.line_listing.specs.head.Counts.{kind_at, kinds_in}
use Rattle.line_listing.specs.lines.StampLine.{Stamps, line_in_order, date_of_place, number_of_place, no_text, refused, text_told, utc_told, stamp_told}
use Rattle.line_listing.specs.lines.StampLine.{no_text_count}
use Rattle.line_listing.specs.lines.Parts.{textless_from}
use Rattle.line_listing.specs.laws.Places.{up_from, only, Run, EveryLine}
use Rattle.line_listing.specs.laws.RunLines.{is_of_kind, lines_of_kind, is_textless}
use Rattle.line_listing.proofs.lines.Whole.{without_one}
use Rattle.line_listing.proofs.laws.Kept.{only-append}

-- ---- one place more at the end
up_more : (i d : ℕ) → up_from i (suc d) ≡ up_from i d ++ ((i + d) ∷ [])
unfolding up_from
up_more i zero = ap (λ (k : ℕ). k ∷ []) (let e : i ≡ i + 0 = omega arith in e)
up_more i (suc d) =
    ap (λ (l : List ℕ). i ∷ l) (up_more (suc i) d ∙ ap (λ (k : ℕ). up_from (suc i) d ++ (k ∷ [])) (let e : suc i + d ≡ i + suc d = omega arith in e))

one_more : (t : ℕ → Bool) (x : ℕ) → length (only t (x ∷ [])) ≡ cond (t x) 1 0
unfolding only
one_more t x = go (t x)
  where
    go : (b : Bool) → length (cond b (x ∷ []) []) ≡ cond b 1 0
    go true = refl
    go false = refl

more-passes : (t : ℕ → Bool) (i d : ℕ) → length (only t (up_from i (suc d))) ≡ length (only t (up_from i d)) + cond (t (i + d)) 1 0
more-passes t i d =
    ap (λ (l : List ℕ). length (only t l)) (up_more i d)
    ∙ ap length (only-append t (up_from i d) ((i + d) ∷ []))
    ∙ length-append (only t (up_from i d)) (only t ((i + d) ∷ []))
    ∙ ap (λ (k : ℕ). length (only t (up_from i d)) + k) (one_more t (i + d))

kinds_up : (js ks ms : List ℕ) (kind from d : ℕ) → kinds_in js ks ms kind from d ≡ length (only (is_of_kind js ks ms kind) (up_from from d))
unfolding kinds_in only up_from
kinds_up js ks ms kind from zero = refl
kinds_up js ks ms kind from (suc d) =
    ap (λ (k : ℕ). k + cond (eqb (kind_at js ks ms (from + d)) kind) 1 0) (kinds_up js ks ms kind from d)
    ∙ sym (more-passes (is_of_kind js ks ms kind) from d)

-- EACH COUNT OF A RUN'S LINE is that of its lines: of kind 1 those not finite, of 2 the refused, of 3 those left out
pub run-counts : (js ks ms : List ℕ) (a b : ℕ) (line lines : List ℕ) → EveryLine ms a b line lines → (from to : ℕ) → Run a b (length ms) from to
    → (kind : ℕ) → kinds_in js ks ms kind from (to - from) ≡ lines_of_kind js ks ms kind from to lines
run-counts js ks ms a b line lines e from to r kind =
    kinds_up js ks ms kind from (to - from) ∙ ap (λ (l : List ℕ). length (only (is_of_kind js ks ms kind) l)) (sym (e.run from to r))

-- THE COUNT WITHOUT TEXT of the last line is that of the lines without text
one-is : (n : ℕ) → n ≤ 1 → n ≡ cond (eqb n 1) 1 0
one-is zero h = refl
one-is (suc zero) h = refl
one-is (suc (suc n)) h = let w : ⊥ = omega arith in absurd w

pub textless-lines : (rows : List Row) (all : Stamps) (order : List ℕ) (line k : ℕ)
    → textless_from rows all order line k ≡ length (only (is_textless rows all order) (up_from line k))
unfolding textless_from only up_from
textless-lines rows all order line zero = refl
textless-lines rows all order line (suc k) =
    (λ i. textless-lines rows all order line k i
    + one-is (no_text_count rows (date_of_place all (line_in_order order (line + k))) (number_of_place all (line_in_order order (line + k))))
    (without_one rows (date_of_place all (line_in_order order (line + k))) (number_of_place all (line_in_order order (line + k)))) i)
    ∙ sym (more-passes (is_textless rows all order) line k)

-- and such a line says `no text` and the number by which its text is refused, of the TAI where that has no UTC, else of the UTC; every other ordered one has
-- its text
pub record SaysNoText (s : Bool) (rows : List Row) (d : JulianDate) (told : List ℕ) : Type 0 where
  pub number : ℕ
  pub date : JulianDate
  pub refused-by : onward (tai_to_utc rows d) (iso_text_expanded rows) ≡ refusal number
  pub of_tai_or_utc : ((tai_to_utc rows d ≡ refusal number) × (date ≡ d)) ⊎ ((tai_to_utc rows d ≡ answer date) × (iso_text_expanded rows date ≡ refusal number))
  pub says : told ≡ no_text s number date

pub record SaysText (rows : List Row) (d : JulianDate) (told : List ℕ) : Type 0 where
  pub utc : JulianDate
  pub converted : tai_to_utc rows d ≡ answer utc
  pub says : iso_text_expanded rows utc ≡ answer told

no_one : {A : Type 0} → ◌≡◌ {A = ℕ} 0 1 → A
no_one e = let w : ⊥ = omega (arith, e) in absurd w

pub textless-says : (s : Bool) (rows : List Row) (d : JulianDate) (k : ℕ) → no_text_count rows d k ≡ 1 → SaysNoText s rows d (stamp_told s rows d k)
unfolding no_text_count stamp_told utc_told text_told one_if_refused onward
textless-says s rows d k e = by (eqb k 0) e
  where
    by-text : (u : JulianDate) → tai_to_utc rows d ≡ answer u → (o : Outcome (List ℕ)) → iso_text_expanded rows u ≡ o → one_if_refused o ≡ 1
        → SaysNoText s rows d (text_told s u o)
    by-text u c (answer t) i q = no_one q
    by-text u c (refusal n) i q = record { number = n; date = u; refused-by = rw (c, i) refl; of_tai_or_utc = inr (c, i); says = refl }

    by_utc : (o : Outcome JulianDate) → tai_to_utc rows d ≡ o → one_if_refused (onward o (iso_text_expanded rows)) ≡ 1 → SaysNoText s rows d
        (utc_told s rows d o)
    by_utc (answer u) c q = by-text u c (iso_text_expanded rows u) refl q
    by_utc (refusal n) c q = record { number = n; date = d; refused-by = rw c refl; of_tai_or_utc = inl (c, refl); says = refl }

    by : (b : Bool) → cond b (one_if_refused (onward (tai_to_utc rows d) (iso_text_expanded rows))) 0 ≡ 1
        → SaysNoText s rows d (cond b (utc_told s rows d (tai_to_utc rows d)) (refused s k d))
    by true q = by_utc (tai_to_utc rows d) refl q
    by false q = no_one q

pub text_says : (s : Bool) (rows : List Row) (d : JulianDate) → no_text_count rows d 0 ≡ 0 → SaysText rows d (stamp_told s rows d 0)
unfolding no_text_count stamp_told utc_told text_told one_if_refused onward
text_says s rows d e = by_utc (tai_to_utc rows d) refl e
  where
    by-text : (u : JulianDate) → tai_to_utc rows d ≡ answer u → (o : Outcome (List ℕ)) → iso_text_expanded rows u ≡ o → one_if_refused o ≡ 0
        → SaysText rows d (text_told s u o)
    by-text u c (answer t) i q = record { utc = u; converted = c; says = i }
    by-text u c (refusal n) i q = no_one (sym q)

    by_utc : (o : Outcome JulianDate) → tai_to_utc rows d ≡ o → one_if_refused (onward o (iso_text_expanded rows)) ≡ 0 → SaysText rows d (utc_told s rows d o)
    by_utc (answer u) c q = by-text u c (iso_text_expanded rows u) refl q
    by_utc (refusal n) c q = no_one (sym q)
