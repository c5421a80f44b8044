-- A part of the listing of three recorders is delivered. Assumes nothing.
use Prim.Native.Nat.{ℕ, zero, suc, ◌<◌, ◌≤◌, ◌^◌}
use native.Mathlib.Omega.{arith}
use mathlib.Core.Path.{◌≡◌, refl, sym, ap, subst, ◌∙◌}
use mathlib.Core.List.{List}
use mathlib.Core.Bool.{Bool}
use lib.Dec.{eqb}
use lib.IntN.{ℤ}
use lib.ListN.{length}
use lib.Signed.{mag}
use mir.Syntax.{w64}
use mir.Val.{to_z, of_z}
use mir.Facts.{to_z_pos}
use Rattle.std.specs.Prelude.{Result, Ok, Err}
use Rattle.refusals.specs.declared.Refusal.{Refusal}
use Rattle.refusals.specs.Refusal.{refusal_number}
use Rattle.refusals.specs.Outcome.{Outcome, answer, refusal, onward, outcome, number_said, seen}
use Rattle.refusals.proofs.Handed.{answered, handed}
use Rattle.numerals.specs.little_endian.LittleEndian.{u64_at, with_nth64}
use Rattle.leap_table.specs.rows.Table.{Row}
use Rattle.leap_table.specs.rows.Announced.{unless_refused}
use Rattle.utc.specs.iso_texts.TextCall.{buffer_holds}
use Rattle.c_answers.specs.table.TableBytes.{table_bytes}
use Rattle.c_answers.specs.Delivery.{code}
use Rattle.c_answers.proofs.table.Laws.{not-refused, refused_by, taken_by}
use Rattle.c_answers.proofs.Deliveries.{code-back}
use Rattle.line_listing.specs.declared.head.RunEnd.{RunEnd}
use Rattle.line_listing.specs.declared.lines.Part.{Part}
use Rattle.line_listing.specs.lines.StampLine.{stamps}
use Rattle.line_listing.specs.listing.Part.{Step, part_from, listing_refusal, step_answered, ListingCall}
use Rattle.capi.specs.SummaryDelivery.{run_record}
use Rattle.capi.specs.LineListingDelivery.{asked_refusal, part_asked, cursor_moved, PartDelivered}
use Rattle.capi.proofs.Summaries.{judged-out, judged-in}

-- ---- the call of the part, by what the code reads of the records and of the cursor
pub call_by : {s : Bool} {o : Outcome (List Row)} {g g' t t' u u' : RunEnd} {js ks ns order before after : List ℕ} {f f' d d' line line' textless textless' : ℕ}
    {res : Result Part Refusal} → g ≡ g' → t ≡ t' → u ≡ u' → f ≡ f' → d ≡ d' → line ≡ line' → textless ≡ textless'
    → ListingCall s o g t u (stamps js ks ns f d) order line textless before res after
    → ListingCall s o g' t' u' (stamps js ks ns f' d') order line' textless' before res after
call_by {s} {o} {g} {g'} {t} {t'} {u} {u'} {js} {ks} {ns} {order} {before} {after} {f} {f'} {d} {d'} {line} {line'} {textless} {textless'} {res} eg et eu ef ed
    el ex c = coe 0 1 (i. ListingCall s o (eg i) (et i) (eu i) (stamps js ks ns (ef i) (ed i)) order (el i) (ex i) before res after) c

-- ---- the call: what the code reads in the bytes s, a table with these rows
module _ (reasons : ℕ) (runs js ks ns order cursor before s : List ℕ) (rows : List Row) (lent : Result Unit Refusal)
    (judged : seen (λ (u : Unit). rows) lent ≡ table_bytes s) where
  abbrev own : ℕ
  own = listing_refusal (eqb reasons 1) (length ns) order (u64_at cursor 0) (length before)

  abbrev lengths : ℕ
  lengths = asked_refusal reasons runs (length js) (length ks) (length ns) (length cursor)

  -- the part by these rows
  abbrev part_by : List Row → Step
  part_by same = part_from (eqb reasons 1) same (run_record runs 0) (run_record runs 32) (run_record runs 64)
      (stamps js ks ns (u64_at runs 0) (u64_at runs 32)) order (u64_at cursor 0) (u64_at cursor 8) (length before)

  abbrev asked : Outcome Step
  asked = part_asked reasons runs js ks ns order cursor (length before) (table_bytes s)

  no_step : (k : ℕ) → asked ≡ refusal k → {r : ℤ} → mag r < 2 ^ 63 → r ≡ code (refusal k) → PartDelivered asked cursor before (to_z w64 (of_z w64 r)) cursor
      before
  unfolding cursor_moved onward buffer_holds
  no_step k e {r} ok c =
      subst (λ (o : Outcome Step). PartDelivered o cursor before (to_z w64 (of_z w64 r)) cursor before) (sym e)
      (record { returned = code-back ok ∙ c; moved = refl; written = refl })

  pub table-first : {r : ℤ} → mag r < 2 ^ 63 → (k : Refusal) → lent ≡ Err k → r ≡ code (refusal (refusal_number k))
      → PartDelivered asked cursor before (to_z w64 (of_z w64 r)) cursor before
  unfolding part_asked onward
  table-first ok k h c =
      no_step (refusal_number k)
      (sym (ap (λ (o : Outcome (List Row)). part_asked reasons runs js ks ns order cursor (length before) o) (refused_by (λ (u : Unit). rows) lent
      judged k h))) ok c

  module _ (z : (k : Refusal) → lent ≡ Err k → ⊥) (j : Result Unit Refusal)
      (e : number_said j ≡ asked_refusal reasons runs (length js) (length ks) (length ns) (length cursor)) where
    by_rows : asked ≡ onward (unless_refused lengths rows) (λ same. unless_refused own (part_by same))
    unfolding part_asked onward
    by_rows = sym (ap (λ (o : Outcome (List Row)). part_asked reasons runs js ks ns order cursor (length before) o) (taken_by (λ (u : Unit). rows)
        lent judged tt (not-refused lent z)))

    -- by what becomes of the rows
    went-on : {o : Outcome (List Row)} → unless_refused lengths rows ≡ o → asked ≡ onward o (λ same. unless_refused own (part_by same))
    went-on q = by_rows ∙ ap (λ (o : Outcome (List Row)). onward o (λ same. unless_refused own (part_by same))) q

    pub asked_first : {r : ℤ} → mag r < 2 ^ 63 → (k : Refusal) → j ≡ Err k → r ≡ code (refusal (refusal_number k))
        → PartDelivered asked cursor before (to_z w64 (of_z w64 r)) cursor before
    unfolding onward
    asked_first ok k h c = no_step (refusal_number k) (went-on (judged-out j e rows k h)) ok c

    module _ (y : (k : Refusal) → j ≡ Err k → ⊥) (after : List ℕ) (res : Result Part Refusal) (call : ListingCall (eqb reasons 1) (answer rows)
        (run_record runs 0) (run_record runs 32) (run_record runs 64) (stamps js ks ns (u64_at runs 0) (u64_at runs 32)) order (u64_at cursor 0)
        (u64_at cursor 8) before res after) where
      abbrev part : Step
      part = part_by rows

      asked_is : asked ≡ unless_refused own part
      unfolding onward
      asked_is = went-on (judged-in j e rows y)

      says : outcome res ≡ unless_refused own (step_answered part)
      unfolding onward
      says = call.says

      holds : after ≡ buffer_holds (unless_refused own part.bytes) before
      unfolding onward
      holds = call.holds

      pub part-fits : (p : Part) → res ≡ Ok p → p.written ≤ length before
      part-fits p i = call.fits p i

      pub part-refused : {r : ℤ} (m : Refusal) → mag r < 2 ^ 63 → res ≡ Err m → r ≡ code (refusal (refusal_number m))
          → PartDelivered asked cursor before (to_z w64 (of_z w64 r)) cursor after
      unfolding cursor_moved onward buffer_holds
      part-refused {r} m ok i c = go own refl (sym (handed i) ∙ says) holds
        where
          go : (k : ℕ) → own ≡ k → refusal (refusal_number m) ≡ unless_refused own (step_answered part) → after ≡ buffer_holds
              (unless_refused own part.bytes) before
              → PartDelivered asked cursor before (to_z w64 (of_z w64 r)) cursor after
          go zero q f h =
              let w : refusal (refusal_number m) ≡ answer (step_answered part) = f ∙ ap (λ (x : ℕ). unless_refused x (step_answered part)) q in
              let x : ◌≡◌ {A = ℕ} 0 1 = cc w in let v : ⊥ = omega arith in absurd v
          go (suc k) q f h =
              let w : refusal (refusal_number m) ≡ refusal (suc k) = f ∙ ap (λ (x : ℕ). unless_refused x (step_answered part)) q in
              let same : refusal_number m ≡ suc k = cc w in
              let is : asked ≡ refusal (refusal_number m) = asked_is ∙ ap (λ (x : ℕ). unless_refused x part) q ∙ ap refusal (sym same) in
              let kept : after ≡ before = h ∙ ap (λ (x : ℕ). buffer_holds (unless_refused x part.bytes) before) q in
              subst (λ (l : List ℕ). PartDelivered asked cursor before (to_z w64 (of_z w64 r)) cursor l) (sym kept) (no_step (refusal_number m) is ok c)

      pub part-written : (p : Part) (c1 c2 : List ℕ) → res ≡ Ok p → p.written < 2 ^ 63 → c1 ≡ with_nth64 cursor 0 p.line
          → c2 ≡ with_nth64 c1 1 p.textless → PartDelivered asked cursor before (to_z w64 p.written) c2 after
      unfolding cursor_moved onward buffer_holds code
      part-written p c1 c2 i few a b = go own refl (sym (answered i) ∙ says) holds
        where
          go : (k : ℕ) → own ≡ k → answer p ≡ unless_refused own (step_answered part) → after ≡ buffer_holds (unless_refused own part.bytes) before
              → PartDelivered asked cursor before (to_z w64 p.written) c2 after
          go (suc k) q f h =
              let w : answer p ≡ refusal (suc k) = f ∙ ap (λ (x : ℕ). unless_refused x (step_answered part)) q in
              let x : ◌≡◌ {A = ℕ} 0 1 = cc w in let v : ⊥ = omega arith in absurd v
          go zero q f h =
              let w : answer p ≡ answer (step_answered part) = f ∙ ap (λ (x : ℕ). unless_refused x (step_answered part)) q in
              let same : p ≡ step_answered part = cc w in
              let is : asked ≡ answer part = asked_is ∙ ap (λ (x : ℕ). unless_refused x part) q in
              subst (λ (o : Outcome Step). PartDelivered o cursor before (to_z w64 p.written) c2 after) (sym is)
              (record {
                returned = to_z_pos w64 {n = p.written} few ∙ ap (λ (x : Part). code (answer x.written)) same;
                moved = b ∙ ap (λ (l : List ℕ). with_nth64 l 1 p.textless) a
                    ∙ ap (λ (x : Part). with_nth64 (with_nth64 cursor 0 x.line) 1 x.textless) same;
                written = h ∙ ap (λ (x : ℕ). buffer_holds (unless_refused x part.bytes) before) q;
              })
