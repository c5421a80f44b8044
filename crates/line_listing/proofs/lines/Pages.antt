-- A page of 256 lines: the parts that are gathered, and the UTC that a run of them leaves. Assumes nothing.
use Rattle.std.proofs.Common.{◌≡◌, ℕ, zero, suc, ◌+◌, ◌*◌, ◌/◌, ◌%◌, ◌<◌, ◌≤◌, T, ◌⊎◌, List, length, get_or, take, drop, sym, refl, ap, ◌∙◌, subst, inl, inr}
use Rattle.std.proofs.Common.{eq-or-lt_of_le, arith, length-drop, length-take-le, get_or-drop, get_or-take, ext_get_or, eq-eqb, ne_eqb, le-leb}
use lib.Seq.{sets, length-sets}
use lib.Ieee.{Float, binary64, fits, of_bits, to_bits}
use lib.Ieee.Bits.{to_bits-lt, of_bits-to_bits}
use lib.Ieee.Fits.{add-fits}
use Rattle.refusals.specs.Outcome.{Outcome, answer, refusal}
use Rattle.refusals.proofs.Onward.{came}
use Rattle.numerals.specs.little_endian.LittleEndian.{four_at, u64_at, eight_bytes, with_nth64}
use Rattle.numerals.proofs.little_endian.Puts.{put-64-is}
use Rattle.numerals.proofs.little_endian.RoundTrip.{read-written}
use Rattle.julian.specs.declared.JulianDate.{JulianDate}
use Rattle.julian.specs.JulianDate.{julian}
use Rattle.julian.specs.stamp_lists.Stamps.{stamp_of}
use Rattle.leap_table.specs.rows.Table.{Row}
use Rattle.scales.specs.laws.Ranges.{Held}
use Rattle.utc_scales.specs.UtcTai.{moved, refined, rounds, refine_utc_fraction, tai_to_utc, utc_to_tai}
use Rattle.utc_scales.specs.days.LargerPart.{kept_parts, put_beside, placed, change_smaller}
use Rattle.utc_scales.specs.laws.Claims.{Holds, refuses, Any}
use Rattle.utc_scales.proofs.laws.Refusals.{parts-fit}
use Rattle.runs.specs.by_formula.Run.{RunCall, run_written, first_part, second_part}
use Rattle.runs.proofs.by_formula.Puts.{parts-length, numbers-length}
use Rattle.runs.specs.ways.Ways.{is_run_scale}
use Rattle.runs.specs.Run.{stamp_answer, run_refusal, run_by, converted_run}
use Rattle.runs.specs.laws.NotFiniteStamps.{OneSixNine}
use Rattle.runs.specs.laws.Done.{StampDone}
use Rattle.numerals.proofs.little_endian.SetBytes.{set_outside, set_inside}
use Rattle.runs.proofs.laws.Refusing.{stamp-held, way_refusals, beside-held}
use Rattle.runs.proofs.laws.EachWay.{each_way}
use Rattle.runs.proofs.laws.Theorems.{each-stamp}
use Rattle.stamps.proofs.Texts.{brief}
use Rattle.utc.specs.declared.iso_texts.NamedForm.TheVariants.{Expanded}
use Rattle.utc.specs.iso_texts.Named.{form_named}
use Rattle.utc.specs.iso_texts.Expanded.{iso_text_expanded}
use Rattle.utc.specs.run_texts.RunTexts.{stamp_text, length_byte, refusal_byte, TextsCall, texts_written, texts_by, texts_of_run}
use Rattle.utc.specs.laws.RunTexts.{TextDone, TextsDue}
use Rattle.utc.proofs.run_texts.Puts.{texts-kept, bytes-kept}
use Rattle.utc.proofs.laws.RunTexts.{due_answered, each-text}
use Rattle.line_listing.specs.lines.StampLine.{line_in_order}
use Rattle.line_listing.specs.lines.Asked.{answer_by, PartsRoom, TextsRoom, page_text, Gathered, Converted, Texts}

-- ---- eight bytes are one number
module _ (l m : List ℕ) (at to : ℕ) (room : at + 8 ≤ length l) (room' : to + 8 ≤ length m) (same : (k : ℕ) → k < 8 → get_or l (at + k) 0 ≡ get_or m (to + k) 0)
  where
    by_byte : (a b k : ℕ) → k < 8 → a ≡ at + k → b ≡ to + k → get_or l a 0 ≡ get_or m b 0
    by_byte a b k h e f = ap (λ (j : ℕ). get_or l j 0) e ∙ same k h ∙ ap (λ (j : ℕ). get_or m j 0) (sym f)

    four_same : (a b k : ℕ) → k < 5 → a ≡ at + k → b ≡ to + k → four_at l a ≡ four_at m b
    unfolding four_at
    four_same a b k h e f =
        rw (
          by_byte a b k (omega arith) e f,
          by_byte (a + 1) (b + 1) (k + 1) (omega arith) (omega arith) (omega arith),
          by_byte (a + 2) (b + 2) (k + 2) (omega arith) (omega arith) (omega arith),
          by_byte (a + 3) (b + 3) (k + 3) (omega arith) (omega arith) (omega arith),
        ) refl

    pub eight_same : u64_at l at ≡ u64_at m to
    unfolding u64_at
    eight_same = rw (
      le-leb (at + 8) (length l) room,
      le-leb (to + 8) (length m) room',
      four_same at to 0 (omega arith) (omega arith) (omega arith),
      four_same (at + 4) (to + 4) 4 (omega arith) refl refl,
    ) refl

eight_read : (l : List ℕ) (at n : ℕ) → at + 8 ≤ length l → ((k : ℕ) → k < 8 → get_or l (at + k) 0 ≡ get_or (eight_bytes n) k 0)
    → u64_at l at ≡ u64_at (eight_bytes n) 0
eight_read l at n room same = eight_same l (eight_bytes n) at 0 room (omega arith)
    (λ k h. same k h ∙ ap (λ (j : ℕ). get_or (eight_bytes n) j 0) (let e : k ≡ 0 + k = omega arith in e))

-- ---- a number put into its place, and the others
module _ (l : List ℕ) (i n : ℕ) (room : 8 * i + 8 ≤ length l) where
  put-there : n < 18446744073709551616 → u64_at (with_nth64 l i n) (8 * i) ≡ n
  put-there h =
      ap (λ (s : List ℕ). u64_at s (8 * i)) (put-64-is l i n room)
      ∙ eight_read (sets l (8 * i) (eight_bytes n)) (8 * i) n (omega (arith, length-sets l (8 * i) (eight_bytes n)))
      (λ k b. set_inside (eight_bytes n) l (8 * i) k room b)
      ∙ read-written n h

  put_other : (j : ℕ) → j < i → u64_at (with_nth64 l i n) (8 * j) ≡ u64_at l (8 * j)
  put_other j h =
      ap (λ (s : List ℕ). u64_at s (8 * j)) (put-64-is l i n room)
      ∙ eight_same (sets l (8 * i) (eight_bytes n)) l (8 * j) (8 * j) (omega (arith, length-sets l (8 * i) (eight_bytes n))) (omega arith)
      (λ k b. set_outside (eight_bytes n) l (8 * i) (8 * j + k) (inl (omega arith)))

-- ONE PART MORE is gathered
pub gathered_more : (jds order : List ℕ) (line n : ℕ) (out out' : List ℕ) (p x : ℕ) → 8 * n + 8 ≤ length out → Gathered jds order line n out
    → p ≡ line_in_order order (line + n) → x ≡ u64_at jds (8 * p) → x < 18446744073709551616 → out' ≡ with_nth64 out n x → Gathered jds order line (n + 1) out'
gathered_more jds order line n out out' p x room g e f small put i h = by (eq-or-lt_of_le (let w : i ≤ n = omega arith in w))
  where
    by : (i ≡ n) ⊎ (i < n) → u64_at out' (8 * i) ≡ u64_at jds (8 * line_in_order order (line + i))
    by (inl q) =
        ap (λ (j : ℕ). u64_at out' (8 * j)) q ∙ ap (λ (s : List ℕ). u64_at s (8 * n)) put ∙ put-there out n x room small
        ∙ f ∙ ap (λ (m : ℕ). u64_at jds (8 * m)) (e ∙ ap (λ (j : ℕ). line_in_order order (line + j)) (sym q))
    by (inr b) = ap (λ (s : List ℕ). u64_at s (8 * i)) put ∙ put_other out n x room i b ∙ g i b

-- ---- the UTC of a TAI that a float holds is held too
module _ (rows : List Row) where
  round_held : (big small guess z : Float) (k : ℕ) → T (fits binary64 guess) → rounds rows big small k guess ≡ answer z → T (fits binary64 z)
  unfolding rounds refined moved
  round_held big small guess z zero h e = let q : guess ≡ z = cc e in subst (λ (v : Float). T (fits binary64 v)) q h
  round_held big small guess z (suc k) h e =
      let y = came (refined rows big small guess) (rounds rows big small k) z e in
      let t = came (utc_to_tai rows (julian big guess)) (λ tai. answer (moved big small guess tai)) y.0 y.1 in
      let w : moved big small guess t.0 ≡ y.0 = cc t.2 in
      round_held big small y.0 z k (subst (λ (x : Float). T (fits binary64 x)) w (add-fits binary64 _ _)) y.2

  utc-held : (d u : JulianDate) → Held d → tai_to_utc rows d ≡ answer u → Held u
  unfolding tai_to_utc change_smaller placed refine_utc_fraction put_beside
  utc-held d u g e = by (came (refine_utc_fraction rows (kept_parts d).larger (kept_parts d).smaller) (placed (kept_parts d)) u e)
    where
      by : (z : Float) × (refine_utc_fraction rows (kept_parts d).larger (kept_parts d).smaller ≡ answer z) × (placed (kept_parts d) z ≡ answer u) → Held u
      by (z, p, q) =
          let r : put_beside (kept_parts d) z ≡ u = cc q in
          let h = round_held (kept_parts d).larger (kept_parts d).smaller (kept_parts d).smaller z 3 (parts-fit d g).1 p in
          subst Held r (beside-held rows d g z h)

-- ---- the UTC that a run leaves of a stamp
module _ (rows : List Row) (js ks out1 out2 numbers : List ℕ)
    (z : run_refusal 1 0 (length js) (length ks) (length out1) (length out2) (length numbers) ≡ 0) (c : RunCall)
    (call : c ≡ run_by rows 1 0 js ks out1 out2 numbers) where
  done : (i : ℕ) → i < length js / 8 → StampDone (stamp_answer rows 1 0 js ks i) i out1 out2 c
  unfolding converted_run
  done i h = subst (StampDone (stamp_answer rows 1 0 js ks i) i out1 out2) (sym call) (each-stamp rows 1 0 js ks out1 out2 numbers z i h)

  written : c ≡ run_written (stamp_answer rows 1 0 js ks) (length js / 8) out1 out2 numbers
  unfolding run_by
  written = call ∙ rw (eq-eqb _ 0 z)

  first-length : length c.out1 ≡ length out1
  unfolding run_written
  first-length = ap (λ (x : RunCall). length x.out1) written ∙ parts-length first_part (stamp_answer rows 1 0 js ks) (length js / 8) out1

  second-length : length c.out2 ≡ length out2
  unfolding run_written
  second-length = ap (λ (x : RunCall). length x.out2) written ∙ parts-length second_part (stamp_answer rows 1 0 js ks) (length js / 8) out2

  third-length : length c.numbers ≡ length numbers
  unfolding run_written
  third-length = ap (λ (x : RunCall). length x.numbers) written ∙ numbers-length (stamp_answer rows 1 0 js ks) (length js / 8) numbers

  module _ (i : ℕ) (h : i < length js / 8) (room1 : 8 * i + 8 ≤ length c.out1) (room2 : 8 * i + 8 ≤ length c.out2) where
    float_read : (x : Float) (l : List ℕ) → T (fits binary64 x) → 8 * i + 8 ≤ length l
        → ((k : ℕ) → k < 8 → get_or l (8 * i + k) 0 ≡ get_or (eight_bytes (to_bits binary64 x)) k 0) → of_bits binary64 (u64_at l (8 * i)) ≡ x
    float_read x l g room same =
        ap (of_bits binary64) (eight_read l (8 * i) (to_bits binary64 x) room same
        ∙ read-written (to_bits binary64 x) (to_bits-lt binary64 x g)) ∙ of_bits-to_bits binary64 x g

    date-read : (d : JulianDate) → Held d → stamp_answer rows 1 0 js ks i ≡ answer d → stamp_of c.out1 c.out2 i ≡ d
    unfolding stamp_of
    date-read d g e = λ j. julian (float_read d.jd1 c.out1 g.0 room1 ((done i h).first d e) j)
        (float_read d.jd2 c.out2 g.1 room2 ((done i h).second d e) j)

    pub stamp-converted : answer_by (get_or c.numbers i 0) (stamp_of c.out1 c.out2 i) ≡ tai_to_utc rows (stamp_of js ks i)
    unfolding answer_by is_run_scale
    stamp-converted = by (stamp_answer rows 1 0 js ks i) refl (way_refusals rows 1 0 refl refl (stamp_of js ks i) (stamp-held js ks i)) ∙ way
      where
        way : stamp_answer rows 1 0 js ks i ≡ tai_to_utc rows (stamp_of js ks i)
        way = (each_way rows (stamp_of js ks i)).tai_utc

        by : (o : Outcome JulianDate) → stamp_answer rows 1 0 js ks i ≡ o → Holds Any OneSixNine o
            → answer_by (get_or c.numbers i 0) (stamp_of c.out1 c.out2 i) ≡ stamp_answer rows 1 0 js ks i
        by (answer d) e a =
            let held = utc-held rows (stamp_of js ks i) d (stamp-held js ks i) (sym way ∙ e) in
            rw (eq-eqb _ 0 ((done i h).answered d e)) (ap answer (date-read d held e) ∙ sym e)
        by (refusal n) e (refuses r) =
            let m = (done i h).numbered n e in
            rw (ne_eqb (get_or c.numbers i 0) 0 (λ (w : get_or c.numbers i 0 ≡ 0). not_zero n r (sym m ∙ w))) (ap refusal m ∙ sym e)
          where
            not_zero : (n : ℕ) → OneSixNine n → n ≡ 0 → ⊥
            not_zero n (inl e) q = omega arith
            not_zero n (inr (inl e)) q = omega arith
            not_zero n (inr (inr e)) q = omega arith

-- THE UTC OF A PAGE of n lines
module _ (rows : List Row) (js ks order : List ℕ) (line n : ℕ) (tai1 tai2 out1 out2 numbers : List ℕ) (c : RunCall) (from : PartsRoom n tai1 tai2)
    (to : PartsRoom n out1 out2) (f : length numbers ≡ n) (u : Gathered js order line n tai1) (v : Gathered ks order line n tai2)
    (call : c ≡ run_by rows 1 0 tai1 tai2 out1 out2 numbers) where
  taken : run_refusal 1 0 (length tai1) (length tai2) (length out1) (length out2) (length numbers) ≡ 0
  unfolding run_refusal is_run_scale
  taken =
      let w : 8 * n % 8 ≡ 0 = omega arith in
      let q : 8 * n / 8 ≡ n = omega arith in
      rw (
        from.first,
        from.second,
        to.first,
        to.second,
        f,
        w,
        eq-eqb (8 * n) (8 * n) refl,
        le-leb (8 * n) (8 * n) (omega arith),
        q,
        le-leb n n (omega arith),
      ) refl

  same : (i : ℕ) → i < n → stamp_of tai1 tai2 i ≡ stamp_of js ks (line_in_order order (line + i))
  unfolding stamp_of
  same i low = λ j. julian (of_bits binary64 (u i low j)) (of_bits binary64 (v i low j))

  pub page-lengths : PartsRoom n c.out1 c.out2 × (length c.numbers ≡ n)
  page-lengths = (
    record {
      first = first-length rows tai1 tai2 out1 out2 numbers taken c call ∙ to.first;
      second = second-length rows tai1 tai2 out1 out2 numbers taken c call ∙ to.second;
    },
    third-length rows tai1 tai2 out1 out2 numbers taken c call ∙ f,
  )

  pub page-converted : Converted rows js ks order line n c.out1 c.out2 c.numbers
  page-converted i low =
      stamp-converted rows tai1 tai2 out1 out2 numbers taken c call i (omega (arith, from.first)) (omega (arith, page-lengths.0.first))
      (omega (arith, page-lengths.0.second))
      ∙ ap (tai_to_utc rows) (same i low)

-- THE TEXTS OF A PAGE of n lines, from what the call leaves of each
module _ (rows : List Row) (utc1 utc2 : List ℕ) (n : ℕ) (texts lengths nones : List ℕ) (room : PartsRoom n utc1 utc2) (places : TextsRoom n texts lengths nones)
    (c : TextsCall) (call : c ≡ texts_by (form_named Expanded) rows utc1 utc2 texts lengths nones) where
  due : TextsDue n (length utc1) (length utc2) (length texts) (length lengths) (length nones)
  due = record {
    first = room.first;
    second = room.second;
    places = omega (arith, places.places);
    bytes = omega (arith, places.sizes);
    bytes2 = omega (arith, places.marks);
  }

  written-texts : c ≡ texts_written (stamp_text (form_named Expanded) rows utc1 utc2) n texts lengths nones
  unfolding texts_by
  written-texts =
      let q : length utc1 / 8 ≡ n = omega (arith, room.first) in
      call ∙ rw (eq-eqb _ 0 (due_answered (length utc1) (length utc2) (length texts) (length lengths) (length nones) n due), q)

  each : (i : ℕ) → i < n → TextDone (iso_text_expanded rows (stamp_of utc1 utc2 i)) i texts c
  unfolding texts_of_run form_named
  each i h = subst (TextDone (iso_text_expanded rows (stamp_of utc1 utc2 i)) i texts) (sym call)
      (each-text Expanded rows utc1 utc2 texts lengths nones n due i h)

  pub texts-lengths : TextsRoom n c.texts c.lengths c.numbers
  unfolding texts_written
  texts-lengths = record {
    places = ap (λ (x : TextsCall). length x.texts) written-texts ∙ texts-kept (stamp_text (form_named Expanded) rows utc1 utc2) n texts ∙ places.places;
    sizes = ap (λ (x : TextsCall). length x.lengths) written-texts ∙ bytes-kept length_byte (stamp_text (form_named Expanded) rows utc1 utc2) n lengths
        ∙ places.sizes;
    marks = ap (λ (x : TextsCall). length x.numbers) written-texts ∙ bytes-kept refusal_byte (stamp_text (form_named Expanded) rows utc1 utc2) n nones
        ∙ places.marks;
  }

  pub texts-there : Texts rows utc1 utc2 n c.texts c.lengths c.numbers
  texts-there i h = record { there = there; none = λ k e. (each i h).numbered k e; short = short (iso_text_expanded rows (stamp_of utc1 utc2 i)) refl }
    where
      short : (o : Outcome (List ℕ)) → iso_text_expanded rows (stamp_of utc1 utc2 i) ≡ o → get_or c.lengths i 0 ≤ 27
      short (answer t) e = omega (arith, (each i h).measured t e, brief rows (stamp_of utc1 utc2 i) t e)
      short (refusal k) e = omega (arith, (each i h).empty k e)

      there : (t : List ℕ) → iso_text_expanded rows (stamp_of utc1 utc2 i) ≡ answer t
          → (get_or c.numbers i 0 ≡ 0) × (page_text c.texts c.lengths i ≡ t)
      there t e =
          let few = brief rows (stamp_of utc1 utc2 i) t e in
          let long : length t ≤ length (drop (27 * i) c.texts) = omega (arith, few, length-drop (27 * i) c.texts, texts-lengths.places) in (
            (each i h).answered t e,
            ap (λ (k : ℕ). take k (drop (27 * i) c.texts)) ((each i h).measured t e)
                ∙ ext_get_or 0 (take (length t) (drop (27 * i) c.texts)) t (length-take-le (length t) (drop (27 * i) c.texts) long)
                (λ k b.
                let low : k < length t = omega (arith, length-take-le (length t) (drop (27 * i) c.texts) long) in
                get_or-take (length t) (drop (27 * i) c.texts) k 0 low ∙ get_or-drop (27 * i) c.texts k 0 ∙ (each i h).written t e k low),
          )
