-- A table that was read from a text, put into two buffers: what is written, step by step. Assumes nothing.
use Prim.Native.Nat.{ℕ, ◌+◌, ◌≤◌, ◌<◌}
use native.Mathlib.Numerals.{add-one}
use native.Mathlib.Omega.{arith}
use mathlib.Core.Path.{◌≡◌, refl, sym, ap, subst, ◌∙◌}
use mathlib.Core.List.{List}
use lib.IntN.{ℤ, pos}
use lib.ListN.{length, get_or}
use mir.Syntax.{w64}
use mir.Val.{to_z}
use mir.Facts.{to_z_pos}
use borrow.Author.Tests.{ne_eqb, lt-ltb, le-ltb}
use Rattle.std.specs.Prelude.{Ok, Err, min}
use Rattle.std.proofs.lemmas.Bool.Decides.{nat_tests}
use Rattle.refusals.specs.declared.Refusal.TheVariants as R
use Rattle.refusals.specs.Refusal.{refusal_number}
use Rattle.refusals.specs.Outcome.{refusal}
use Rattle.refusals.proofs.Handed.{number_low}
use Rattle.numerals.specs.little_endian.LittleEndian.{with_u32, with_nth32}
use Rattle.leap_table.specs.declared.rows.AnnouncedRows.{AnnouncedRows}
use Rattle.leap_table.specs.rows.Announced.{natural, least}
use Rattle.leap_lists.specs.declared.ListRead.{ListRead}
use Rattle.leap_lists.specs.declared.ListFault.{ListFault}
use Rattle.leap_lists.specs.Reading.{ListAnswer, list_told, refused_at}
use Rattle.c_answers.specs.Delivery.{code}
use Rattle.capi.specs.ListDelivery.{put_to, with_table, fault_line, rows_read, where_read, TableRead}

-- none of the numbers, and one more
pub put-none : (l : List ℕ) (from : ℕ) (ns : List ℤ) → l ≡ put_to l from ns 0
unfolding put_to
put-none l from ns = refl

pub put_next : (l : List ℕ) (from : ℕ) (ns : List ℤ) (i n : ℕ) (cur next : List ℕ) → next ≡ with_nth32 cur (from + i) n → cur ≡ put_to l from ns i
    → n ≡ natural (get_or ns i (pos 0)) → next ≡ put_to l from ns (i + 1)
unfolding put_to
put_next l from ns i n cur next f e g = f ∙ (λ j. with_nth32 (e j) (from + i) (g j)) ∙ ap (put_to l from ns) (sym (add-one i))

-- the four steps of a table
pub put_all : (t : AnnouncedRows) (l a b c d : List ℕ) → a ≡ with_nth32 l 0 t.months_size → b ≡ with_nth32 a 1 t.seconds_size
    → c ≡ put_to b 2 t.months 16 → d ≡ put_to c 18 t.seconds 16 → d ≡ with_table l t
unfolding with_table
put_all t l a b c d p q r s =
    s ∙ ap (λ (x : List ℕ). put_to x 18 t.seconds 16) (r ∙ ap (λ (x : List ℕ). put_to x 2 t.months 16)
    (q ∙ ap (λ (x : List ℕ). with_nth32 x 1 t.seconds_size) p))

-- ---- the call, by what the reader answered: the list that was read, or the line at fault
module _ {a : ListAnswer} {t k : List ℕ} {r : ℤ} where
  -- what holds of the answer told holds of the one that the contract speaks of
  pub as_told : {found : ListAnswer} {t' k' : List ℕ} → found ≡ a → TableRead found t k r t' k' → TableRead a t k r t' k'
  as_told {found} {t'} {k'} e d = subst (λ (x : ListAnswer). TableRead x t k r t' k') e d

  pub not_read : (f : ListFault) → list_told (Err f) ≡ a → r ≡ code (refusal (refusal_number f.refusal)) → TableRead a t k r t k
  unfolding list_told refused_at rows_read where_read
  not_read f e g =
      let no = ne_eqb (refusal_number f.refusal) 0 (λ z. let low = number_low f.refusal in omega (arith, low, z)) in
      as_told e (record { returned = rw (no, g); table_holds = rw no; known_holds = rw no })

  pub short-table : (l : ListRead) → list_told (Ok l) ≡ a → length t < 136 → r ≡ code (refusal (refusal_number R.NoRoom)) → TableRead a t k r t k
  unfolding list_told rows_read where_read refusal_number
  short-table l e s g =
      let low = lt-ltb _ _ s in
      as_told e (record { returned = rw (low, g); table_holds = rw low; known_holds = rw low })

  pub short-known : (l : ListRead) → list_told (Ok l) ≡ a → 136 ≤ length t → length k < 4 → r ≡ code (refusal (refusal_number R.NoRoom)) → TableRead a t k r t k
  unfolding list_told rows_read where_read refusal_number
  short-known l e m s g =
      let high = le-ltb _ _ m in
      let low = lt-ltb _ _ s in
      as_told e (record { returned = rw (high, low, g); table_holds = rw (high, low); known_holds = rw (high, low) })

  pub both_put : (l : ListRead) {t' k' : List ℕ} → list_told (Ok l) ≡ a → 136 ≤ length t → 4 ≤ length k → t' ≡ with_table t l.table
      → k' ≡ with_u32 k l.known_until → r ≡ pos l.table.months_size → TableRead a t k r t' k'
  unfolding list_told rows_read where_read code
  both_put l e m n p q g =
      let high = le-ltb _ _ m in
      let more = le-ltb _ _ n in
      as_told e (record { returned = rw (high, more, g); table_holds = rw (high, more, p); known_holds = rw (high, more, q) })

-- ---- the line at fault
pub no_line : {a : ListAnswer} (l : ListRead) → list_told (Ok l) ≡ a → pos 0 ≡ fault_line a
unfolding list_told fault_line
no_line l e = ap fault_line e

pub at_line : {a : ListAnswer} (f : ListFault) {n : ℕ} → list_told (Err f) ≡ a → n ≡ min f.line 9223372036854775807 → to_z w64 n ≡ fault_line a
unfolding list_told refused_at fault_line
at_line f {n} e p =
    let few : n ≤ 9223372036854775807 = grind (arith, nat_tests, p) in
    to_z_pos w64 {n = n} (omega (arith, few)) ∙ ap pos (p ∙ is-least f.line 9223372036854775807) ∙ ap fault_line e
  where
    is-least : (m n : ℕ) → min m n ≡ least m n
    is-least m n = grind (arith, nat_tests)
