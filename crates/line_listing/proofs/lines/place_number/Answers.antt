-- `lines::place_number` meets its contract: the digits, and the sentence where it is asked for. Assumes nothing.
use Rattle.std.proofs.Common.{◌≡◌, ℕ, Bool, List, [], ◌++◌, length, sym, ap, ◌∙◌, append-nil, arith}
use Rattle.numerals.specs.digits.Decimal.{digits_of}
use Rattle.numerals.proofs.digits.Places.{placed-as, then}
use Rattle.line_listing.specs.lines.StampLine.{sentence_behind, number_told}
use Rattle.line_listing.proofs.lines.Lengths.{number-most, told-apart}
use Rattle.line_listing.proofs.lines.place_number.Goals as goal

pub place_sentence-requires : goal.place_sentence-requires
place_sentence-requires c =
    let most = number-most c.args.number c.args.jd c.requires.0 c.args.sentences in
    let apart = told-apart c.args.sentences c.args.number c.args.jd in
    let p = c.place_decimal-next.ensures.0.written (omega (arith, most, apart, c.requires.1)) in
    let same = ap (λ (b : Bool). length (sentence_behind b c.args.number c.args.jd)) c.if-sentences.true in
    omega (arith, most, apart, p.ends, same, c.requires.1)

pub returns-then-sentences-clause-placed : goal.returns-then-sentences-clause-placed
unfolding number_told
returns-then-sentences-clause-placed c =
    let most = number-most c.args.number c.args.jd c.requires.0 c.args.sentences in
    let apart = told-apart c.args.sentences c.args.number c.args.jd in
    let p = c.place_decimal-next.ensures.0.written (omega (arith, most, apart, c.requires.1)) in
    let q = placed-as (ap (λ (b : Bool). sentence_behind b c.args.number c.args.jd) (sym c.if-sentences.true))
    c.place_sentence.ensures in
    then p q (omega (arith, most, apart, p.ends, q.ends, c.requires.1))

pub returns-then-sentences-clause-result_bound : goal.returns-then-sentences-clause-result_bound
returns-then-sentences-clause-result_bound c =
    let most = number-most c.args.number c.args.jd c.requires.0 c.args.sentences in
    let apart = told-apart c.args.sentences c.args.number c.args.jd in
    let p = c.place_decimal-next.ensures.0.written (omega (arith, most, apart, c.requires.1)) in
    let q = placed-as (ap (λ (b : Bool). sentence_behind b c.args.number c.args.jd) (sym c.if-sentences.true))
    c.place_sentence.ensures in
    omega (arith, most, apart, p.ends, q.ends)

pub returns-clause-placed : goal.returns-clause-placed
unfolding number_told sentence_behind
returns-clause-placed c =
    let most = number-most c.args.number c.args.jd c.requires.0 c.args.sentences in
    let apart = told-apart c.args.sentences c.args.number c.args.jd in
    let p = c.place_decimal-next.ensures.0.written (omega (arith, most, apart, c.requires.1)) in
    let none : sentence_behind c.args.sentences c.args.number c.args.jd ≡ [] =
    ap (λ (b : Bool). sentence_behind b c.args.number c.args.jd) c.if-sentences.false in
    placed-as (sym (append-nil (digits_of c.args.number)) ∙ ap (λ (l : List ℕ). digits_of c.args.number ++ l) (sym none)) p

pub returns-clause-result_bound : goal.returns-clause-result_bound
returns-clause-result_bound c =
    let most = number-most c.args.number c.args.jd c.requires.0 c.args.sentences in
    let apart = told-apart c.args.sentences c.args.number c.args.jd in
    let p = c.place_decimal-next.ensures.0.written (omega (arith, most, apart, c.requires.1)) in
    omega (arith, most, apart, p.ends)
