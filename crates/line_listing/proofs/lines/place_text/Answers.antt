-- `lines::place_text` meets its contract: the text stands where it was put, and where there is none that is told. Assumes nothing.
use Rattle.std.proofs.Common.{refl, arith}
use Rattle.line_listing.proofs.lines.Lengths.{room-low}
use Rattle.line_listing.proofs.lines.Line.{told-as, mark_told, mark_counted, none_told, none-counted, text-told, text-counted}
use Rattle.line_listing.proofs.lines.place_text.Goals as goal

pub returns-then-mark-ne0-clause-told_at : goal.returns-then-mark-ne0-clause-told_at
returns-then-mark-ne0-clause-told_at c =
    let m = c.if-mark-ne0.true in
    told-as (mark_told c.args.sentences _ c.args.tai c.args.date c.args.text.now _ m) (mark_counted _ _ m) c.place_no_text.ensures.told_at

pub returns-then-none-ne0-clause-told_at : goal.returns-then-none-ne0-clause-told_at
returns-then-none-ne0-clause-told_at c =
    let m = c.if-mark-ne0.false in
    let n = c.if-none-ne0.true in
    told-as (none_told c.args.sentences _ c.args.tai c.args.date c.args.text.now _ m n) (none-counted _ _ m n)
    c.place_no_text-then-none-ne0.ensures.told_at

pub returns-clause-told_at : goal.returns-clause-told_at
returns-clause-told_at c =
    let m = c.if-mark-ne0.false in
    let n = c.if-none-ne0.false in
    let p = c.place_bytes-next.ensures.written (omega (arith, room-low c.args.sentences, c.requires.0, c.requires.1)) in
    told-as (text-told c.args.sentences _ c.args.tai c.args.date c.args.text.now _ m n) (text-counted _ _ m n)
    (record { placed = p; counted = refl })

pub returns-clause-next_bound : goal.returns-clause-next_bound
returns-clause-next_bound c =
    let low = room-low c.args.sentences in
    let p = c.place_bytes-next.ensures.written (omega (arith, low, c.requires.0, c.requires.1)) in
    omega (arith, p.ends, low, c.requires.0)
