-- `lines::convert_page` meets its contract: the run of the gathered stamps. Assumes nothing.
use Rattle.line_listing.specs.lines.Asked.{PartsRoom}
use Rattle.line_listing.proofs.lines.Pages.{page-converted, page-lengths}
use Rattle.line_listing.proofs.lines.convert_page.Goals as goal

pub returns : goal.returns
returns c =
    let g = c.gather.ensures in
    let h = c.gather-2.ensures in
    let e = c.convert_run_by_rows.ensures in
    let from : PartsRoom c.args.count _ _ = record { first = g.1; second = h.1 } in
    let w = page-lengths _ _ _ _ _ _ _ _ _ _ _ _ from c.requires.2 c.requires.3 g.0 h.0 e in
    (page-converted _ _ _ _ _ _ _ _ _ _ _ _ from c.requires.2 c.requires.3 g.0 h.0 e, w.0, from, w.1)
