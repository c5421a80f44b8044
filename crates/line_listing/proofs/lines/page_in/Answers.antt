-- `lines::page_in` meets its contract: the UTC, its texts, and the lines by them. Assumes nothing.
use Rattle.line_listing.proofs.lines.Whole.{page-lines}
use Rattle.line_listing.proofs.lines.page_in.Goals as goal

pub returns : goal.returns
returns c =
    page-lines _ _ _ _ _ _ _ c.convert_page.ensures.0 c.write_texts.ensures.0 _ _ _
    c.place_lines.ensures
