-- `lines::write_texts` meets its contract: the call over the dates of the page. Assumes nothing.
use Rattle.line_listing.proofs.lines.Pages.{texts-there, texts-lengths}
use Rattle.line_listing.proofs.lines.write_texts.Goals as goal

pub returns : goal.returns
returns c =
    let e = c.texts_of_run_by_rows.ensures in
    (texts-there _ _ _ _ _ _ _ c.requires.0 c.requires.1 _ e, texts-lengths _ _ _ _ _ _ _ c.requires.0 c.requires.1 _ e)
