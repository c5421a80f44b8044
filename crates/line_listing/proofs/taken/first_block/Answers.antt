-- `line_listing::taken::first_block` meets its contract. Assumes nothing.
use Rattle.std.proofs.Common.{take, ap, ◌∙◌}
use Rattle.stamps.specs.Block.{block_of}
use Rattle.line_listing.specs.taken.Run.{first_block, block_length}
use Rattle.line_listing.proofs.taken.Blocks.{within}
use Rattle.line_listing.proofs.taken.first_block.Goals as goal

pub returns : goal.returns
unfolding first_block
returns c =
    let s = c.args.s.now in
    let e = c.smaller-end.ensures.0 in
    let n = c.u32_at-n.ensures in
    c.block_stamps.ensures ∙ ap (λ (k : _). block_of (take k s)) e ∙ ap block_of (within _ s) ∙ ap (λ (k : _). block_of (take (block_length k) s)) n
