-- `capi::block_calls::ct_reason_listing_part` meets its contract: the block is one of bytes, and the length has 64 bits. Assumes nothing.
use mathlib.Core.Path.{refl}
use native.Mathlib.Omega.{arith}
use Rattle.stamps.specs.Listing.{line_room}
use Rattle.stamps.proofs.Reportings.{bytes-width}
use borrow.Author.Rules.{rules}
use Rattle.capi.proofs.block_calls.ct_reason_listing_part.Goals as goal

pub deliver_part-requires : goal.deliver_part-requires
unfolding line_room
deliver_part-requires c = (refl, bytes-width _ _ (omega arith) (λ k. search rules))
