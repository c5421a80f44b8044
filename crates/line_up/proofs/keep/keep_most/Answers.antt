-- `line_up::keep::keep_most` meets its contract. Assumes nothing.
use native.Mathlib.Omega.{arith}
use Rattle.line_up.proofs.keep.Calls.{kept-is}
use Rattle.line_up.proofs.keep.Cells.{cells-room}
use Rattle.line_up.proofs.keep.keep_most.Goals as goal

pub lay-many-requires : goal.lay-many-requires
lay-many-requires c =
    record {
      layable = record {
        low = c.requires.low;
        high = c.requires.high;
        small = c.requires.small;
        tail_room = cells-room _ _ (omega (arith, c.requires.tail_room));
        rank_room = cells-room _ _ c.requires.rank_room;
      };
      ordered = c.requires.ordered;
    }

pub judge-requires : goal.judge-requires
judge-requires c =
    record {
      low = c.requires.low;
      high = c.requires.high;
      rank_room = cells-room _ _ (omega (arith, c.lay-many.auto.ranks, c.requires.rank_room));
    }

pub returns : goal.returns
returns c = kept-is _ _ _ _ _ _ _ c.lay-many.ensures c.judge.ensures
