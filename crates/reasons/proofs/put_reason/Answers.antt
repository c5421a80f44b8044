-- `put_reason` meets its contract. Assumes nothing.
use Rattle.refusals.proofs.Handed.{handed_on}
use Rattle.utc.proofs.iso_texts.TextCalls.{call-refused, call-put}
use Rattle.reasons.proofs.Told.{told-refused, told-given}
use Rattle.reasons.proofs.put_reason.Goals as goal

pub returns-in_err-reason : goal.returns-in_err-reason
returns-in_err-reason c =
    call-refused _ _ _ _ (handed_on _ _ c.from_residual.ensures.1) (told-refused _ _ _ c.reason_of.ensures _ c.in_err-reason.was)

pub returns : goal.returns
returns c = call-put _ _ _ _ _ (told-given _ _ _ c.reason_of.ensures _ c.in_ok-reason.was) c.put_sentence.ensures
