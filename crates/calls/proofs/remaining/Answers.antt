-- `calls::remaining` meets its contract: it is refused by the memory, or it is the call on tested memory. Assumes nothing.
use Rattle.std.proofs.lemmas.Result.{err_from_is_err_and}
use Rattle.machine.specs.Calls.{Call}
use Rattle.calls.proofs.Armed.{call-refused}
use Rattle.refusals.proofs.Once.{some_number}
use Rattle.calls.proofs.remaining.Goals as goal

pub returns-in_err-memory_refusal : goal.returns-in_err-memory_refusal
returns-in_err-memory_refusal c =
    let e = err_from_is_err_and c.from_residual.result c.from_residual.ensures.1 in rw (e.1, e.2) ((call-refused _ (Call.remaining _ _ _) _ c.in_err-memory_refusal.ensures (some_number _)).0)
