-- `daylog::memos_of` meets its contract: no entry passes a sieve that wants 1 under the mask 0. Assumes nothing.
use mathlib.Core.Path.{refl}
use Rattle.daylog.specs.Inner.Memo.{no_memo}
use Rattle.daylog.proofs.Memos.{none_right, none_passed}
use Rattle.daylog.proofs.memos_of.Goals as goal

pub returns : goal.returns
unfolding no_memo
returns c = (
  λ es is. record { last = none_right es; other = none_right es; last-passed = none_passed es; other-passed = none_passed es; read = is },
  refl,
)
