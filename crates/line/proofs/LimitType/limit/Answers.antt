-- `line::LimitType::limit` meets its contract: the arm tells the measure, whose constructor takes the number. Assumes nothing.
use Rattle.std.proofs.Common.{◌≡◌, Some}
use Rattle.rules.specs.declared.Limit.TheVariants.{Notional, Volume, Count}
use Rattle.line.specs.Line.{limits_of, limit_of}
use Rattle.line.specs.Inner.Parts.{limit_read}
use Rattle.line.specs.declared.LimitType.{LimitType}
use Rattle.line.specs.declared.LimitType.TheVariants.{RateNtnl, RateVol, RateCount, AbsNtnl, AbsVol, AbsCount}
use Rattle.line.proofs.Parts.{limit_taken, either}
use Rattle.line.proofs.LimitType.limit.Goals as goal

pub returns-in_ok-limit-in-RateNtnl : goal.returns-in_ok-limit-in-RateNtnl
unfolding limits_of limit_of
returns-in_ok-limit-in-RateNtnl c =
    either c.in-RateNtnl.is (λ (t : LimitType). Some (Notional c.in_ok-limit-in-RateNtnl.field-0) ≡ limit_read t c.args.n)
    (limit_taken RateNtnl c.args.n c.in_ok-limit-in-RateNtnl.ensures) (limit_taken AbsNtnl c.args.n c.in_ok-limit-in-RateNtnl.ensures)

pub returns-in_ok-limit-in-RateVol : goal.returns-in_ok-limit-in-RateVol
unfolding limits_of limit_of
returns-in_ok-limit-in-RateVol c =
    either c.in-RateVol.is (λ (t : LimitType). Some (Volume c.in_ok-limit-in-RateVol.field-0) ≡ limit_read t c.args.n)
    (limit_taken RateVol c.args.n c.in_ok-limit-in-RateVol.ensures) (limit_taken AbsVol c.args.n c.in_ok-limit-in-RateVol.ensures)

pub returns-in_ok-limit-in-RateCount : goal.returns-in_ok-limit-in-RateCount
unfolding limits_of limit_of
returns-in_ok-limit-in-RateCount c =
    either c.in-RateCount.is (λ (t : LimitType). Some (Count c.in_ok-limit-in-RateCount.field-0) ≡ limit_read t c.args.n)
    (limit_taken RateCount c.args.n c.in_ok-limit-in-RateCount.ensures) (limit_taken AbsCount c.args.n c.in_ok-limit-in-RateCount.ensures)
