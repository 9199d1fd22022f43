-- `accounted::lent::without_account` meets its contract, test by test. Assumes nothing.
use Rattle.accounted.proofs.Answered.{without-short, without-mark, without-else}
use Rattle.accounted.proofs.lent.without_account.Goals as goal

pub returns-then-m-lt-SIZE : goal.returns-then-m-lt-SIZE
returns-then-m-lt-SIZE c = without-short _ c.if-m-lt-SIZE.true

pub returns-then-m-eq0 : goal.returns-then-m-eq0
returns-then-m-eq0 c = without-mark _ c.if-m-lt-SIZE.false c.if-m-eq0.true

pub returns : goal.returns
returns c = without-else _ c.if-m-lt-SIZE.false c.if-m-eq0.false
