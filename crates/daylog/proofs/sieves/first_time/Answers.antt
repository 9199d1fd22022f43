-- `daylog::first_time` meets its contract: by the cases of the kind and of how far back the window goes. Assumes nothing.
use native.Mathlib.Omega.{arith}
use Rattle.daylog.specs.Inner.Sieve.{first_time}
use Rattle.daylog.proofs.sieves.first_time.Goals as goal

pub returns-then-time-window : goal.returns-then-time-window
unfolding first_time
returns-then-time-window c = rw c.in-Rate.is (omega (arith, c.if-time-window.true))

pub returns-then-past-lt-WINDOW_MOST : goal.returns-then-past-lt-WINDOW_MOST
unfolding first_time
returns-then-past-lt-WINDOW_MOST c = rw c.in-Rate.is (omega (arith, c.if-past-lt-WINDOW_MOST.true, c.if-time-window.false))

pub returns-else-past-lt-WINDOW_MOST : goal.returns-else-past-lt-WINDOW_MOST
unfolding first_time
returns-else-past-lt-WINDOW_MOST c = rw c.in-Rate.is (omega (arith, c.if-past-lt-WINDOW_MOST.false, c.if-time-window.false))

pub returns-in-Absolute : goal.returns-in-Absolute
unfolding first_time
returns-in-Absolute c = rw c.in-Absolute.is
