-- `offers::offer_fault` meets its contract: 12, 13, then 14. Assumes nothing.
use Rattle.seats.proofs.Tested.{laid_of}
use Rattle.seats.proofs.Granting.{late_is, unknown-is, unpriced-is, fault-late, fault-unknown, fault-price}
use mathlib.Core.Bool.{not}
use mathlib.Core.Path.{ap}
use Rattle.seats.proofs.offers.offer_fault.Goals as goal

pub clock_in-requires : goal.clock_in-requires
clock_in-requires c = laid_of _ c.requires

pub returns-then-not-is_in-clock_in : goal.returns-then-not-is_in-clock_in
returns-then-not-is_in-clock_in c = let start = c in fault-late start.args.s.now start.args.o (late_is start.args.s.now start.args.o c.is_in.ensures c.clock_in.ensures (ap not c.if-not-is_in-clock_in.true))

pub roots_in-requires : goal.roots_in-requires
roots_in-requires c = laid_of _ c.requires

pub returns-then-not-o-roots_in : goal.returns-then-not-o-roots_in
returns-then-not-o-roots_in c = let start = c in fault-unknown start.args.s.now start.args.o (late_is start.args.s.now start.args.o c.is_in.ensures c.clock_in.ensures (ap not c.if-not-is_in-clock_in.false)) (unknown-is start.args.s.now start.args.o c.roots_in.ensures c.is_in-2.ensures (ap not c.if-not-o-roots_in.true))

pub returns-then-not-is_in : goal.returns-then-not-is_in
returns-then-not-is_in c = let start = c in fault-price start.args.s.now start.args.o (late_is start.args.s.now start.args.o c.is_in.ensures c.clock_in.ensures (ap not c.if-not-is_in-clock_in.false)) (unknown-is start.args.s.now start.args.o c.roots_in.ensures c.is_in-2.ensures (ap not c.if-not-o-roots_in.false)) (unpriced-is start.args.s.now start.args.o c.is_in-3.ensures c.is_in-4.ensures (ap not c.if-not-is_in.true))

pub returns : goal.returns
returns c = let start = c in fault-price start.args.s.now start.args.o (late_is start.args.s.now start.args.o c.is_in.ensures c.clock_in.ensures (ap not c.if-not-is_in-clock_in.false)) (unknown-is start.args.s.now start.args.o c.roots_in.ensures c.is_in-2.ensures (ap not c.if-not-o-roots_in.false)) (unpriced-is start.args.s.now start.args.o c.is_in-3.ensures c.is_in-4.ensures (ap not c.if-not-is_in.false))
