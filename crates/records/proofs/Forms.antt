-- Both forms are lawful: a valid event fits its fields, and an event's values stand for it. Assumes nothing.
use Prim.Native.Nat.{zero-le}
use mathlib.Core.Path.{◌≡◌, refl}
use mathlib.Core.Bool.{true}
use native.Mathlib.Omega.{arith}
use Rattle.laws.proofs.Tests.{tests}
use Rattle.bits.specs.Fields.{total, Fit}
use lib.Dec.{lit≤}
use Rattle.bits.proofs.Packing.{done, most, fits, widths-to}
use Rattle.records.specs.declared.Event.{Event}
use Rattle.records.specs.declared.Event.TheVariants.{Order, Offer, Lockout}
use Rattle.records.specs.declared.Event16.{Event16}
use Rattle.records.specs.declared.Event16.TheVariants.{Order as Order16, Offer as Offer16, Lockout as Lockout16, Sending, Report, Closing}
use Rattle.records.specs.Event.{bytes12, widths, values_of, event_of, is_valid, form}
use Rattle.records.specs.Event16.{bytes16, widths16, values16_of, away_event_of, event16_of, is_valid16, form16}
use Rattle.records.specs.Inner.Lawful.{Lawful, Held}

-- a valid event fits its fields: each range is one of the tests

fit : (e : Event) → is_valid e ≡ true → Fit widths (values_of e)
unfolding is_valid values_of
fit (Order time root reset) h =
    fits
    (most 0 zero-le tt (most 86_399_999 (search tests depth 14) tt
    (most 63 (search tests depth 14) tt (most 0 zero-le tt (most 0 zero-le tt (most 0 zero-le tt
    (most 3 (search tests depth 14) tt (most 0 zero-le tt (most 0 zero-le tt done)))))))))
fit (Offer time root unit premium contracts) h =
    fits
    (most 1 (omega arith) tt (most 86_399_999 (search tests depth 14) tt
    (most 63 (search tests depth 14) tt (most 3 (search tests depth 14) tt
    (most 100_000_000 (search tests depth 14) tt (most 1_000_000 (search tests depth 14) tt (most 0 zero-le tt (most 0 zero-le tt (most 0 zero-le tt done)))))))))
fit (Lockout time level root) h =
    fits
    (most 2 (omega arith) tt (most 86_399_999 (search tests depth 14) tt
    (most 63 (search tests depth 14) tt (most 0 zero-le tt (most 0 zero-le tt (most 0 zero-le tt (most 0 zero-le tt
    (most 1 (search tests depth 14) tt (most 0 zero-le tt done)))))))))

back : (e : Event) → event_of (values_of e) ≡ e
unfolding event_of values_of
back (Order time root reset) = refl
back (Offer time root unit premium contracts) = refl
back (Lockout time level root) = refl

pub lawful : Lawful form
unfolding total
lawful = record { long = (lit≤ tt, lit≤ tt); each = widths-to 63 widths tt; full = refl; fit = fit; back = back }

fit16 : (e : Event16) → is_valid16 e ≡ true → Fit widths16 (values16_of e)
unfolding is_valid16 values16_of
fit16 (Order16 time root reset) h =
    fits
    (most 0 zero-le tt (most 86_399_999_999 (search tests depth 14) tt
    (most 63 (search tests depth 14) tt (most 0 zero-le tt (most 0 zero-le tt (most 0 zero-le tt
    (most 6 (search tests depth 14) tt (most 0 zero-le tt (most 0 zero-le tt (most 0 zero-le tt (most 0 zero-le tt done)))))))))))
fit16 (Offer16 time root unit premium contracts) h =
    fits
    (most 1 (omega arith) tt (most 86_399_999_999 (search tests depth 14) tt
    (most 63 (search tests depth 14) tt (most 3 (search tests depth 14) tt
    (most 100_000_000 (search tests depth 14) tt (most 1_000_000 (search tests depth 14) tt
    (most 0 zero-le tt (most 0 zero-le tt (most 0 zero-le tt (most 0 zero-le tt (most 0 zero-le tt done)))))))))))
fit16 (Lockout16 time level root) h =
    fits
    (most 2 (omega arith) tt (most 86_399_999_999 (search tests depth 14) tt
    (most 63 (search tests depth 14) tt (most 0 zero-le tt (most 0 zero-le tt (most 0 zero-le tt (most 0 zero-le tt
    (most 1 (search tests depth 14) tt (most 0 zero-le tt (most 0 zero-le tt (most 0 zero-le tt done)))))))))))
fit16 (Sending time root unit premium contracts identity reports) h =
    fits
    (most 3 (omega arith) tt (most 86_399_999_999 (search tests depth 14) tt
    (most 63 (search tests depth 14) tt (most 3 (search tests depth 14) tt
    (most 100_000_000 (search tests depth 14) tt (most 1_000_000 (search tests depth 14) tt (most 0 zero-le tt (most 0 zero-le tt
    (most 65_535 (search tests depth 14) tt (most 16 (search tests depth 14) tt (most 0 zero-le tt done)))))))))))
fit16 (Report time identity contracts) h =
    fits
    (most 4 (omega arith) tt (most 86_399_999_999 (search tests depth 14) tt
    (most 0 zero-le tt (most 0 zero-le tt (most 0 zero-le tt (most 1_000_000 (search tests depth 14) tt
    (most 0 zero-le tt (most 0 zero-le tt (most 65_535 (search tests depth 14) tt (most 0 zero-le tt (most 0 zero-le tt done)))))))))))
fit16 (Closing time identity) h =
    fits
    (most 5 (omega arith) tt (most 86_399_999_999 (search tests depth 14) tt
    (most 0 zero-le tt (most 0 zero-le tt (most 0 zero-le tt (most 0 zero-le tt
    (most 0 zero-le tt (most 0 zero-le tt (most 65_535 (search tests depth 14) tt (most 0 zero-le tt (most 0 zero-le tt done)))))))))))

back16 : (e : Event16) → event16_of (values16_of e) ≡ e
unfolding event16_of away_event_of values16_of
back16 (Order16 time root reset) = refl
back16 (Offer16 time root unit premium contracts) = refl
back16 (Lockout16 time level root) = refl
back16 (Sending time root unit premium contracts identity reports) = refl
back16 (Report time identity contracts) = refl
back16 (Closing time identity) = refl

pub lawful16 : Lawful form16
unfolding total
lawful16 = record { long = (lit≤ tt, lit≤ tt); each = widths-to 63 widths16 tt; full = refl; fit = fit16; back = back16 }

-- the code's bytes and widths are theirs
pub held : Held form bytes12 widths
held = record { lawful = lawful; sized = refl; wide = refl }

pub held16 : Held form16 bytes16 widths16
held16 = record { lawful = lawful16; sized = refl; wide = refl }
