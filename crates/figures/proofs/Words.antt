-- The figures of a level are what the request's words say of the calls and answers. Assumes nothing.
use Prim.Native.Nat.{ℕ, zero, suc, ◌+◌, ◌*◌}
use native.Mathlib.Omega.{arith}
use mathlib.Core.Path.{◌≡◌, refl, ap₂}
use mathlib.Core.Bool.{Bool, true, false, not, cond, ◌&&◌, ◌||◌}
use mathlib.Core.List.{List, [], ◌∷◌}
use lib.Dec.{ltb}
use borrow.Author.Tests.{ne_eqb}
use Rattle.rules.specs.declared.Level.{Level}
use Rattle.rules.specs.declared.Level.TheVariants.{Firm, Root}
use Rattle.machine.specs.declared.Offer.{Offer}
use Rattle.machine.specs.declared.Sent.{Sent}
use Rattle.machine.specs.Answer.{Answer, Refused, Judged, Left, Standing}
use Rattle.machine.specs.Calls.{Call, order, lockout, offer, remaining, status, send, report, close}
use Rattle.demand.specs.Run.{Event}
use Rattle.figures.specs.declared.Figures.{Figures}
use Rattle.figures.specs.declared.Happening.{Happening}
use Rattle.figures.specs.declared.Happening.TheVariants.{Uncounted, Ordered, Offered, Reported}
use Rattle.figures.specs.Happenings.{ordered_of, offered_of, reported_of, happening_of}
use Rattle.figures.specs.Figures as row
use Rattle.demand.specs.Answers.{one}
use Rattle.figures.specs.Figures.{trip_at, happening_root, is_of_level, figures_of, no_figures, plus}
use Rattle.figures.specs.History.{is_free, root_sent, added_to, figures_in}
use Rattle.figures.specs.Words.{is_at, is_order, is_offer, is_report, premium_in, contracts_in, is_judged, grant_said, trip_in, tally, FiguresSaid}
use Rattle.figures.proofs.Roots.{uncounted-none}

-- what one event adds, where it is an order, an offer or a report of the level or is not, and tripped it or did not
abbrev Says : Figures → Bool → Bool → Bool → Call → Answer → Bool → Type 0
Says f ordered offered reported call a tripped =
    (f.accepted ≡ one (ordered && is_free a))
    × (f.rejected ≡ one (ordered && (is_judged a && not (is_free a))))
    × (f.fills.0 ≡ one (offered && (is_free a && ltb 0 (grant_said a))))
    × (f.contracts.0 ≡ cond (offered && is_free a) (grant_said a) 0)
    × (f.notional.0 ≡ cond (offered && is_free a) (premium_in call * grant_said a) 0)
    × (f.cuts ≡ one (offered && (is_free a && ltb (grant_said a) (contracts_in call))))
    × (f.trips ≡ one (((offered && is_free a) || reported) && tripped))
    × (f.away ≡ one (reported && is_judged a))

at_same : (level : Level) (h : Happening) → is_of_level level h ≡ is_at level (happening_root h)
unfolding is_of_level is_at
at_same Firm h = refl
at_same (Root r) h = refl

-- a trip is the level's own
trip-same : (level : Level) (verdict grant : ℕ) (roottrip firmtrip : Bool) → trip_at level roottrip firmtrip ≡ one (trip_in level (Judged verdict grant roottrip firmtrip))
unfolding trip_at trip_in
trip-same Firm verdict grant roottrip firmtrip = refl
trip-same (Root r) verdict grant roottrip firmtrip = refl

and_none : (b : Bool) → (b && false) ≡ false
and_none true = refl
and_none false = refl

module _ (level : Level) (call : Call) where
  -- a call that is none of the three, and an answer that is no verdict, add nothing
  other-says : (a : Answer) → Says (added_to level Uncounted) false false false call a (trip_in level a)
  unfolding no_figures
  other-says a = rw (uncounted-none level) (refl, refl, refl, refl, refl, refl, refl, refl)

  silent-says : (o p q : Bool) (a : Answer) → is_judged a ≡ false → is_free a ≡ false → trip_in level a ≡ false
      → Says (added_to level Uncounted) o p q call a (trip_in level a)
  unfolding no_figures
  silent-says o p q a j f t =
      rw (uncounted-none level, j, f, t, and_none o, and_none p, and_none q) (refl, refl, refl, refl, refl, refl, refl, refl)

  -- an order or a sending
  order-says : (root : ℕ) (a : Answer) → Says (added_to level (ordered_of root a)) (is_at level root) false false call a (trip_in level a)
  unfolding ordered_of added_to is_free is_judged trip_in happening_root figures_of no_figures row.accepted row.rejected row.fills row.contracts row.notional row.cuts row.trips_of row.away
  order-says root (Refused n) = silent-says (is_at level root) false false (Refused n) refl refl refl
  order-says root (Judged verdict grant roottrip firmtrip) = rw (at_same level (Ordered root verdict)) (go (is_at level root))
    where
      a : Answer
      a = Judged verdict grant roottrip firmtrip

      go : (b : Bool) → Says (cond b (figures_of level (Ordered root verdict)) no_figures) b false false call a (trip_in level a)
      go true = (refl, refl, refl, refl, refl, refl, refl, refl)
      go false = (refl, refl, refl, refl, refl, refl, refl, refl)
  order-says root (Left n) = silent-says (is_at level root) false false (Left n) refl refl refl
  order-says root (Standing roots) = silent-says (is_at level root) false false (Standing roots) refl refl refl

  -- a report
  report-says : (root : ℕ) (a : Answer) → Says (added_to level (reported_of root a)) false false (is_at level root) call a (trip_in level a)
  unfolding reported_of added_to is_free is_judged trip_in happening_root figures_of no_figures row.accepted row.rejected row.fills row.contracts row.notional row.cuts row.trips_of row.away
  report-says root (Refused n) = silent-says false false (is_at level root) (Refused n) refl refl refl
  report-says root (Judged verdict grant roottrip firmtrip) = rw (at_same level (Reported root roottrip firmtrip)) (go (is_at level root))
    where
      a : Answer
      a = Judged verdict grant roottrip firmtrip

      go : (b : Bool) → Says (cond b (figures_of level (Reported root roottrip firmtrip)) no_figures) false false b call a (trip_in level a)
      go true = (refl, refl, refl, refl, refl, refl, trip-same level verdict grant roottrip firmtrip, refl)
      go false = (refl, refl, refl, refl, refl, refl, refl, refl)
  report-says root (Left n) = silent-says false false (is_at level root) (Left n) refl refl refl
  report-says root (Standing roots) = silent-says false false (is_at level root) (Standing roots) refl refl refl

-- an offer, which counts at verdict 0 alone
offer-says : (level : Level) (o : Offer) (a : Answer) → Says (added_to level (offered_of o a)) false (is_at level o.root) false (offer o) a (trip_in level a)
unfolding offered_of added_to is_free is_judged grant_said premium_in contracts_in trip_in happening_root figures_of no_figures row.accepted row.rejected row.fills row.contracts row.notional row.cuts row.trips_of row.away
offer-says level o (Refused n) = silent-says level (offer o) false (is_at level o.root) false (Refused n) refl refl refl
offer-says level o (Judged zero grant roottrip firmtrip) = rw (at_same level h) (go (is_at level o.root))
  where
    h : Happening
    h = Offered o.root o.premium o.contracts grant roottrip firmtrip

    a : Answer
    a = Judged 0 grant roottrip firmtrip

    go : (b : Bool) → Says (cond b (figures_of level h) no_figures) false b false (offer o) a (trip_in level a)
    go true = (refl, refl, refl, refl, refl, refl, trip-same level 0 grant roottrip firmtrip, refl)
    go false = (refl, refl, refl, refl, refl, refl, refl, refl)
offer-says level o (Judged (suc verdict) grant roottrip firmtrip) =
    rw (uncounted-none level, ne_eqb (suc verdict) 0 (λ z. omega arith), and_none (is_at level o.root))
    (refl, refl, refl, refl, refl, refl, refl, refl)
offer-says level o (Left n) = silent-says level (offer o) false (is_at level o.root) false (Left n) refl refl refl
offer-says level o (Standing roots) = silent-says level (offer o) false (is_at level o.root) false (Standing roots) refl refl refl

event-says : (level : Level) (sent_root : ℕ → ℕ) (call : Call) (a : Answer)
    → Says (added_to level (happening_of sent_root call a)) (is_order level call) (is_offer level call) (is_report level sent_root call) call a (trip_in level a)
unfolding happening_of is_order is_offer is_report
event-says level sent_root (order time root reset) a = order-says level (order time root reset) root a
event-says level sent_root (lockout time which root) a = other-says level (lockout time which root) a
event-says level sent_root (offer o) a = offer-says level o a
event-says level sent_root (remaining time rule unit) a = other-says level (remaining time rule unit) a
event-says level sent_root status a = other-says level status a
event-says level sent_root (send o identity asked) a = order-says level (send o identity asked) o.root a
event-says level sent_root (report time identity n) a = report-says level (report time identity n) (sent_root identity) a
event-says level sent_root (close time identity) a = other-says level (close time identity) a

-- THE FIGURES IN WORDS, of any calls and answers
pub said : (register : List Sent) (history : List Event) (level : Level) → FiguresSaid register history level
unfolding figures_in tally no_figures plus
said register [] level = record {
  accepted = refl;
  rejected = refl;
  fills = refl;
  contracts = refl;
  notional = refl;
  cuts = refl;
  trips = refl;
  away = refl;
}
said register (event ∷ earlier) level =
    let before = said register earlier level in
    let now = event-says level (root_sent register earlier) event.call event.answer in
    record {
      accepted = ap₂ ◌+◌ before.accepted now.0;
      rejected = ap₂ ◌+◌ before.rejected now.1;
      fills = ap₂ ◌+◌ before.fills now.2;
      contracts = ap₂ ◌+◌ before.contracts now.3;
      notional = ap₂ ◌+◌ before.notional now.4;
      cuts = ap₂ ◌+◌ before.cuts now.5;
      trips = ap₂ ◌+◌ before.trips now.6;
      away = ap₂ ◌+◌ before.away now.7;
    }
