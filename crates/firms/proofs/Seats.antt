-- Seats that are alike: what is done for the firm in one is answered as in the other. Assumes nothing.
use Prim.Native.Nat.{ℕ, zero, suc, ◌≤◌}
use mathlib.Core.Path.{◌≡◌, refl, sym, ap, ap₂, ◌∙◌, subst}
use mathlib.Core.Bool.{Bool, true, false, not, cond, ◌&&◌}
use mathlib.Core.List.{List, [], map, map-map, map-id}
use Prim.Native.Nat.{zero-le}
use lib.ListN.{length}
use native.Mathlib.Nat.{le_refl}
use Rattle.laws.specs.Folds.{every}
use Rattle.machine.specs.State.{Profile, State, rules_in, roots_in, cells_of, account_rule, Fitting, fresh, armed}
use Rattle.machine.specs.Offers.{longest}
use Rattle.machine.specs.Calls.{Call}
use Rattle.machine.specs.Register.{are_different}
use Rattle.machine.specs.Refusals.{first_of}
use Rattle.machine.specs.Step.{after}
use Rattle.machine.specs.Judge.{Judgement, judge}
use Rattle.firms.specs.Seats.{Seat, empty, taken, Seats, turned, facing, seat_of, trimmed, trimmed_seat, left_by}
use Rattle.firms.specs.Doings.{Doing, arm, call, clear, Reply, refused, done, answered, is_taken, Beside, beside_of, joins, Outcome, stays, arm_refusal, armed_by, called_by, call_at, clear_at, at_seat, after_first, outcome_of, reply_to, after_doing}
use Rattle.firms.specs.Runs.{is_same}
use Rattle.firms.proofs.Alike.{recent-recent, Proper, proper-kept, Alike, Together, alike-step}

-- ---- the two sides

-- the state seen twice from one side is the state
pub facing-twice : (firm : Bool) (u : Seats) → facing firm (facing firm u) ≡ u
unfolding facing turned
facing-twice false u = refl
facing-twice true u = refl

pub own-seat : (firm : Bool) (u : Seats) → (facing firm u).first ≡ seat_of firm u
unfolding facing turned seat_of
own-seat false u = refl
own-seat true u = refl

pub own-after : (firm : Bool) (u : Seats) → seat_of firm (facing firm u) ≡ u.first
unfolding facing turned seat_of
own-after false u = refl
own-after true u = refl

pub other-seat : (firm other : Bool) → is_same firm other ≡ false → (u : Seats) → (facing other u).second ≡ seat_of firm u
unfolding facing turned seat_of is_same
other-seat true true e u = absurd (true-not e)
  where
    true-not : true ≡ false → ⊥
    true-not e = subst (λ (b : Bool). cond b Unit ⊥) e tt
other-seat true false e u = refl
other-seat false true e u = refl
other-seat false false e u = absurd (true-not e)
  where
    true-not : true ≡ false → ⊥
    true-not e = subst (λ (b : Bool). cond b Unit ⊥) e tt

pub other_after : (firm other : Bool) → is_same firm other ≡ false → (u : Seats) → seat_of firm (facing other u) ≡ u.second
unfolding facing turned seat_of is_same
other_after firm other e u = sym (other-seat firm other e (facing other u)) ∙ ap (λ (v : Seats). v.second) (facing-twice other u)

pub same-firm : (a b : Bool) → is_same a b ≡ true → b ≡ a
unfolding is_same
same-firm true true e = refl
same-firm true false e = e
same-firm false true e = sym e
same-firm false false e = refl

-- what is done for a firm is answered by its own seat and the other, and leaves this of its seat
pub own-reply : (firm : Bool) (u : Seats) (doing : Doing) → reply_to firm u doing ≡ (at_seat (beside_of (facing firm u).second) (seat_of firm u) doing).reply
unfolding outcome_of
own-reply firm u doing = ap (λ (x : Seat). (at_seat (beside_of (facing firm u).second) x doing).reply) (own-seat firm u)

pub own-left : (firm : Bool) (u : Seats) (doing : Doing)
    → seat_of firm (after_doing firm u doing) ≡ (at_seat (beside_of (facing firm u).second) (seat_of firm u) doing).seat
unfolding outcome_of after_first
own-left firm u doing =
    own-after firm (after_first (facing firm u) doing) ∙ ap (λ (x : Seat). (at_seat (beside_of (facing firm u).second) x doing).seat) (own-seat firm u)

-- what is done for the other leaves a firm's seat, without old entries if one joined the log
pub other-left : (firm other : Bool) → is_same firm other ≡ false → (u : Seats) (doing : Doing)
    → seat_of firm (after_doing other u doing) ≡ left_by (outcome_of (facing other u) doing).joined (seat_of firm u)
unfolding after_first
other-left firm other e u doing =
    other_after firm other e (after_first (facing other u) doing) ∙ ap (left_by (outcome_of (facing other u) doing).joined) (other-seat firm other e u)

-- ---- seats that are alike

unfoldable pub AlikeSeat : Seat → Seat → Type 0
AlikeSeat empty empty = Unit {0}
AlikeSeat empty (taken s) = ⊥
AlikeSeat (taken s) empty = ⊥
AlikeSeat (taken s) (taken s') = Alike s s'

pub armed-proper : (p : Profile) → Proper (armed p)
unfolding armed Fitting fresh roots_in every are_different
armed-proper p = record {
  fitting = map-map account_rule fresh (cells_of p.rules) ∙ map-id (cells_of p.rules);
  registered = record { few = zero-le; registered = refl; different = refl };
}

pub alike_self : (s : State) → Proper s → Alike s s
alike_self s p = record { proper = p; part = refl; logs = λ t le. refl }

-- old entries leave
pub trim-alike : (joined : Bool) (x y : Seat) → AlikeSeat x y → AlikeSeat (left_by joined x) y
unfolding AlikeSeat trimmed_seat trimmed rules_in roots_in
trim-alike true empty empty a = a
trim-alike true empty (taken s) a = a
trim-alike true (taken s) empty a = a
trim-alike true (taken s) (taken s') a = record {
  proper = record { fitting = a.proper.fitting; registered = a.proper.registered };
  part = a.part;
  logs = λ t le. a.logs t le ∙ sym (recent-recent (longest (rules_in s)) s.part.clock t le s.log);
}
trim-alike false x y a = a

-- what is done for the firm in either is answered the same, and leaves seats that are alike
pub record Same (x y : Outcome) : Type 0 where
  pub reply : y.reply ≡ x.reply
  pub seat : AlikeSeat x.seat y.seat

stays_same : (reply : Reply) (x y : Seat) → AlikeSeat x y → Same (stays reply x) (stays reply y)
unfolding stays
stays_same reply x y a = record { reply = refl; seat = a }

armed-same : (n : ℕ) (p : Profile) → Same (armed_by n empty p) (armed_by n empty p)
unfolding armed_by stays AlikeSeat
armed-same zero p = record { reply = refl; seat = alike_self (armed p) (armed-proper p) }
armed-same (suc n) p = record { reply = refl; seat = tt }

pub at_same : (beside : Beside) (x y : Seat) → AlikeSeat x y → (doing : Doing) → Same (at_seat beside x doing) (at_seat beside y doing)
unfolding at_seat call_at called_by clear_at arm_refusal armed_by is_taken first_of AlikeSeat stays
at_same beside empty empty a (arm p) = armed-same (arm_refusal beside empty p) p
at_same beside empty empty a (call c) = record { reply = refl; seat = tt }
at_same beside empty empty a clear = cleared beside.armed
  where
    cleared : (b : Bool) → Same (clear_at b empty) (clear_at b empty)
    cleared true = record { reply = refl; seat = tt }
    cleared false = record { reply = refl; seat = tt }
at_same beside empty (taken s) a doing = absurd a
at_same beside (taken s) empty a doing = absurd a
at_same beside (taken s) (taken s') a (arm p) = record { reply = refl; seat = a }
at_same beside (taken s) (taken s') a (call c) =
    let t = alike-step a beside.room c in
    record {
      reply = ap (λ (j : Judgement). answered j.answer) t.judgement;
      seat = subst (λ (j : Judgement). Alike (after (judge beside.room s c).deed s) (after j.deed s')) (sym t.judgement) t.left;
    }
at_same beside (taken s) (taken s') a clear = record { reply = refl; seat = tt }
