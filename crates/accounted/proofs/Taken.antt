-- A plain call that is not refused: the machine takes it, and what it is to an account is of one of its roots, and priced. Assumes nothing.
use Prim.Native.Nat.{ℕ, zero, suc, ◌≤◌, ◌<◌}
use mathlib.Core.Path.{◌≡◌, refl, sym, ap, ◌∙◌, subst}
use mathlib.Core.Bool.{Bool, true, false, cond, ◌||◌}
use mathlib.Core.List.{List, [], ◌∷◌, map}
use native.Mathlib.Omega.{arith}
use lib.ListN.{length}
use lib.Dec.{eqb}
use borrow.Author.Tests.{ne_eqb, le-ltb}
use Rattle.laws.specs.Folds.{any_of}
use Rattle.measures.specs.Ranges.{premiums, offers}
use Rattle.machine.specs.declared.Offer.{Offer}
use Rattle.machine.specs.declared.Sent.{Sent}
use Rattle.machine.specs.Answer.{Answer, Refused, Judged, Left, Standing}
use Rattle.machine.specs.Calls.{Call, order, lockout, offer, remaining, status, send, report, close}
use Rattle.machine.specs.State.{State, roots_in}
use Rattle.machine.specs.Locks.{verdict_of}
use Rattle.machine.specs.Offers.{grant_of}
use Rattle.machine.specs.Register.{has_identity, is_open, no_sent, sent_at, used_up, is_sent, register_by, register_after}
use Rattle.machine.specs.Refusals.{refusal_of}
use Rattle.machine.specs.Step.{after, part_after}
use Rattle.machine.specs.Judge.{log_places, filled, offered, judged, unless, judge, step_in, step, is_refusal}
use Rattle.machine.proofs.Refusals.{orderable, accepted, sendable, reportable}
use Rattle.machine.proofs.Grants.{grant-le}
use Rattle.machine.proofs.Register.{sent-in, open-has}
use Rattle.state.specs.State.{decode, stored}
use Rattle.register.specs.Register.{register_in, place_of_identity, sent_at_place}
use Rattle.state.specs.Inner.Laid.{Laid}
use Rattle.state.specs.Inner.Tests.{register_part}
use Rattle.state.proofs.Laid.{laid-sent}
use Rattle.state.proofs.Exactly.{sound-decode}
use Rattle.calls.specs.Calls.{memory_refusal, call_answer, call_memory}
use Rattle.calls.proofs.Armed.{sound-memory}
use Rattle.calls.proofs.AwayTests.{found-open, found-sent}
use Rattle.calls.proofs.Steps.{done, laid, acts, after-decoded}
use Rattle.figures.specs.declared.Happening.{Happening}
use Rattle.figures.specs.declared.Happening.TheVariants.{Uncounted, Ordered, Offered, Reported}
use Rattle.figures.specs.Happenings.{ordered_of, offered_of, reported_of, happening_of}
use Rattle.figures.specs.Figures.{happening_root}
use Rattle.figures.specs.Inner.Rows.{PricedHappening}
use Rattle.accounted.specs.Accounted.{open_root, happening_in}

-- neither the memory nor the machine refuses it
pub record Taken (xs : List ℕ) (call : Call) : Type 0 where
  pub ready : memory_refusal xs ≡ 0
  pub free : refusal_of log_places (decode xs) call ≡ 0
  pub answer : (judged (decode xs) call).answer ≡ call_answer xs call
  pub memory : stored (done xs call) xs ≡ call_memory xs call

pub taken : (xs : List ℕ) (call : Call) → is_refusal (call_answer xs call) ≡ false → Taken xs call
unfolding call_answer is_refusal step step_in judge unless
taken xs call h = go (memory_refusal xs) refl h
  where
    inside : memory_refusal xs ≡ 0 → (n : ℕ) → refusal_of log_places (decode xs) call ≡ n → is_refusal (unless n (judged (decode xs) call)).answer ≡ false → Taken xs call
    inside e zero f h =
        let d = acts xs e call f h in
        record { ready = e; free = f; answer = d.0; memory = d.1 }
    inside e (suc n) f h = let z : ◌≡◌ {A = Bool} true false = h in absurd (let w : ◌≡◌ {A = ℕ} 0 1 = cc in omega arith)

    go : (k : ℕ) → memory_refusal xs ≡ k
        → is_refusal (cond (eqb k 0) (unless (refusal_of log_places (decode xs) call) (judged (decode xs) call)).answer (Refused k)) ≡ false → Taken xs call
    go zero e h = inside e (refusal_of log_places (decode xs) call) refl h
    go (suc k) e h = let z : ◌≡◌ {A = Bool} true false = rw (ne_eqb (suc k) 0 (λ z. omega arith)) at h in absurd (let w : ◌≡◌ {A = ℕ} 0 1 = cc in omega arith)

-- an event that an account may count
abbrev pub Fit : Happening → Type 0
Fit h = (happening_root h < 64) × PricedHappening h

ordered-fit : (root : ℕ) → root < 64 → (answer : Answer) → Fit (ordered_of root answer)
unfolding ordered_of happening_root
ordered-fit root low (Refused n) = (omega arith, tt)
ordered-fit root low (Judged verdict grant roottrip firmtrip) = (low, tt)
ordered-fit root low (Left n) = (omega arith, tt)
ordered-fit root low (Standing roots) = (omega arith, tt)

reported-fit : (root : ℕ) → root < 64 → (answer : Answer) → Fit (reported_of root answer)
unfolding reported_of happening_root
reported-fit root low (Refused n) = (omega arith, tt)
reported-fit root low (Judged verdict grant roottrip firmtrip) = (low, tt)
reported-fit root low (Left n) = (omega arith, tt)
reported-fit root low (Standing roots) = (omega arith, tt)

offered-fit : (s : State) (o : Offer) → o.root < 64 → o.premium ≤ premiums.most → o.contracts ≤ offers.most → (verdict : ℕ)
    → Fit (offered_of o (offered s o verdict).answer)
unfolding offered_of happening_root offered filled
offered-fit s o low premium few zero = (low, (premium, omega (arith, grant-le s.log o s.part.accounts)))
offered-fit s o low premium few (suc v) = (omega arith, tt)

uncounted-fit : Fit Uncounted
unfolding happening_root
uncounted-fit = (omega arith, tt)

-- the root of an order that is open away is below 64
open-low : (xs : List ℕ) (identity : ℕ) → memory_refusal xs ≡ 0 → is_open (decode xs).part.register identity ≡ true → open_root xs identity < 64
unfolding open_root
open-low xs identity ready is =
    let orders = (decode xs).part.register in
    let sound = sound-decode xs (sound-memory xs ready) in
    let order = sent-in (roots_in (decode xs)) (sent_at orders identity) (open-has (is_sent (roots_in (decode xs))) orders identity sound.registered is) in
    omega (arith, order.root, (laid xs ready).fits.roots)

pub call-fit : (xs : List ℕ) (call : Call) → Taken xs call → Fit (happening_in xs call)
unfolding happening_in happening_of roots_in judged
call-fit xs (order time root reset) t =
    let o = orderable log_places (decode xs) time root reset t.free in
    ordered-fit root (omega (arith, o.1, (laid xs t.ready).fits.roots)) (call_answer xs (order time root reset))
call-fit xs (lockout time level root) t = uncounted-fit
call-fit xs (offer o) t =
    let a = accepted log_places (decode xs) o t.free in
    subst (λ (answer : Answer). Fit (offered_of o answer)) t.answer
    (offered-fit (decode xs) o (omega (arith, a.root, (laid xs t.ready).fits.roots)) a.premium.1 a.contracts.1
    (verdict_of (decode xs).part.locks o.root))
call-fit xs (remaining time rule unit) t = uncounted-fit
call-fit xs status t = uncounted-fit
call-fit xs (send o identity reports) t =
    let a = sendable log_places (decode xs) o identity reports t.free in
    ordered-fit o.root (omega (arith, a.root, (laid xs t.ready).fits.roots)) (call_answer xs (send o identity reports))
call-fit xs (report time identity n) t =
    let r = reportable log_places (decode xs) time identity n t.free in
    reported-fit (open_root xs identity) (open-low xs identity t.ready r.opened) (call_answer xs (report time identity n))
call-fit xs (close time identity) t = uncounted-fit

-- a report leaves the root of its order
root-used : (identity n : ℕ) (register : List Sent) → (sent_at (map (used_up identity n) register) identity).root ≡ (sent_at register identity).root
unfolding sent_at used_up has_identity
root-used identity n [] = refl
root-used identity n (sent ∷ rest) = go (eqb sent.identity identity) (root-used identity n rest)
  where
    go : (b : Bool) → (sent_at (map (used_up identity n) rest) identity).root ≡ (sent_at rest identity).root
        → (cond b (used_up identity n sent) (sent_at (map (used_up identity n) rest) identity)).root ≡ (cond b sent (sent_at rest identity)).root
    go true e = refl
    go false e = e

report-root : (xs : List ℕ) (time identity n : ℕ) → Taken xs (report time identity n) → open_root (call_memory xs (report time identity n)) identity ≡ open_root xs identity
unfolding open_root judged filled after part_after register_after register_by
report-root xs time identity n t =
    let call = report time identity n in
    ap (λ (ys : List ℕ). open_root ys identity) (sym t.memory)
    ∙ ap (λ (s : State). (sent_at s.part.register identity).root) (after-decoded xs t.ready call t.free)
    ∙ root-used identity n (decode xs).part.register

-- the memory that the call leaves tells what the call was
pub happening-after : (xs : List ℕ) (call : Call) → Taken xs call → happening_of (open_root (call_memory xs call)) call (call_answer xs call) ≡ happening_in xs call
unfolding happening_in happening_of
happening-after xs (order time root reset) t = refl
happening-after xs (lockout time level root) t = refl
happening-after xs (offer o) t = refl
happening-after xs (remaining time rule unit) t = refl
happening-after xs status t = refl
happening-after xs (send o identity reports) t = refl
happening-after xs (report time identity n) t =
    ap (λ (root : ℕ). reported_of root (call_answer xs (report time identity n))) (report-root xs time identity n t)
happening-after xs (close time identity) t = refl

-- an offer by its verdict
module _ (o : Offer) (verdict grant : ℕ) (roottrip firmtrip : Bool) where
  pub offered-locked : (verdict ≡ 0 → ⊥) → Uncounted ≡ offered_of o (Judged verdict grant roottrip firmtrip)
  unfolding offered_of
  offered-locked h = go verdict h
    where
      go : (v : ℕ) → (v ≡ 0 → ⊥) → Uncounted ≡ offered_of o (Judged v grant roottrip firmtrip)
      go zero h = absurd (h refl)
      go (suc v) h = refl

  pub offered-free : verdict ≡ 0 → Offered o.root o.premium o.contracts grant roottrip firmtrip ≡ offered_of o (Judged verdict grant roottrip firmtrip)
  unfolding offered_of
  offered-free e = rw e

-- the root of an order, as the code finds it
unopened : (register : List Sent) (identity : ℕ) → is_open register identity ≡ false → 0 ≡ (sent_at register identity).root
unfolding is_open any_of sent_at no_sent
unopened [] identity h = refl
unopened (sent ∷ rest) identity h = go (has_identity identity sent) h (unopened rest identity)
  where
    go : (b : Bool) → (b || any_of (has_identity identity) rest) ≡ false → (any_of (has_identity identity) rest ≡ false → 0 ≡ (sent_at rest identity).root)
        → 0 ≡ (cond b sent (sent_at rest identity)).root
    go true h f = absurd (let w : ◌≡◌ {A = ℕ} 0 1 = cc in omega arith)
    go false h f = f h

module _ (xs : List ℕ) (h : Laid xs) (identity : ℕ) {i k : ℕ} (at : i ≡ place_of_identity (register_in (register_part xs)) identity)
    (many : k ≡ length (decode xs).part.register) where
  pub no-root : k ≤ i → 0 ≡ open_root xs identity
  unfolding open_root
  no-root l = unopened (decode xs).part.register identity (sym (found-open xs h identity at many) ∙ le-ltb i k l)

  pub found-root : {sent : Sent} → sent ≡ sent_at_place (register_in (register_part xs)) i → sent.root ≡ open_root xs identity
  unfolding open_root
  found-root e = ap (λ (s : Sent). s.root) (e ∙ ap (λ (l : List Sent). sent_at_place l i) (laid-sent h) ∙ found-sent xs h identity at many)

  pub found-placed : i < k → i < length (register_in (register_part xs))
  found-placed l = subst (λ (l : List Sent). i < length l) (sym (laid-sent h)) (omega (arith, l, many))

-- a refused call counts nowhere
nowhere : (sent_root : ℕ → ℕ) (call : Call) (n : ℕ) → happening_of sent_root call (Refused n) ≡ Uncounted
unfolding happening_of ordered_of offered_of reported_of
nowhere sent_root (order time root reset) n = refl
nowhere sent_root (lockout time level root) n = refl
nowhere sent_root (offer o) n = refl
nowhere sent_root (remaining time rule unit) n = refl
nowhere sent_root status n = refl
nowhere sent_root (send o identity reports) n = refl
nowhere sent_root (report time identity k) n = refl
nowhere sent_root (close time identity) n = refl

pub refused-nowhere : (xs : List ℕ) (call : Call) → is_refusal (call_answer xs call) ≡ true → happening_in xs call ≡ Uncounted
unfolding happening_in is_refusal
refused-nowhere xs call h = go (call_answer xs call) h
  where
    go : (answer : Answer) → is_refusal answer ≡ true → happening_of (open_root xs) call answer ≡ Uncounted
    go (Refused n) h = nowhere (open_root xs) call n
    go (Judged verdict grant roottrip firmtrip) h = absurd (let w : ◌≡◌ {A = ℕ} 0 1 = cc in omega arith)
    go (Left n) h = absurd (let w : ◌≡◌ {A = ℕ} 0 1 = cc in omega arith)
    go (Standing roots) h = absurd (let w : ◌≡◌ {A = ℕ} 0 1 = cc in omega arith)
