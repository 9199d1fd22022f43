-- Orders sent away, their reports and their closing, on lent memory: what they leave where they are not refused. Assumes nothing.
use Prim.Native.Nat.{ℕ, zero, suc, ◌<◌}
use native.Mathlib.Omega.{arith}
use mathlib.Core.Path.{◌≡◌, refl, sym, ap, ◌∙◌, subst}
use mathlib.Core.Bool.{Bool, true, false, not, cond}
use mathlib.Core.List.{List, [], ◌∷◌, ◌++◌}
use lib.ListN.{length}
use borrow.Author.Tests.{ltb-true, eqb-false}
use Rattle.laws.specs.Folds.{keep}
use Rattle.measures.specs.Ranges.{is_in, identities}
use Rattle.machine.specs.State.{State, roots_in}
use Rattle.machine.specs.Calls.{Call, send, report, close}
use Rattle.machine.specs.Judge.{log_places, judged, sent_away, filled, is_refusal}
use Rattle.machine.specs.Locks.{verdict_of}
use Rattle.machine.specs.Deeds.{clock_after}
use Rattle.machine.specs.Step.{after, part_after, accounts_after, locks_after, log_after}
use Rattle.machine.specs.Refusals.{first_of, bad_time, refusal_of}
use Rattle.machine.specs.Register.{has_identity, is_open, sent_at, sent_of, fill_of, register_after, is_sent, are_different}
use Rattle.machine.proofs.Refusals.{Sendable, sendable, Reportable, reportable}
use Rattle.machine.proofs.Sound.{report-placed}
use Rattle.machine.proofs.Register.{SentIn, sent-in, in-sent, open-has}
use Rattle.machine.specs.declared.Offer.{Offer}
use Rattle.machine.specs.declared.Sent.{Sent}
use Rattle.machine.specs.Answer.{Judged}
use Rattle.register.specs.Register.{register_numbers, register_in, place_of_identity, sent_at_place}
use Rattle.register.proofs.Finding.{place-identity}
use Rattle.state.specs.State.{decode, stored}
use Rattle.state.specs.Inner.Laid.{Laid, with_clock, with_register}
use Rattle.state.specs.Inner.Tests.{register_part, put_register}
use Rattle.state.proofs.Laid.{laid-sent}
use Rattle.state.proofs.After.{Holds, held-laid, held-state, step-on, register-after}
use Rattle.state.proofs.Exactly.{sound-decode}
use Rattle.state.specs.Sound.{SoundState}
use Rattle.grant.specs.Inner.Grant.{Returning, Returned}
use Rattle.grant.specs.declared.Levels.{Levels}
use Rattle.calls.specs.Calls.{refusal_in, call_answer, call_memory}
use Rattle.calls.proofs.Armed.{sound-memory}
use Rattle.calls.proofs.Steps.{laid, ready_by, accepted-by, acts, done}
use Rattle.calls.proofs.Offers.{in_order}
use Rattle.calls.proofs.AwayTests.{found_at, found-open, found-sent}

-- the clock is set, and then the register is changed
module _ {xs ys : List ℕ} {time : ℕ} (h : Holds (with_clock (decode xs) time) xs ys) where
  pub register-now : register_in (register_part ys) ≡ (decode xs).part.register
  register-now = laid-sent (held-laid h) ∙ ap (λ (s : State). s.part.register) (held-state h)

  pub register-on : (change : List Sent → List Sent) {zs : List ℕ} → zs ≡ register_numbers (change (register_in (register_part ys)))
      → put_register ys zs ≡ stored (with_register (with_clock (decode xs) time) (change (decode xs).part.register)) xs
  register-on change {zs} e =
      let at = laid-sent (held-laid h) in
      let numbers : zs ≡ register_numbers (change (decode ys).part.register) = e ∙ ap (λ (l : List Sent). register_numbers (change l)) at in
      step-on h (λ (s : State). with_register s (change s.part.register)) (register-after (held-laid h) (change (decode ys).part.register) numbers)

-- a sending that is not refused
module _ (xs : List ℕ) (o : Offer) (identity reports : ℕ) (e : refusal_in xs (send o identity reports) ≡ 0) where
  abbrev sent : Call
  sent = send o identity reports

  pub send-laid : Laid xs
  send-laid = laid xs (ready_by xs sent e)

  asked : Sendable log_places (decode xs) o identity reports
  asked = sendable log_places (decode xs) o identity reports (accepted-by xs sent e)

  pub send-low : o.root < 64
  unfolding roots_in
  send-low = omega (arith, asked.root, send-laid.fits.roots)

  pub send-few : length (decode xs).part.register < 64
  send-few = asked.few

  pub send-valid : is_sent 64 (sent_of o identity reports) ≡ true
  unfolding sent_of
  send-valid = in-sent 64 (sent_of o identity reports) (record {
    identity = asked.known;
    root = send-low;
    unit = asked.unit;
    premium = asked.premium;
    contracts = (omega arith, asked.contracts.1);
    reports = (omega arith, asked.asked.1);
  })

  module _ (v : ℕ) (is : v ≡ verdict_of (decode xs).part.locks o.root) {ys : List ℕ} where
    -- at verdict 0 the order is registered, else the clock alone moves
    pub send-enters : v ≡ 0 → ys ≡ stored (with_register (with_clock (decode xs) o.time) ((decode xs).part.register ++ (sent_of o identity reports ∷ []))) xs
        → (Judged v 0 false false ≡ call_answer xs sent) × (ys ≡ call_memory xs sent)
    unfolding judged sent_away is_refusal after part_after clock_after accounts_after locks_after log_after register_after
    send-enters z m =
        let free = sym is ∙ z in
        let d = acts xs (ready_by xs sent e) sent (accepted-by xs sent e) (rw free) in
        (rw z (rw free at d.0), m ∙ (rw free at d.1))

    pub send-passes : (v ≡ 0 → ⊥) → ys ≡ stored (with_clock (decode xs) o.time) xs → (Judged v 0 false false ≡ call_answer xs sent) × (ys ≡ call_memory xs sent)
    unfolding judged sent_away is_refusal after part_after clock_after accounts_after locks_after log_after register_after
    send-passes z m = go v is z (acts xs (ready_by xs sent e) sent (accepted-by xs sent e))
      where
        go : (v : ℕ) → v ≡ verdict_of (decode xs).part.locks o.root → (v ≡ 0 → ⊥)
            → (is_refusal (judged (decode xs) sent).answer ≡ false
            → ((judged (decode xs) sent).answer ≡ call_answer xs sent) × (stored (done xs sent) xs ≡ call_memory xs sent))
            → (Judged v 0 false false ≡ call_answer xs sent) × (ys ≡ call_memory xs sent)
        go zero e z d = absurd (z refl)
        go (suc v) e z d = let f = rw (← e) at d in ((f refl).0, m ∙ (f refl).1)

-- a closing that is not refused
module _ (xs : List ℕ) (time identity : ℕ) (e : refusal_in xs (close time identity) ≡ 0) where
  pub close-laid : Laid xs
  close-laid = laid xs (ready_by xs (close time identity) e)

  pub close_open : is_open (decode xs).part.register identity ≡ true
  unfolding refusal_of first_of
  close_open = go (bad_time (decode xs).part time) (is_in identities identity) (is_open (decode xs).part.register identity) (accepted-by xs (close time identity) e)
    where
      go : (a b c : Bool) → ◌≡◌ {A = ℕ} (cond a 12 (cond (not b) 13 (cond (not c) 18 0))) 0 → c ≡ true
      go true b c e = absurd (omega arith)
      go false false c e = absurd (omega arith)
      go false true false e = absurd (omega arith)
      go false true true e = refl

  pub close-different : are_different (decode xs).part.register ≡ true
  close-different = (sound-decode xs (sound-memory xs (ready_by xs (close time identity) e))).different

  module _ {i : ℕ} (at : i ≡ place_of_identity (register_in (register_part xs)) identity) where
    pub close_at : i < length (decode xs).part.register
    close_at = ltb-true i (length (decode xs).part.register) (found-open xs close-laid identity at refl ∙ close_open)

    pub close-identity : (sent_at_place (decode xs).part.register i).identity ≡ identity
    close-identity = rw (found_at xs close-laid identity at refl) (place-identity identity (decode xs).part.register close_open)

  -- the register without the order that was found
  pub close-leaves : {ys zs : List ℕ} {i : ℕ} → Holds (with_clock (decode xs) time) xs ys → i ≡ place_of_identity (register_in (register_part xs)) identity
      → zs ≡ register_numbers (keep (λ sent. not (has_identity (sent_at_place (register_in (register_part ys)) i).identity sent)) (register_in (register_part ys)))
      → put_register ys zs ≡ stored (with_register (with_clock (decode xs) time) (keep (λ sent. not (has_identity identity sent)) (decode xs).part.register)) xs
  close-leaves {ys} {zs} {i} h at z =
      let own : (sent_at_place (register_in (register_part ys)) i).identity ≡ identity = ap (λ (l : List Sent). (sent_at_place l i).identity) (register-now h) ∙ close-identity at in
      register-on h (keep (λ sent. not (has_identity identity sent)))
      (z ∙ ap (λ (n : ℕ). register_numbers (keep (λ sent. not (has_identity n sent)) (register_in (register_part ys)))) own)

  pub close-done : {ys : List ℕ} → ys ≡ stored (with_register (with_clock (decode xs) time) (keep (λ sent. not (has_identity identity sent)) (decode xs).part.register)) xs
      → (Judged 0 0 false false ≡ call_answer xs (close time identity)) × (ys ≡ call_memory xs (close time identity))
  unfolding judged is_refusal after part_after clock_after accounts_after locks_after log_after register_after
  close-done m = let d = acts xs (ready_by xs (close time identity) e) (close time identity) (accepted-by xs (close time identity) e) refl in (d.0, m ∙ d.1)

-- a report that is not refused
module _ (xs : List ℕ) (time identity n : ℕ) (e : refusal_in xs (report time identity n) ≡ 0) where
  abbrev back : Call
  back = report time identity n

  abbrev orders : List Sent
  orders = (decode xs).part.register

  sound : SoundState (decode xs)
  sound = sound-decode xs (sound-memory xs (ready_by xs back e))

  pub report-laid : Laid xs
  report-laid = laid xs (ready_by xs back e)

  met : Reportable (decode xs) time identity n
  met = reportable log_places (decode xs) time identity n (accepted-by xs back e)

  order : SentIn (roots_in (decode xs)) (sent_at orders identity)
  order = sent-in (roots_in (decode xs)) (sent_at orders identity) (open-has (is_sent (roots_in (decode xs))) orders identity sound.registered met.opened)

  module _ {i : ℕ} (at : i ≡ place_of_identity (register_in (register_part xs)) identity) where
    its : sent_at_place orders i ≡ sent_at orders identity
    its = found-sent xs report-laid identity at refl

    pub report-at : i < length orders
    report-at = ltb-true i (length orders) (found-open xs report-laid identity at refl ∙ met.opened)

    identity-is : (sent_at_place orders i).identity ≡ identity
    identity-is = rw (found_at xs report-laid identity at refl) (place-identity identity orders met.opened)

    ready : Returning xs (fill_of orders time identity n) i
    unfolding fill_of roots_in
    ready = record {
      asked = record {
        laid = report-laid;
        root = order.root;
        unit = order.unit;
        premium = order.premium;
        contracts = met.contracts;
        time = met.time.range;
        ordered = in_order xs (ready_by xs back e) time met.time.after;
      };
      totals = sound.totals;
      different = sound.different;
      placed = report-at;
      within = rw its met.enough;
      allowed = rw its (omega (arith, eqb-false (sent_at orders identity).reports 0 met.left));
      room = λ has pos. report-placed log_places (decode xs) time identity n sound (accepted-by xs back e) has;
    }

    -- the fill, as the code puts it together of the order that it reads
    module _ {sent : Sent} (read : sent ≡ sent_at_place (register_in (register_part xs)) i) where
      abbrev fill : Offer
      fill = record { time = time; root = sent.root; unit = sent.unit; premium = sent.premium.0; contracts = n }

      same : fill ≡ fill_of orders time identity n
      unfolding fill_of
      same =
          ap (λ (s : Sent). record { time = time; root = s.root; unit = s.unit; premium = s.premium.0; contracts = n })
          (read ∙ ap (λ (l : List Sent). sent_at_place l i) (laid-sent report-laid) ∙ its)

      pub report-ready : Returning xs fill i
      report-ready = subst (λ (o : Offer). Returning xs o i) (sym same) ready

      pub report-done : {ys : List ℕ} {trips : Levels Bool} → Returned xs fill (sent_at_place orders i).identity ys trips
          → (Judged 0 n trips.root trips.firm ≡ call_answer xs back) × (ys ≡ call_memory xs back)
      unfolding judged filled is_refusal fill_of
      report-done {ys} {trips} r =
          let f : Returned xs (fill_of orders time identity n) identity ys trips = subst (λ (o : Offer). Returned xs o identity ys trips) same (subst (λ (k : ℕ). Returned xs fill k ys trips) identity-is r) in
          let d = acts xs (ready_by xs back e) back (accepted-by xs back e) refl in
          (rw (f.root, f.firm) d.0, f.memory ∙ d.1)
