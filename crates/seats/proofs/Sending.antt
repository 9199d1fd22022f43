-- Orders sent away and their reports on a firm's own seat. Assumes nothing.
use Prim.Native.Nat.{ℕ, zero, suc, ◌+◌, ◌-◌, ◌≤◌, ◌<◌}
use native.Mathlib.Omega.{arith}
use native.Mathlib.Nat.{suc-ne-zero}
use mathlib.Core.Path.{◌≡◌, refl, sym, ap, ap₂, ◌∙◌}
use mathlib.Core.Bool.{Bool, true, false, not, cond, ◌&&◌, and_assoc}
use mathlib.Core.List.{List, [], ◌∷◌}
use lib.ListN.{length}
use lib.Dec.{eqb, leb, ltb}
use borrow.Author.Tests.{eq-eqb, ne_eqb, lt-ltb, le-ltb, ltb-true, ltb-false}
use Rattle.laws.proofs.Tests.{and_l, and_r, and_i}
use Rattle.measures.specs.Ranges.{is_in, units, premiums, offers, identities, reports_asked}
use Rattle.rules.specs.Valid.{has_rate}
use Rattle.machine.specs.Answer.{Answer, Refused}
use Rattle.machine.specs.declared.Offer.{Offer}
use Rattle.machine.specs.State.{State, rules_in, roots_in}
use Rattle.machine.specs.Entries.{are_ordered, recent}
use Rattle.machine.specs.Offers.{longest}
use Rattle.machine.specs.Calls.{Call, send, report}
use Rattle.machine.specs.Locks.{verdict_of}
use Rattle.machine.specs.Register.{register_places, is_open, kept_places}
use Rattle.machine.specs.Refusals.{first_of, bad_time, is_root, used, no_places, overdrawn, refusal_of}
use Rattle.machine.specs.Judge.{judged, sent_away, filled, log_places}
use Rattle.machine.proofs.Refusals.{Sendable, sendable, Reportable, reportable}
use Rattle.machine.proofs.Windows.{rate-longest}
use Rattle.state.specs.State.{decode, stored}
use Rattle.state.specs.Sound.{is_sound}
use Rattle.state.specs.Inner.Laid.{Laid}
use Rattle.state.proofs.Exactly.{sound-is-laid}
use Rattle.calls.specs.Calls.{memory_refusal, refusal_in, call_answer, call_memory}
use Rattle.calls.proofs.Steps.{accepted-by, acts}
use Rattle.calls.proofs.Offers.{in_order}
use Rattle.firms.specs.Doings.{joins}
use Rattle.firms.proofs.Places.{never-refusal}
use Rattle.seats.specs.Memory.{Done, quiet, Called}
use Rattle.seats.proofs.Granting.{ready_of, refused-done, acts-done}

and-true : (b : Bool) → (b && true) ≡ b
and-true true = refl
and-true false = refl

-- ---- whether a room suffices

module _ (s : State) (time places room : ℕ) where
  abbrev short : Bool
  short = has_rate (rules_in s) && ltb room (used s time + places)

  pub short-small : has_rate (rules_in s) ≡ ltb 0 (longest (rules_in s)) → room < places → {w : ℕ} → w ≡ longest (rules_in s) → ltb 0 w ≡ short
  short-small valid l {w} e =
      ap (ltb 0) e ∙ (sym valid ∙ (sym (and-true (has_rate (rules_in s))) ∙ ap (λ (b : Bool). has_rate (rules_in s) && b) (sym (lt-ltb room (used s time + places) (omega (arith, l))))))

  pub short-is : places ≤ room → (b : Bool) → b ≡ ltb (used s time) (room + 1 - places) → not b ≡ short
  unfolding used
  short-is few b e = ap not e ∙ go (has_rate (rules_in s))
    where
      inside : ℕ
      inside = length (recent (longest (rules_in s)) time s.log) + kept_places s.part.register

      some : (b : Bool) → ltb inside (room + 1 - places) ≡ b → not b ≡ ltb room (inside + places)
      some true e = sym (le-ltb room (inside + places) (omega (arith, few, ltb-true inside (room + 1 - places) e)))
      some false e = sym (lt-ltb room (inside + places) (omega (arith, few, ltb-false inside (room + 1 - places) e)))

      go : (h : Bool) → not (ltb (cond h inside 0) (room + 1 - places)) ≡ (h && ltb room (cond h inside 0 + places))
      go true = some (ltb inside (room + 1 - places)) refl
      go false = ap not (lt-ltb 0 (room + 1 - places) (omega (arith, few)))

-- ---- a sending

module _ (xs : List ℕ) (h : is_sound xs ≡ true) (room : ℕ) (few : room ≤ 512) (o : Offer) (identity reports : ℕ) where
  abbrev s : State
  s = decode xs

  abbrev c : Call
  c = send o identity reports

  -- less room refuses what more room does
  less-room : no_places 512 s o reports ≡ true → no_places room s o reports ≡ true
  unfolding no_places
  less-room e =
      let v = eqb (verdict_of s.part.locks o.root) 0 in
      let r = has_rate (rules_in s) in
      and_i (and_l (v && r) _ e) (lt-ltb room (used s o.time + reports) (omega (arith, few, ltb-true 512 (used s o.time + reports) (and_r (v && r) _ e))))

  pub send-refused : (n : ℕ) → n ≡ refusal_in xs c → (n ≡ 0 → ⊥) → Done room c xs xs (quiet (Refused n))
  unfolding refusal_in refusal_of first_of
  send-refused zero e z = absurd (z refl)
  send-refused (suc n) e z =
      refused-done room c xs (sound-is-laid xs h) n
      (sym (go (bad_time s.part o.time) (not (is_root s.part o.root && is_in units o.unit && is_in identities identity))
      (not (is_in premiums o.premium && is_in offers o.contracts && is_in reports_asked reports)) (leb register_places (length s.part.register))
      (is_open s.part.register identity) (no_places 512 s o reports) (no_places room s o reports) less-room (rw (ready_of xs h) at e)))
    where
      go : (a b p f w q r : Bool) → (q ≡ true → r ≡ true) → suc n ≡ cond a 12 (cond b 13 (cond p 14 (cond f 17 (cond w 18 (cond q 15 0)))))
          → suc n ≡ cond a 12 (cond b 13 (cond p 14 (cond f 17 (cond w 18 (cond r 15 0)))))
      go true b p f w q r m e = e
      go false true p f w q r m e = e
      go false false true f w q r m e = e
      go false false false true w q r m e = e
      go false false false false true q r m e = e
      go false false false false false true r m e = rw (m refl) e
      go false false false false false false r m e = absurd (suc-ne-zero n e)

  module _ (e : refusal_in xs c ≡ 0) where
    none : refusal_of 512 s c ≡ 0
    none = accepted-by xs c e

    pub send-time : are_ordered 0 o.time s.log ≡ true
    send-time = in_order xs (ready_of xs h) o.time (sendable 512 s o identity reports none).time.after

    -- the room decides
    by-room : {b : Bool} → no_places room s o reports ≡ b → refusal_of room s c ≡ cond b 15 0
    unfolding refusal_of first_of
    by-room {b} q =
        go (bad_time s.part o.time) (not (is_root s.part o.root && is_in units o.unit && is_in identities identity))
        (not (is_in premiums o.premium && is_in offers o.contracts && is_in reports_asked reports)) (leb register_places (length s.part.register))
        (is_open s.part.register identity) (no_places 512 s o reports) (no_places room s o reports) q none
      where
        go : (a b' p f w q r : Bool) → r ≡ b → ◌≡◌ {A = ℕ} (cond a 12 (cond b' 13 (cond p 14 (cond f 17 (cond w 18 (cond q 15 0)))))) 0
            → ◌≡◌ {A = ℕ} (cond a 12 (cond b' 13 (cond p 14 (cond f 17 (cond w 18 (cond r 15 0)))))) (cond b 15 0)
        go true b' p f w q r m e = absurd (suc-ne-zero 11 e)
        go false true p f w q r m e = absurd (suc-ne-zero 12 e)
        go false false true f w q r m e = absurd (suc-ne-zero 13 e)
        go false false false true w q r m e = absurd (suc-ne-zero 16 e)
        go false false false false true q r m e = absurd (suc-ne-zero 17 e)
        go false false false false false q r m e = ap (λ (d : Bool). cond d 15 0) m

    module _ {v : ℕ} (verdict : v ≡ verdict_of s.part.locks o.root) {b : Bool} (lack : b ≡ (has_rate (rules_in s) && ltb room (used s o.time + reports))) where
      lacks-is : {d : Bool} → (eqb v 0 && b) ≡ d → no_places room s o reports ≡ d
      unfolding no_places
      lacks-is q =
          and_assoc (eqb (verdict_of s.part.locks o.root) 0) (has_rate (rules_in s)) (ltb room (used s o.time + reports))
          ∙ (ap₂ (λ (n : ℕ) (x : Bool). eqb n 0 && x) (sym verdict) (sym lack) ∙ q)

      pub send-lacks : (eqb v 0 && b) ≡ true → Done room c xs xs (quiet (Refused 15))
      send-lacks q = refused-done room c xs (sound-is-laid xs h) 14 (by-room (lacks-is q))

      pub send-done : (eqb v 0 && b) ≡ false → {a : Answer} {ys : List ℕ} → a ≡ call_answer xs c → ys ≡ call_memory xs c → Done room c xs ys (quiet a)
      unfolding judged sent_away joins
      send-done q {a} {ys} p m =
          let d = acts xs (ready_of xs h) c none (never-refusal s c) in
          acts-done room c xs (sound-is-laid xs h) (by-room (lacks-is q)) (quiet a) ys (p ∙ sym d.0) (go (verdict_of s.part.locks o.root)) (m ∙ sym d.1)
        where
          go : (v : ℕ) → false ≡ joins (rules_in s) (sent_away o identity reports v).deed
          go zero = refl
          go (suc v) = refl

-- ---- a report

module _ (xs : List ℕ) (h : is_sound xs ≡ true) (time identity n : ℕ) where
  pub report-refused : (k : ℕ) → k ≡ refusal_in xs (report time identity n) → (k ≡ 0 → ⊥) → (room : ℕ) → Done room (report time identity n) xs xs (quiet (Refused k))
  unfolding refusal_in refusal_of
  report-refused zero e z room = absurd (z refl)
  report-refused (suc k) e z room = refused-done room (report time identity n) xs (sound-is-laid xs h) k (sym (rw (ready_of xs h) at e))

  pub report-done : refusal_in xs (report time identity n) ≡ 0 → {w : ℕ} → w ≡ longest (rules_in (decode xs)) → {a : Answer} {ys : List ℕ}
      → a ≡ call_answer xs (report time identity n) → ys ≡ call_memory xs (report time identity n) → (room : ℕ)
      → Done room (report time identity n) xs ys (record { answer = a; joined = ltb 0 w })
  unfolding judged filled joins refusal_of
  report-done e {w} window {a} {ys} p m room =
      let s = decode xs in
      let back : Call = report time identity n in
      let laid = sound-is-laid xs h in
      let none = accepted-by xs back e in
      let some = (reportable 512 s time identity n none).contracts in
      let d = acts xs (ready_of xs h) back none (never-refusal s back) in
      let rated : ltb 0 w ≡ (has_rate (rules_in s) && ltb 0 n) =
      ap (ltb 0) window
      ∙ (sym (rate-longest (roots_in s) (rules_in s) laid.fits.valid).0
      ∙ (sym (and-true (has_rate (rules_in s))) ∙ ap (λ (b : Bool). has_rate (rules_in s) && b) (sym (lt-ltb 0 n (omega (arith, some.0))))))
      in
      acts-done room back xs laid (any-room room none) (record { answer = a; joined = ltb 0 w }) ys (p ∙ sym d.0) rated (m ∙ sym d.1)
    where
      any-room : (room : ℕ) → refusal_of 512 (decode xs) (report time identity n) ≡ 0 → refusal_of room (decode xs) (report time identity n) ≡ 0
      any-room room e = e
