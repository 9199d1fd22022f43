-- Arming on lent memory follows the state's meaning, and what it is answered. Assumes nothing.
use Prim.Native.Nat.{ℕ, ◌*◌, ◌-◌, ◌≤◌}
use native.Mathlib.Omega.{arith}
use mathlib.Core.Path.{◌≡◌, refl, sym, ap, ◌∙◌, subst}
use mathlib.Core.Logic.{inl}
use mathlib.Core.Bool.{Bool, true, false, cond, ◌&&◌}
use mathlib.Core.List.{List}
use lib.ListN.{length, get_or}
use lib.Dec.{eqb}
use borrow.Author.Tests.{eq-eqb, eqb-true, eqb-false}
use Rattle.machine.specs.State.{Profile, State}
use Rattle.machine.specs.Refusals.{first_of}
use Rattle.profile.specs.Profile.{Outcome, reading_of, outcome_of, outcome_beside}
use Rattle.profile.specs.Reading.{Accepted, Refused as NotRead}
use Rattle.profile.proofs.Laws.{accepted-firm, accepted-named}
use Rattle.profile.proofs.Beside.{beside-other, accepted-beside}
use Rattle.state.specs.State.{size, decode}
use Rattle.firms.specs.Seats.{Seat, empty, taken, Seats, facing, left_by}
use Rattle.firms.specs.Doings.{arm, Reply, refused, done, is_taken, name_of, beside_of, arm_refusal as firm_arm_refusal, armed_by, stays, at_seat, outcome_of as done_for, after_first, reply_to, after_doing}
use Rattle.firms.specs.Runs.{Day, day_by}
use Rattle.seats.specs.Memory.{seat_part, decode_seats, firm_of, arm_refusal, given_to, arm_answer, arm_memory}
use Rattle.seats.proofs.Laws.{taken-apart}
use Rattle.seats.proofs.Armable.{arm-armed, arm-alone, arm-sound, arm-refused}
use Rattle.seats.proofs.ArmKept.{arm-kept, arm-follows, arm-replies, name-some}
use Rattle.firmday.specs.Day.{armed_day, read_reply}
use Rattle.firmday.proofs.Texts.{seven}
use Rattle.firmday.proofs.Follows.{Lent, Goes, taken-empty, own-empty, own-taken, other-sound, stays-so}

taken-stays : (v : Seats) (s : State) → v.first ≡ taken s → (p : Profile) → (after_first v (arm p) ≡ v) × ((done_for v (arm p)).reply ≡ refused 3)
unfolding after_first done_for at_seat firm_arm_refusal first_of armed_by stays is_taken
taken-stays v s e p = (
  ap (λ (x : Seat). record { first = (at_seat (beside_of v.second) x (arm p)).seat; second = left_by (at_seat (beside_of v.second) x (arm p)).joined v.second }) e
      ∙ (λ i. record { first = sym e i; second = v.second }),
  ap (λ (x : Seat). (at_seat (beside_of v.second) x (arm p)).reply) e,
)

-- the other's name
named-stays : (v : Seats) → v.first ≡ empty → (p : Profile) → (p.firm ≡ 0 → ⊥) → p.firm ≡ name_of v.second
    → (after_first v (arm p) ≡ v) × ((done_for v (arm p)).reply ≡ refused 7)
unfolding after_first done_for at_seat beside_of firm_arm_refusal first_of armed_by stays is_taken name_of
named-stays v e p some n = (
  ap (λ (x : Seat). record { first = (at_seat (beside_of v.second) x (arm p)).seat; second = left_by (at_seat (beside_of v.second) x (arm p)).joined v.second }) e
      ∙ (rw test (λ i. record { first = sym e i; second = v.second })),
  ap (λ (x : Seat). (at_seat (beside_of v.second) x (arm p)).reply) e ∙ rw test,
)
  where
    sits : (x : Seat) → p.firm ≡ name_of x → is_taken x ≡ true
    sits empty z = absurd (some z)
    sits (taken s) z = refl

    test : (is_taken v.second && eqb p.firm (name_of v.second)) ≡ true
    test = rw (sits v.second n, eq-eqb p.firm (name_of v.second) n)

module _ (xs : List ℕ) (l : Lent xs) (n : ℕ) (le : n ≤ 1) where
  abbrev u : Seats
  u = decode_seats xs

  abbrev f : Bool
  f = firm_of n

  -- a firm whose mark is 0 is refused by its text alone
  unrefused : get_or xs (n * size) 0 ≡ 0 → 0 ≡ arm_refusal xs n
  unrefused m = by-other (eqb (get_or xs (size - n * size) 0) 0) refl
    where
      by-other : (b : Bool) → eqb (get_or xs (size - n * size) 0) 0 ≡ b → 0 ≡ arm_refusal xs n
      by-other true e = arm-alone xs n l.long le m (eqb-true _ _ e)
      by-other false e = let o = eqb-false _ _ e in arm-sound xs n l.long le m o (other-sound xs l n le o)

  pub arm-told : (facing f u).first ≡ empty → (text : List ℕ) → arm_answer xs n text ≡ reading_of (outcome_beside (name_of (facing f u).second) text)
  unfolding arm_answer given_to
  arm-told is text = go (eqb (get_or xs (n * size) 0) 0) refl
    where
      go : (b : Bool) → eqb (get_or xs (n * size) 0) 0 ≡ b → arm_answer xs n text ≡ reading_of (outcome_beside (name_of (facing f u).second) text)
      go true e = rw (← unrefused (eqb-true _ _ e))
      go false e = absurd (taken-empty (sym (own-taken xs l n le (eqb-false _ _ e)) ∙ is))

  pub arm-again : (s : State) → (facing f u).first ≡ taken s → (text : List ℕ) → (arm_answer xs n text ≡ NotRead 3 0) × (arm_memory xs n text ≡ xs)
  arm-again s is text = go (eqb (get_or xs (n * size) 0) 0) refl
    where
      go : (b : Bool) → eqb (get_or xs (n * size) 0) 0 ≡ b → (arm_answer xs n text ≡ NotRead 3 0) × (arm_memory xs n text ≡ xs)
      go true e = absurd (taken-empty (sym is ∙ own-empty xs l n le (eqb-true _ _ e)))
      go false e =
          let d = arm-refused xs n text 3 (arm-armed xs n l.long le (eqb-false _ _ e)) (λ z. omega arith) in
          (sym d.0, sym d.1)

  module _ (text : List ℕ) where
    abbrev p : Profile
    p = (outcome_of text).profile

    abbrev fine : Bool
    fine = eqb (outcome_of text).refusal 0

    abbrev ArmGoes : Type 0
    ArmGoes =
        Goes (arm_memory xs n text) (cond fine (after_doing f u (arm p)) u)
        × ((day : Day) → armed_day (arm_answer xs n text) p day ≡ cond fine (day_by (arm p) (reply_to f u (arm p)) day) day)
        × (fine ≡ true → read_reply (arm_answer xs n text) ≡ reply_to f u (arm p))

    -- nothing was done, in memory and in the meaning
    nothing-done : {k line : ℕ} → NotRead k line ≡ arm_answer xs n text → xs ≡ arm_memory xs n text → (j : ℕ) → (fine ≡ true → k ≡ j)
        → (fine ≡ true → (after_first (facing f u) (arm p) ≡ facing f u) × ((done_for (facing f u) (arm p)).reply ≡ refused j)) → ArmGoes
    unfolding armed_day day_by read_reply
    nothing-done {k} a m j same s = ((go fine s).0, (go fine s).1, λ t. ap read_reply (sym a) ∙ (ap refused (same t) ∙ sym (s t).1))
      where
        go : (b : Bool) → (b ≡ true → (after_first (facing f u) (arm p) ≡ facing f u) × ((done_for (facing f u) (arm p)).reply ≡ refused j))
            → Goes (arm_memory xs n text) (cond b (after_doing f u (arm p)) u)
            × ((day : Day) → armed_day (arm_answer xs n text) p day ≡ cond b (day_by (arm p) (reply_to f u (arm p)) day) day)
        go true s = (
          stays-so xs l n le m (s refl).0,
          λ day. ap (λ r. armed_day r p day) (sym a) ∙ sym (ap (λ (r : Reply). day_by (arm p) r day) (s refl).1),
        )
        go false s = ((subst Lent m l, ap decode_seats (sym m)), λ day. ap (λ r. armed_day r p day) (sym a))

    fine-goes : (outcome_of text).refusal ≡ 0 → Goes (arm_memory xs n text) (after_doing f u (arm p))
        → ((day : Day) → armed_day (arm_answer xs n text) p day ≡ day_by (arm p) (reply_to f u (arm p)) day)
        → read_reply (arm_answer xs n text) ≡ reply_to f u (arm p) → ArmGoes
    fine-goes ok g d r = rw (eq-eqb _ _ ok) (g, d, λ t. r)

    by-text : (facing f u).first ≡ empty → arm_refusal xs n ≡ 0 → ArmGoes
    unfolding arm_memory arm_answer reading_of given_to armed_day day_by read_reply
    by-text e free = go (eqb (given_to xs n text).refusal 0) refl
      where
        other : ℕ
        other = name_of (facing f u).second

        named : eqb (outcome_beside other text).refusal 0 ≡ false → (outcome_of text).refusal ≡ 0 → p.firm ≡ other
        named z ok = by_name (eqb p.firm other) refl
          where
            by_name : (b : Bool) → eqb p.firm other ≡ b → p.firm ≡ other
            by_name true h = eqb-true _ _ h
            by_name false h =
                let same = beside-other text other (λ w. eqb-false _ _ h (accepted-firm text ok ∙ w)) in
                absurd (eqb-false _ _ z (ap (λ (o : Outcome). o.refusal) same ∙ ok))

        go : (b : Bool) → eqb (outcome_beside other text).refusal 0 ≡ b → ArmGoes
        go false z =
            let told : NotRead (outcome_beside other text).refusal (outcome_beside other text).line ≡ arm_answer xs n text = rw (free, z) in
            let left : xs ≡ arm_memory xs n text = rw (free, z) in
            nothing-done told left 7 (λ t. let ok = eqb-true _ _ t in let nm = named z ok in seven text ok other (sym (accepted-firm text ok) ∙ nm) (λ w. name-some (accepted-named text ok) (nm ∙ w)))
            (λ t. let ok = eqb-true _ _ t in named-stays (facing f u) e p (name-some (accepted-named text ok)) (named z ok))
        go true z =
            let ok = eqb-true _ _ z in
            let same : outcome_beside other text ≡ outcome_of text = accepted-beside text other ok in
            let okay : (outcome_of text).refusal ≡ 0 = ap (λ (o : Outcome). o.refusal) (sym same) ∙ ok in
            let its : (outcome_beside other text).profile ≡ p = ap (λ (o : Outcome). o.profile) same in
            let k = arm-kept xs n free text ok in
            let after = arm-follows xs n free text ok ∙ ap (λ (q : Profile). after_doing f u (arm q)) its in
            let told : arm_answer xs n text ≡ Accepted (outcome_beside other text).profile.firm (length (outcome_beside other text).profile.rules) (length (outcome_beside other text).profile.roots) = rw (free, z) in
            let replies : reply_to f u (arm p) ≡ done = ap (λ (q : Profile). reply_to f u (arm q)) (sym its) ∙ arm-replies xs n free text ok in
            let lent : Lent (arm_memory xs n text) = record { long = (taken-apart _ k).long; held = inl k } in
            fine-goes okay (lent, after) (λ day. ap (λ r. armed_day r p day) told ∙ sym (ap (λ (r : Reply). day_by (arm p) r day) replies))
            (ap read_reply told ∙ sym replies)

    pub arm_goes : ArmGoes
    arm_goes = by-own (eqb (get_or xs (n * size) 0) 0) refl
      where
        by-own : (b : Bool) → eqb (get_or xs (n * size) 0) 0 ≡ b → ArmGoes
        by-own false e =
            let m = eqb-false _ _ e in
            let d = arm-refused xs n text 3 (arm-armed xs n l.long le m) (λ z. omega arith) in
            nothing-done d.0 d.1 3 (λ t. refl) (λ t. taken-stays (facing f u) (decode (seat_part n xs)) (own-taken xs l n le m) p)
        by-own true e = by-text (own-empty xs l n le (eqb-true _ _ e)) (sym (unrefused (eqb-true _ _ e)))
