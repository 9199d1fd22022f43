-- What is promised of two firms on one state holds, whatever is asked. Assumes nothing.
use Prim.Native.Nat.{ℕ, ◌<◌}
use native.Mathlib.Omega.{arith}
use mathlib.Core.Path.{◌≡◌, sym, ap, ◌∙◌, subst, subst⁻¹}
use mathlib.Core.Logic.{◌⊎◌, inl, inr}
use mathlib.Core.Bool.{Bool, true, not}
use mathlib.Core.List.{List, ◌++◌}
use lib.ListN.{length, drop}
use Rattle.tables.specs.Inner.Tables.{zeros}
use Rattle.machine.specs.Answer.{Refused}
use Rattle.machine.specs.State.{State}
use Rattle.machine.specs.Calls.{Call, offer, send}
use Rattle.demand.specs.Run.{run_of}
use Rattle.demand.specs.Demand.{Ranged, Demand3}
use Rattle.demand.proofs.Theorem.{ranged-valid}
use Rattle.demand.proofs.Words.{demand-words}
use Rattle.profile.specs.Profile.{outcome_of}
use Rattle.state.specs.Sound.{Given}
use Rattle.state.proofs.Exactly.{made-parts, given-is-made}
use Rattle.firms.specs.Seats.{taken, Seats, vacant, seat_of, facing}
use Rattle.firms.specs.Doings.{call as calling, answered, reply_to}
use Rattle.firms.specs.Runs.{Day, no_day, seats_after, day_of, NeverRefused}
use Rattle.firms.proofs.Seats.{own-seat}
use Rattle.firms.proofs.Sound.{GivenBy}
use Rattle.firms.proofs.Days.{day_in}
use Rattle.firms.proofs.Places.{Reached, reached, own-places}
use Rattle.firms.proofs.Demand.{RangedBy, Promised as FirmMeant, demand3}
use Rattle.firms.proofs.Alone.{as-alone}
use Rattle.firms.proofs.Told.{never-low}
use Rattle.seats.specs.Memory.{state_size, decode_seats, SoundMemory, is_sound_memory, firm_answer}
use Rattle.seats.proofs.Exactly.{exactly}
use Rattle.seats.proofs.ArmKept.{accepted-given}
use Rattle.seats.proofs.Clearing.{seats-cleared}
use Rattle.firmday.specs.Day.{Asking, number_of, memory_at, asked_all}
use Rattle.firmday.specs.Promised.{Unarmed, day_on, Armed, FirmPromised, DayPromised}
use Rattle.firmday.proofs.Follows.{Lent}
use Rattle.firmday.proofs.AllDay.{day-follows, asked-all, unarmed-lent}
use Rattle.firmday.proofs.Moments.{by_call, arm-taken}
use Rattle.firmday.proofs.Parts.{ready-now, moves-now, zero-part, clears-now, cleared-own, cleared-other, cleared-past, past_all}

-- every text that is accepted has its limits below what totals are held at
accepted-ranged : (text : List ℕ) → (outcome_of text).refusal ≡ 0 → Ranged (outcome_of text).profile
accepted-ranged text ok =
    let p = (outcome_of text).profile in
    ranged-valid (length p.roots) p.rules (made-parts p (given-is-made p (accepted-given text ok))).valid

module _ (before : List ℕ) (un : Unarmed before) (qs : List Asking) where
  abbrev memory : List ℕ
  memory = memory_at before qs

  lent : Lent memory
  lent = (day-follows qs before (unarmed-lent before un).0).0.0

  meant : decode_seats memory ≡ seats_after vacant (asked_all qs)
  meant =
      (day-follows qs before (unarmed-lent before un).0).0.1 ∙ ap (λ (v : Seats). seats_after v (asked_all qs)) (unarmed-lent before un).1

  day-is : (firm : Bool) → day_on firm before qs ≡ day_in firm (asked_all qs)
  day-is firm =
      (day-follows qs before (unarmed-lent before un).0).1 firm no_day ∙ ap (λ (v : Seats). day_of firm v (asked_all qs) no_day) (unarmed-lent before un).1

  now-reached : Reached Given (decode_seats memory)
  unfolding GivenBy
  now-reached = subst⁻¹ (Reached Given) meant (reached Given (asked_all qs) (asked-all (GivenBy Given) accepted-given (λ c. tt) tt qs))

  module _ (firm : Bool) (s : State) (is : Armed firm memory s) where
    abbrev day : Day
    day = day_on firm before qs

    seat-is : seat_of firm (seats_after vacant (asked_all qs)) ≡ taken s
    seat-is = ap (seat_of firm) (sym meant) ∙ is

    firm-meant : FirmMeant firm (asked_all qs) s
    unfolding RangedBy
    firm-meant = demand3 firm (asked_all qs) (asked-all RangedBy accepted-ranged (λ c. tt) tt qs) s seat-is

    never : (k : ℕ) → k < 12 → NeverRefused k day.events
    never k low = subst⁻¹ (λ (d : Day). NeverRefused k d.events) (day-is firm) (never-low k low firm (asked_all qs) s seat-is)

    first-is : (facing firm (decode_seats memory)).first ≡ taken s
    first-is = own-seat firm (decode_seats memory) ∙ is

    alone : NeverRefused 15 day.events → (calls : List Call) × ((run_of day.profile calls).history ≡ day.events)
    alone none = go (day-is firm) none
      where
        go : {d : Day} → d ≡ day_in firm (asked_all qs) → NeverRefused 15 d.events → (calls : List Call) × ((run_of d.profile calls).history ≡ d.events)
        go {d} e none =
            let a = as-alone firm (asked_all qs) s seat-is (subst (λ (d : Day). NeverRefused 15 d.events) e none) in
            (a.calls, subst⁻¹ (λ (d : Day). (run_of d.profile a.calls).history ≡ d.events) e a.history)

    pub firm-promised : FirmPromised firm memory day s
    firm-promised =
        let own = own-places firm (decode_seats memory) now-reached.fair s first-is in
        let told : (c : Call) → firm_answer memory (number_of firm) c ≡ Refused 15 → reply_to firm (decode_seats memory) (calling c) ≡ answered (Refused 15) =
        λ c e. sym (by_call memory lent firm c) ∙ ap answered e
        in
        let demand = subst⁻¹ (λ (d : Day). Demand3 d.profile.rules s d.events) (day-is firm) firm-meant.demand in
        record {
          profile = firm-meant.profile ∙ ap (λ (d : Day). d.profile) (sym (day-is firm));
          demand = demand;
          words = demand-words day.profile.rules s day.events demand;
          moves = moves-now memory lent firm s is;
          not_short = never 1 (omega arith);
          not_unsound = never 2 (omega arith);
          not_unarmed = never 4 (omega arith);
          ready = ready-now memory lent firm s is;
          armed_once = arm-taken memory lent firm s is;
          own_offers = λ o few e. (own o).0 few (told (offer o) e);
          own_sendings = λ o identity reports few e. (own o).1 identity reports few (told (send o identity reports) e);
          as_alone = alone;
          beside = zero-part memory lent firm s is (not firm);
          clears = clears-now memory lent firm s is;
          zeroed = cleared-own memory lent firm s is;
          stays = cleared-other memory lent firm s is;
          past_stays = cleared-past memory lent firm s is;
        }

  now-past : drop state_size memory ≡ drop state_size before
  now-past = past_all qs before (unarmed-lent before un).0

  -- WHAT IS PROMISED HOLDS, from memory on which no firm is armed, whatever is asked for both firms
  pub day-promised : DayPromised before qs
  unfolding DayPromised
  day-promised = record {
    firms = firm-promised;
    sound = held lent.held;
    fair = now-reached.fair;
    past = now-past;
    clears_all = sym (seats-cleared memory lent.long).0;
    zeros = sym (seats-cleared memory lent.long).1 ∙ ap (λ (l : List ℕ). zeros state_size ++ l) now-past;
  }
    where
      held : (is_sound_memory memory ≡ true) ⊎ (decode_seats memory ≡ vacant) → SoundMemory memory ⊎ (decode_seats memory ≡ vacant)
      held (inl h) = inl ((exactly memory).1 h)
      held (inr e) = inr e
