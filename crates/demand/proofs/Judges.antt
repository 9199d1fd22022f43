-- A call that is not refused is answered as the deeds before it tell. Assumes nothing.
use Prim.Native.Nat.{ℕ, zero, suc}
use mathlib.Core.Path.{◌≡◌, refl, ap, ◌∙◌}
use mathlib.Core.Bool.{false}
use mathlib.Core.List.{List, ◌∷◌}
use Rattle.machine.specs.State.{Profile, State}
use Rattle.machine.specs.Answer.{Judged, Left, Standing as Stand}
use Rattle.machine.specs.declared.Offer.{Offer}
use Rattle.machine.specs.Effects.{effect_of}
use Rattle.machine.specs.Deeds.{reported, Deed, resetting}
use Rattle.machine.specs.Locks.{verdict_of}
use Rattle.machine.specs.Calls.{Call, order, lockout, offer, remaining, status, send, report, close}
use Rattle.machine.specs.Register.{fill_of}
use Rattle.machine.specs.Refusals.{refusal_of}
use Rattle.machine.specs.Step.{locks_after, part_after, after}
use Rattle.machine.specs.Judge.{ordered, sent_away, judged}
use Rattle.machine.proofs.Refusals.{orderable, accepted, askable, reportable}
use Rattle.machine.proofs.Meets.{Meets, reported-meets}
use Rattle.demand.specs.Answers.{verdict_in, filled_answer, offer_answer, answer_in}
use Rattle.demand.proofs.Keeps.{deed-keeps}
use Rattle.demand.proofs.Invariant.{Inv}
use Rattle.demand.proofs.Tells.{verdict-now, standing-same, filled-same, offered-same, left-same, fill-same}

-- a sending is answered its verdict alone
sent-verdict : (o : Offer) (identity reports verdict : ℕ) → (sent_away o identity reports verdict).answer ≡ Judged verdict 0 false false
unfolding sent_away
sent-verdict o identity reports zero = refl
sent-verdict o identity reports (suc verdict) = refl

module _ (p : Profile) (s : State) (h : List Deed) (i : Inv p s h) where
  -- the verdict after a deed
  verdict-after : (deed : Deed) (root : ℕ) → Meets s deed → verdict_of (locks_after deed s) root ≡ verdict_in p.rules root (deed ∷ h)
  unfolding after part_after
  verdict-after deed root m = verdict-now p (after deed s) (deed ∷ h) (deed-keeps p s h i deed m) root

  -- the answer is told by the deeds before
  pub judged-same : (room : ℕ) (call : Call) → refusal_of room s call ≡ 0 → (judged s call).answer ≡ answer_in p.rules h call
  unfolding judged ordered answer_in Meets fill_of
  judged-same room (order time root reset) e =
      ap (λ (n : ℕ). Judged n 0 false false)
      (verdict-after (resetting time root (effect_of reset)) root (orderable room s time root reset e).0)
  judged-same room (lockout time level root) e = refl
  judged-same room (offer o) e =
      let a = accepted room s o e in
      offered-same p s h i o (verdict_of s.part.locks o.root) a.unit a.time.after
      ∙ ap (offer_answer p.rules h o) (verdict-now p s h i o.root)
  judged-same room (remaining time rule unit) e =
      let a = askable room s time rule unit e in ap Left (left-same p s h i time rule unit a.0.after a.1)
  judged-same room status e = ap Stand (standing-same p s h i)
  judged-same room (send o identity reports) e =
      sent-verdict o identity reports (verdict_of s.part.locks o.root) ∙ ap (λ (n : ℕ). Judged n 0 false false) (verdict-now p s h i o.root)
  judged-same room (report time identity n) e =
      let a = reportable room s time identity n e in
      let f = reported-meets room s i.registered.registered time identity n a in
      filled-same p s h i (reported identity) (fill_of s.part.register time identity n) n f.unit a.time.after
      ∙ ap (λ (o : Offer). filled_answer p.rules h (reported identity) o n) (fill-same p s h i time identity n a.opened)
  judged-same room (close time identity) e = refl
