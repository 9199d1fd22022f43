-- The log after a grant: whether a fill joins it, and that the state with it still fits. Assumes nothing.
use Prim.Native.Nat.{ℕ, ◌≤◌, ◌<◌}
use native.Mathlib.Omega.{arith}
use mathlib.Core.Path.{◌≡◌, refl, sym, ap, ◌∙◌, subst}
use mathlib.Core.Bool.{Bool, true, false, cond, not, ◌&&◌}
use mathlib.Core.List.{List, [], ◌∷◌, ◌++◌}
use lib.ListN.{length, length-append}
use lib.Dec.{ltb}
use borrow.Author.Tests.{ltb-true, not-true, not-false}
use Rattle.laws.proofs.Tests.{and_l, and_r}
use Rattle.measures.specs.Ranges.{offers}
use Rattle.machine.specs.Entries.{is_entry, are_ordered, recent, is_recent}
use Rattle.machine.specs.State.{State, rules_in, roots_in}
use Rattle.rules.specs.Valid.{has_rate}
use Rattle.machine.specs.Offers.{entry_of, longest, joined_log}
use Rattle.packing.proofs.EntryPlace.{entry-valid}
use Rattle.state.specs.Inner.Laid.{Laid, Fits, with_log}
use Rattle.machine.specs.declared.Offer.{Offer}
use Rattle.machine.proofs.Lists.{every-keep, every-join, keep-le}
use Rattle.daylog.specs.Inner.Log.{last_of}
use Rattle.daylog.specs.Inner.Memo.{IsRead}
use Rattle.daylog.specs.Inner.Reading.{window_reading}
use Rattle.daylog.proofs.Leaving.{window-read, recent-last}
use Rattle.state.specs.State.{decode}
use Rattle.state.proofs.Laid.{laid-held, laid-entries}
use Rattle.machine.specs.declared.Entry.{Entry}
use Rattle.grant.specs.declared.Inside.{Inside}
use Rattle.grant.specs.Inner.Grant.{inside_of, Fillable, HasRoom}
use Rattle.machine.proofs.Windows.{rate-longest}

-- what is inside the longest window at a time
module _ (s : State) (time : ℕ) {inside : Inside} (e : inside ≡ inside_of s time) where
  pub window-is : inside.window ≡ longest (rules_in s)
  unfolding inside_of
  window-is = ap (λ (i : Inside). i.window) e

  pub passed_is : inside.read.passed ≡ length (recent inside.window time s.log)
  unfolding inside_of window_reading
  passed_is = ap (λ (i : Inside). i.read.passed) e ∙ ap (λ (w : ℕ). length (recent w time s.log)) (sym window-is)

module _ {xs : List ℕ} (h : Laid xs) (time : ℕ) where
  abbrev log : List Entry
  log = (decode xs).log

  pub inside-read : {inside : Inside} → inside ≡ inside_of (decode xs) time → IsRead log inside.read
  unfolding inside_of
  inside-read e =
      let w = longest (rules_in (decode xs)) in
      subst (λ (i : Inside). IsRead log i.read) (sym e)
      (subst (λ (l : List Entry). IsRead l (window_reading w time l)) (laid-entries h) (window-read w time _ _ (laid-held h).held))

  -- in order of time they are the last ones
  pub laid-last : (window : ℕ) → are_ordered 0 time log ≡ true → recent window time log ≡ last_of (length (recent window time log)) log
  laid-last window ordered =
      subst (λ (l : List Entry). recent window time l ≡ last_of (length (recent window time l)) l) (laid-entries h)
      (recent-last window time _ _ (laid-held h).held (ap (are_ordered 0 time) (laid-entries h) ∙ ordered))

-- no more than there are
pub inside-most : (window time : ℕ) (es : List Entry) → length (recent window time es) ≤ length es
unfolding recent
inside-most window time es = keep-le (is_recent window time) es

-- whether a fill joins the log, by the longest window
module _ (s : State) (f : Fits s) {window : ℕ} (is : window ≡ longest (rules_in s)) where
  rate-is : has_rate (rules_in s) ≡ ltb 0 window
  rate-is = (rate-longest (roots_in s) (rules_in s) f.valid).0 ∙ ap (ltb 0) (sym is)

  module _ (o : Offer) (grant : ℕ) where
    joins : (has_rate (rules_in s) && ltb 0 grant) ≡ (ltb 0 window && ltb 0 grant)
    joins = ap (λ (b : Bool). b && ltb 0 grant) rate-is

    pub joined-off : not (ltb 0 window && ltb 0 grant) ≡ true → joined_log (rules_in s) s.log o grant ≡ s.log
    unfolding joined_log
    joined-off out = rw (joins ∙ not-true (ltb 0 window && ltb 0 grant) out)

    module _ (some : not (ltb 0 window && ltb 0 grant) ≡ false) where
      both : (ltb 0 window && ltb 0 grant) ≡ true
      both = not-false (ltb 0 window && ltb 0 grant) some

      pub joined-on : joined_log (rules_in s) s.log o grant ≡ recent window o.time s.log ++ (entry_of o grant ∷ [])
      unfolding joined_log
      joined-on = rw (joins ∙ both) (ap (λ (w : ℕ). recent w o.time s.log ++ (entry_of o grant ∷ [])) (sym is))

      pub grant-some : 0 < grant
      grant-some = ltb-true 0 grant (and_r (ltb 0 window) (ltb 0 grant) both)

      pub room_for : HasRoom s o grant → length (recent window o.time s.log) < 512
      room_for room =
          subst (λ (w : ℕ). length (recent w o.time s.log) < 512) (sym is) (room (rate-is ∙ and_l (ltb 0 window) (ltb 0 grant) both) grant-some)

-- the entry of a fill is in range
pub entry_in_lem : {xs : List ℕ} {o : Offer} {grant : ℕ} (roots : ℕ) → Fillable xs o → o.root < roots → 0 < grant → grant ≤ offers.most
    → is_entry roots (entry_of o grant) ≡ true
unfolding entry_of
entry_in_lem {o = o} {grant = grant} roots a r pos most = entry-valid roots (entry_of o grant) (record {
  time = a.time.1;
  root = r;
  unit = a.unit.1;
  premium = a.premium;
  contracts = (pos, most);
})

-- a state with the log after a fill still fits
pub fits-joined : {xs : List ℕ} {o : Offer} {grant : ℕ} (s : State) → Fits s → Fillable xs o → o.root < length s.part.profile.roots → grant ≤ offers.most
    → HasRoom s o grant → Fits (with_log s (joined_log (rules_in s) s.log o grant))
unfolding joined_log recent rules_in roots_in
fits-joined {o = o} {grant = grant} s f a r most room = go (has_rate (rules_in s)) refl (ltb 0 grant) refl
  where
    go : (b : Bool) → has_rate (rules_in s) ≡ b → (g : Bool) → ltb 0 grant ≡ g
        → Fits (with_log s (cond (b && g) (recent (longest (rules_in s)) o.time s.log ++ (entry_of o grant ∷ [])) s.log))
    go true p true q =
        let kept = recent (longest (rules_in s)) o.time s.log in
        let pos = ltb-true 0 grant q in
        record {
          roots = f.roots;
          rules = f.rules;
          log = omega (arith, length-append kept (entry_of o grant ∷ []), room p pos);
          fitting = f.fitting;
          measured = f.measured;
          valid = f.valid;
          few = f.few;
          sent = f.sent;
          entries =
              every-join (is_entry (roots_in s)) kept (entry_of o grant) (every-keep (is_entry (roots_in s)) _ s.log f.entries)
              (entry_in_lem (roots_in s) a r pos most);
        }
    go true p false q = f
    go false p true q = f
    go false p false q = f
