-- Entries that count for neither root nor firm: no rule counts them, and a reset of everything that there is lets every entry leave. Assumes nothing.
use Prim.Native.Nat.{ℕ, ◌<◌}
use mathlib.Core.Path.{◌≡◌, refl, sym}
use mathlib.Core.Bool.{Bool, true, false, not, cond, ◌&&◌, ◌||◌, false≢true}
use mathlib.Core.List.{List, [], ◌∷◌}
use native.Mathlib.Omega.{arith}
use Rattle.laws.proofs.Tests.{and_l, and_r, tests}
use Rattle.laws.specs.Folds.{every, keep, sum_of}
use Rattle.rules.specs.Rules.{level_of, share}
use Rattle.rules.specs.declared.Level.{Level}
use Rattle.rules.specs.declared.Level.TheVariants.{Firm, Root}
use Rattle.rules.specs.declared.Rule.{Rule}
use Rattle.machine.specs.declared.Entry.{Entry}
use Rattle.machine.specs.Entries.{is_entry, flag_of, is_flagged, entry_share}
use Rattle.machine.specs.Effects.{resets, effect_of, zeroing}
use Rattle.machine.specs.Order.{unflagged, unflagged_log}
use Rattle.machine.proofs.Lists.{sum-keep}

-- an entry without a flag counts for no rule
share-none : (rule : Rule) (t : ℕ) (e : Entry) → is_flagged e ≡ false → entry_share rule t e ≡ 0
unfolding entry_share is_flagged flag_of
share-none rule t e none = go (level_of rule.scope)
  where
    unset : (a b : Bool) (n : ℕ) → (a || b) ≡ false → (cond a n 0 ≡ 0) × (cond b n 0 ≡ 0)
    unset true b n h = absurd (false≢true (sym h))
    unset false true n h = absurd (false≢true (sym h))
    unset false false n h = (refl, refl)

    n : ℕ
    n = share rule e.time e.root e.unit e.premium.0 e.contracts.0 t

    go : (level : Level) → cond (flag_of level e) n 0 ≡ 0
    go Firm = (unset e.forroot e.forfirm n none).1
    go (Root r) = (unset e.forroot e.forfirm n none).0

-- an entry that counts for nothing counts for nothing later
pub still-gone : (z : Level → Bool) (e : Entry) → is_flagged e ≡ false → is_flagged (unflagged z e) ≡ false
unfolding is_flagged unflagged
still-gone z e = go (z (Root e.root)) (z Firm) e.forroot e.forfirm
  where
    go : (a b x y : Bool) → (x || y) ≡ false → (not a && x || not b && y) ≡ false
    go a b true y h = absurd (false≢true (sym h))
    go a b false true h = absurd (false≢true (sym h))
    go true true false false h = refl
    go true false false false h = refl
    go false true false false h = refl
    go false false false false h = refl

-- so a log counts the same without such entries
pub sum-flagged : (rule : Rule) (t : ℕ) (log : List Entry) → sum_of (entry_share rule t) (keep is_flagged log) ≡ sum_of (entry_share rule t) log
sum-flagged rule t log = sum-keep is_flagged (entry_share rule t) (share-none rule t) log

-- an entry of the only root counts for nothing after BOTH
both-clears : (e : Entry) → is_entry 1 e ≡ true → is_flagged (unflagged (zeroing (effect_of 3) 0) e) ≡ false
unfolding is_entry is_flagged unflagged zeroing effect_of resets
both-clears e h =
    let known : e.root < 1 = search tests depth 8 in
    let only : e.root ≡ 0 = omega arith in
    rw only

-- so BOTH, where there is no root but its own, gives back the room of every entry
pub both-empties : (log : List Entry) → every (is_entry 1) log ≡ true → unflagged_log (zeroing (effect_of 3) 0) log ≡ []
unfolding unflagged_log every keep
both-empties [] h = refl
both-empties (e ∷ es) h =
    rw (both-clears e (and_l (is_entry 1 e) (every (is_entry 1) es) h)) (both-empties es (and_r (is_entry 1 e) (every (is_entry 1) es) h))
