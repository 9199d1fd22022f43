-- From what each grant met to what any stretch of the history holds: lists alone, no state. Assumes nothing.
use Prim.Native.Nat.{ℕ, zero, suc, ◌+◌, ◌≤◌, ◌<◌, zero-le}
use mathlib.Core.Path.{◌≡◌, refl}
use mathlib.Core.Bool.{Bool, true, false, not, cond, ◌&&◌}
use mathlib.Core.List.{List, [], ◌∷◌, ◌++◌}
use lib.Dec.{leb}
use borrow.Author.Tests.{ltb-true, leb-true, lt-ltb}
use native.Mathlib.Omega.{arith}
use Rattle.laws.proofs.Tests.{and_l, and_r}
use Rattle.rules.specs.Rules.{level_of, counts, ceiling}
use Rattle.rules.specs.declared.Kind.{Kind}
use Rattle.rules.specs.declared.Kind.TheVariants.{Rate, Absolute}
use Rattle.rules.specs.declared.Rule.{Rule}
use Rattle.machine.specs.Deeds.{Deed}
use Rattle.demand.specs.History.{deed_time, amount_of, is_away, zeroes, NoneOf}
use Rattle.demand.specs.Sums.{in_stretch, sum_by, sum_in, away_in, granted_in, Within}
use Rattle.demand.specs.Locked.{counted_in}

-- what a deed adds for a rule found room, unless it came back from an away market
unfoldable pub Room : Rule → Deed → List Deed → Type 0
Room rule deed earlier = is_away deed ≡ false → 0 < amount_of rule deed → counted_in rule earlier (deed_time deed) + amount_of rule deed ≤ ceiling rule.limit

-- what each grant added found room
unfoldable pub Kept : Rule → List Deed → Type 0
Kept rule [] = Unit {0}
Kept rule (deed ∷ earlier) = Room rule deed earlier × Kept rule earlier

kept-part : (rule : Rule) (later rest : List Deed) → Kept rule (later ++ rest) → Kept rule rest
unfolding Kept
kept-part rule [] rest k = k
kept-part rule (deed ∷ later) rest k = kept-part rule later rest k.1

-- what lies in a stretch still counts at any time of the stretch
stretch-counts : (kind : Kind) (start u t : ℕ) → in_stretch kind start u ≡ true → in_stretch kind start t ≡ true → counts kind u t ≡ true
unfolding in_stretch counts
stretch-counts (Rate w) start u t hu ht =
    lt-ltb t (u + w) (omega (arith, leb-true start u (and_l (leb start u) _ hu), ltb-true t _ (and_r (leb start t) _ ht)))
stretch-counts Absolute start u t hu ht = refl

-- so at any time of a stretch all of it is counted that lies in a part without a reset
part-counted : (rule : Rule) (part earlier : List Deed) (start t : ℕ) → NoneOf (zeroes (level_of rule.scope)) part
    → in_stretch rule.kind start t ≡ true → sum_in rule start part ≤ counted_in rule (part ++ earlier) t
unfolding sum_by counted_in NoneOf
part-counted rule [] earlier start t none ht = zero-le
part-counted rule (deed ∷ part) earlier start t none ht =
    go (in_stretch rule.kind start (deed_time deed)) refl (part-counted rule part earlier start t none.1 ht)
  where
    go : (b : Bool) → in_stretch rule.kind start (deed_time deed) ≡ b → sum_in rule start part ≤ counted_in rule (part ++ earlier) t
        → sum_in rule start (deed ∷ part) ≤ counted_in rule (deed ∷ part ++ earlier) t
    go true i ih = rw (none.0, i, stretch-counts _ _ _ _ i ht) (omega arith)
    go false i ih = rw (none.0, i) (omega arith)

-- the newest grant of a stretch found room beside all that came before
part-within : (rule : Rule) (part earlier : List Deed) (start : ℕ) → Kept rule (part ++ earlier) → NoneOf (zeroes (level_of rule.scope)) part
    → sum_in rule start part ≤ ceiling rule.limit + away_in rule start part
unfolding sum_by NoneOf Kept Room
part-within rule [] earlier start k none = zero-le
part-within rule (deed ∷ part) earlier start k none =
    go (is_away deed) refl (in_stretch rule.kind start (deed_time deed)) refl (amount_of rule deed) refl
    (part-within rule part earlier start k.1 none.1)
  where
    go : (away : Bool) → is_away deed ≡ away → (b : Bool) → in_stretch rule.kind start (deed_time deed) ≡ b → (n : ℕ) → amount_of rule deed ≡ n
        → sum_in rule start part ≤ ceiling rule.limit + away_in rule start part
        → sum_in rule start (deed ∷ part) ≤ ceiling rule.limit + away_in rule start (deed ∷ part)
    go true ea b i n e ih = rw ea (omega arith)
    go false ea false i n e ih = rw (i, ea) (omega arith)
    go false ea true i zero e ih = rw (i, ea) (omega arith)
    go false ea true i (suc n) e ih =
        rw (i, ea) (omega (arith, k.0 ea (omega arith), part-counted rule part earlier start (deed_time deed) none.1 i))

-- what was filled is what was granted and what came back
sum_both : (rule : Rule) (start : ℕ) (part : List Deed) → sum_in rule start part ≡ granted_in rule start part + away_in rule start part
unfolding sum_by
sum_both rule start [] = refl
sum_both rule start (deed ∷ part) = go (is_away deed) (in_stretch rule.kind start (deed_time deed)) (sum_both rule start part)
  where
    go : (away b : Bool) → sum_in rule start part ≡ granted_in rule start part + away_in rule start part
        → cond b (amount_of rule deed) 0 + sum_in rule start part
        ≡ cond (not away && b) (amount_of rule deed) 0 + granted_in rule start part + (cond (away && b) (amount_of rule deed) 0 + away_in rule start part)
    go true true ih = omega arith
    go true false ih = omega arith
    go false true ih = omega arith
    go false false ih = omega arith

pub kept-within : (rule : Rule) (deeds : List Deed) → Kept rule deeds → Within rule deeds
unfolding Within
kept-within rule deeds k later part earlier e none start =
    let all = part-within rule part earlier start (kept-part rule later (part ++ earlier) (rw e at k)) none in
    (all, omega (arith, all, sum_both rule start part))
