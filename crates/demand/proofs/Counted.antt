-- What the state counts for a rule after a reset, and after a fill. Assumes nothing.
use Prim.Native.Nat.{ℕ, ◌+◌, ◌≤◌, min}
use mathlib.Core.Path.{◌≡◌, refl, sym, ap, ◌∙◌}
use mathlib.Core.Bool.{Bool, true, false, not, cond, ◌&&◌, or-true}
use mathlib.Core.List.{List, [], ◌∷◌, ◌++◌, map}
use lib.Dec.{eqb, ltb}
use borrow.Author.Tests.{ltb-false, le-ltb, eqb-true}
use native.Mathlib.Omega.{arith}
use Rattle.laws.proofs.Tests.{and_l}
use Rattle.measures.specs.Ranges.{totals}
use Rattle.rules.specs.Rules.{level_of, covers, is_rate, counts, counted_of, held, added, share}
use Rattle.rules.specs.Allowance.{All}
use Rattle.rules.specs.declared.Level.{Level}
use Rattle.rules.specs.declared.Level.TheVariants.{Firm, Root}
use Rattle.rules.specs.declared.Scope.{Scope}
use Rattle.rules.specs.declared.Scope.TheVariants.{EveryFill, WholeRoot, OneUnit}
use Rattle.rules.specs.declared.Kind.{Kind}
use Rattle.rules.specs.declared.Kind.TheVariants.{Rate, Absolute}
use Rattle.rules.specs.declared.Rule.{Rule}
use Rattle.rules.specs.declared.Account.{Account}
use Rattle.rules.specs.declared.Limit.{Limit}
use Rattle.rules.specs.declared.Amount.{Amount}
use Rattle.rules.specs.Amounts.{number_of, amount_in}
use Rattle.rules.proofs.Amounts.{number_in}
use Rattle.rules.proofs.Laws.{added-zero}
use Rattle.laws.specs.Folds.{sum_of}
use Rattle.rules.specs.Valid.{has_rate}
use Rattle.machine.specs.declared.Entry.{Entry}
use Rattle.machine.specs.Order.{wiped, unflagged, unflagged_log}
use Rattle.machine.specs.Entries.{flag_of, entry_share, recent}
use Rattle.machine.specs.Offers.{counted, covers_offer, credited, window_of, longest, entry_of, joined_log}
use Rattle.machine.specs.declared.Offer.{Offer}
use Rattle.machine.proofs.Lists.{sum-keep}
use Rattle.machine.proofs.Flags.{sum-flagged}
use Rattle.demand.proofs.Lists.{none-either, sum-append, sum_one, sum-map, sum-ext, sum-cond}

-- what a cleared flag counts: nothing where the reset clears it, else what it did
gone : (z f : Bool) (n : ℕ) → cond (not z && f) n 0 ≡ cond z 0 (cond f n 0)
gone true f n = refl
gone false f n = refl

-- where an entry counts for a rule of a root, the entry's root is that root
gone-root : (zeroes : Level → Bool) (r root : ℕ) (c f : Bool) (n : ℕ) → (c ≡ true → r ≡ root)
    → cond (not (zeroes (Root root)) && f) (cond c n 0) 0 ≡ cond (zeroes (Root r)) 0 (cond f (cond c n 0) 0)
gone-root zeroes r root true f n e = rw (e refl) (gone (zeroes (Root root)) f n)
gone-root zeroes r root false f n e =
    rw (none-either (not (zeroes (Root root)) && f), none-either f, none-either (zeroes (Root r)))

-- an entry counts after the reset as before, or not at all
share-unflagged : (zeroes : Level → Bool) (rule : Rule) (t : ℕ) (e : Entry)
    → entry_share rule t (unflagged zeroes e) ≡ cond (zeroes (level_of rule.scope)) 0 (entry_share rule t e)
unfolding entry_share share unflagged flag_of level_of covers
share-unflagged zeroes rule t e = go rule.scope
  where
    on : Bool
    on = counts rule.kind e.time t

    n : ℕ
    n = added rule.limit e.premium.0 e.contracts.0

    go : (scope : Scope)
        → cond (flag_of (level_of scope) (unflagged zeroes e)) (cond (covers scope e.root e.unit && on) n 0) 0
        ≡ cond (zeroes (level_of scope)) 0 (cond (flag_of (level_of scope) e) (cond (covers scope e.root e.unit && on) n 0) 0)
    go EveryFill = gone (zeroes Firm) e.forfirm (cond on n 0)
    go (WholeRoot r) =
        gone-root zeroes r e.root (eqb r e.root && on) e.forroot n (λ c. eqb-true r e.root (and_l (eqb r e.root) on c))
    go (OneUnit r u) =
        gone-root zeroes r e.root (eqb r e.root && eqb u e.unit && on) e.forroot n
        (λ c. eqb-true r e.root (and_l (eqb r e.root) (eqb u e.unit) (and_l (eqb r e.root && eqb u e.unit) on c)))

-- the number of a total that a reset may zero
number-wiped : (b : Bool) (limit : Limit) (total : Amount) → number_of (cond b (amount_in limit 0) total) ≡ cond b 0 (number_of total)
number-wiped true limit total = number_in limit 0
number-wiped false limit total = refl

-- so a rule's counted amount stays, or is 0
pub counted-reset : (zeroes : Level → Bool) (log : List Entry) (t : ℕ) (a : Account)
    → counted (unflagged_log zeroes log) t (wiped zeroes a) ≡ cond (zeroes (level_of a.rule.scope)) 0 (counted log t a)
unfolding counted wiped counted_of unflagged_log
counted-reset zeroes log t a = go a.rule.kind
  where
    off : Bool
    off = zeroes (level_of a.rule.scope)

    logged : sum_of (entry_share a.rule t) (unflagged_log zeroes log) ≡ cond off 0 (sum_of (entry_share a.rule t) log)
    logged =
        sum-flagged a.rule t (map (unflagged zeroes) log)
        ∙ (sum-map (unflagged zeroes) (entry_share a.rule t) log
        ∙ (sum-ext (share-unflagged zeroes a.rule t) log ∙ sum-cond off (entry_share a.rule t) log))

    go : (kind : Kind)
        → counted_of kind (number_of (cond off (amount_in a.rule.limit 0) a.total)) (sum_of (entry_share a.rule t) (unflagged_log zeroes log))
        ≡ cond off 0 (counted_of kind (number_of a.total) (sum_of (entry_share a.rule t) log))
    go (Rate w) = logged
    go Absolute = number-wiped off a.rule.limit a.total

-- a rate rule's window is at most the longest, and there is a rate rule
unfoldable pub Fits : ℕ → Bool → Kind → Type 0
Fits top b (Rate w) = (w ≤ top) × (b ≡ true)
Fits top b Absolute = Unit {0}

fits-step : (kind : Kind) (top : ℕ) (b : Bool) → window_of kind ≤ top → (is_rate kind ≡ true → b ≡ true) → Fits top b kind
unfolding Fits window_of is_rate
fits-step (Rate w) top b le hb = (le, hb refl)
fits-step Absolute top b le hb = tt

pub all_fit : (rules : List Rule) (top : ℕ) (b : Bool) → longest rules ≤ top → (has_rate rules ≡ true → b ≡ true)
    → All (λ rule. Fits top b rule.kind) rules
unfolding longest has_rate
all_fit [] top b le hb = tt
all_fit (rule ∷ rules) top b le hb = (
  fits-step rule.kind top b (omega arith) (λ e. hb (rw e)),
  all_fit rules top b (omega arith) (λ e. hb (rw e (or-true (is_rate rule.kind)))),
)

-- what a grant adds for a rule
abbrev pub gain : Offer → ℕ → Rule → ℕ
gain o grant rule = cond (covers_offer o rule) (added rule.limit o.premium grant) 0

-- as long as it counts
abbrev pub live_gain : Offer → ℕ → Rule → ℕ → ℕ
live_gain o grant rule t = cond (counts rule.kind o.time t) (gain o grant rule) 0

-- one test after the other
if-both : (a b : Bool) (n : ℕ) → cond (a && b) n 0 ≡ cond b (cond a n 0) 0
if-both true true n = refl
if-both true false n = refl
if-both false true n = refl
if-both false false n = refl

-- a new entry counts for its root and for the firm
new-flag : (level : Level) (o : Offer) (grant : ℕ) → flag_of level (entry_of o grant) ≡ true
unfolding flag_of entry_of
new-flag Firm o grant = refl
new-flag (Root r) o grant = refl

share-new : (rule : Rule) (t : ℕ) (o : Offer) (grant : ℕ) → entry_share rule t (entry_of o grant) ≡ live_gain o grant rule t
unfolding entry_share share covers_offer entry_of
share-new rule t o grant =
    rw (new-flag (level_of rule.scope) o grant) (if-both (covers rule.scope o.root o.unit) (counts rule.kind o.time t) _)

-- an entry that leaves counts no more, then and later
share-old : (rule : Rule) (w top t t' : ℕ) → rule.kind ≡ Rate w → w ≤ top → t ≤ t' → (e : Entry) → ltb t (e.time + top) ≡ false
    → entry_share rule t' e ≡ 0
unfolding entry_share share counts
share-old rule w top t t' k le p e old =
    let out : ltb t' (e.time + w) ≡ false = le-ltb t' (e.time + w) (omega (arith, ltb-false t (e.time + top) old)) in
    let covered = covers rule.scope e.root e.unit in
    let n = added rule.limit e.premium.0 e.contracts.0 in
    rw (k, counts, out, if-both covered false n) (none-either (flag_of (level_of rule.scope) e))

pub recent-sum : (rule : Rule) (w top t t' : ℕ) (log : List Entry) → rule.kind ≡ Rate w → w ≤ top → t ≤ t'
    → sum_of (entry_share rule t') (recent top t log) ≡ sum_of (entry_share rule t') log
unfolding recent
recent-sum rule w top t t' log k le p = sum-keep (λ e. ltb t (e.time + top)) (entry_share rule t') (share-old rule w top t t' k le p) log

gain-none : (o : Offer) (rule : Rule) (t : ℕ) → live_gain o 0 rule t ≡ 0
gain-none o rule t = rw (added-zero, none-either (covers_offer o rule), none-either (counts rule.kind o.time t))

joined-sum : (rules : List Rule) (log : List Entry) (o : Offer) (grant : ℕ) (rule : Rule) (w t : ℕ)
    → rule.kind ≡ Rate w → w ≤ longest rules → has_rate rules ≡ true → o.time ≤ t
    → sum_of (entry_share rule t) (joined_log rules log o grant) ≡ live_gain o grant rule t + sum_of (entry_share rule t) log
unfolding joined_log
joined-sum rules log o grant rule w t k le has p = rw has (go (ltb 0 grant) refl)
  where
    old : List Entry
    old = recent (longest rules) o.time log

    new : sum_of (entry_share rule t) (entry_of o grant ∷ []) ≡ live_gain o grant rule t
    new = sum_one (entry_share rule t) (entry_of o grant) ∙ share-new rule t o grant

    go : (b : Bool) → ltb 0 grant ≡ b
        → sum_of (entry_share rule t) (cond b (old ++ (entry_of o grant ∷ [])) log) ≡ live_gain o grant rule t + sum_of (entry_share rule t) log
    go true e =
        rw (sum-append (entry_share rule t) old (entry_of o grant ∷ []), recent-sum rule w (longest rules) o.time t log k le p, new) (omega arith)
    go false e = let none : grant ≡ 0 = omega (arith, ltb-false 0 grant e) in rw (none, gain-none) (omega arith)

held-rate : (kind : Kind) (w n : ℕ) → kind ≡ Rate w → held kind n ≡ n
unfolding held
held-rate kind w n e = rw e

-- from a fill on, a rule counts what it counted before and the fill's own amount, held
pub fill-counted : (rules : List Rule) (log : List Entry) (o : Offer) (grant : ℕ) (a : Account) (t c : ℕ)
    → Fits (longest rules) (has_rate rules) a.rule.kind → o.time ≤ t → counted log t a ≡ held a.rule.kind c
    → counted (joined_log rules log o grant) t (credited o grant a) ≡ held a.rule.kind (live_gain o grant a.rule t + c)
unfolding counted credited counted_of is_rate counts held Fits covers_offer
fill-counted rules log o grant a t c fits p before = go a.rule.kind refl fits
  where
    n : ℕ
    n = added a.rule.limit o.premium grant

    raised : (b : Bool) → number_of a.total ≡ min c totals.most
        → number_of (cond b (amount_in a.rule.limit (min (number_of a.total + n) totals.most)) a.total) ≡ min (cond b n 0 + c) totals.most
    raised true h = rw (number_in a.rule.limit (min (number_of a.total + n) totals.most)) (omega (arith, h))
    raised false h = rw h (omega arith)

    by-log : (kind : Kind) (w total logged : ℕ) → kind ≡ Rate w → counted_of kind total logged ≡ logged
    by-log kind w total logged e = rw e

    go : (kind : Kind) → a.rule.kind ≡ kind → Fits (longest rules) (has_rate rules) kind
        → counted_of a.rule.kind (number_of (credited o grant a).total) (sum_of (entry_share a.rule t) (joined_log rules log o grant))
        ≡ held a.rule.kind (live_gain o grant a.rule t + c)
    go (Rate w) e f =
        by-log a.rule.kind w _ _ e
        ∙ (joined-sum rules log o grant a.rule w t e f.0 f.1 p
        ∙ (ap (λ m. live_gain o grant a.rule t + m) (sym (by-log a.rule.kind w _ _ e) ∙ (before ∙ held-rate a.rule.kind w c e))
        ∙ sym (held-rate a.rule.kind w _ e)))
    go Absolute e f = rw e (raised (covers_offer o a.rule) (rw e at before))
