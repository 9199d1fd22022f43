-- What passes a rule's sieve is what counts for the rule. Assumes nothing.
use Prim.Native.Nat.{ℕ, ◌+◌, ◌*◌, ◌-◌, ◌%◌, ◌^◌, ◌≤◌, ◌<◌, min, zero-le}
use mathlib.Core.Path.{◌≡◌, refl, sym, ap, ◌∙◌}
use mathlib.Core.Bool.{Bool, true, false, cond, ◌&&◌, and-false}
use mathlib.Core.List.{List, [], ◌∷◌}
use native.Mathlib.Omega.{arith}
use lib.Bits.{bit_and, and_mask, and_zero_r, and_block}
use lib.Dec.{eqb, leb, ltb}
use borrow.Author.Tests.{leb-true, le-leb, lt-leb, ltb-true, lt-ltb, eqb-true, eq-eqb, ne_eqb}
use lib.ListN.{get_or, drop}
use Rattle.laws.proofs.Tests.{and_l, and_r, and_i, same_test}
use Rattle.measures.specs.Ranges.{is_in, units}
use Rattle.rules.specs.Rules.{level_of, covers, counts, added, share}
use Rattle.rules.specs.declared.Scope.{Scope}
use Rattle.rules.specs.declared.Scope.TheVariants.{EveryFill, WholeRoot, OneUnit}
use Rattle.rules.specs.declared.Kind.{Kind}
use Rattle.rules.specs.declared.Kind.TheVariants.{Rate, Absolute}
use Rattle.rules.specs.declared.Limit.{Limit}
use Rattle.rules.specs.declared.Rule.{Rule}
use Rattle.rules.proofs.Laws.{added-most}
use Rattle.laws.specs.Folds.{every, sum_of}
use Rattle.rules.specs.Valid.{is_limit, is_kind, is_scope, is_rule}
use Rattle.machine.specs.Entries.{is_entry, flag_of, entry_share}
use Rattle.machine.specs.declared.Entry.{Entry}
use Rattle.bits.specs.Fields.{total, packed}
use Rattle.packing.specs.EntryPlace.{flag_number, fill_values, entry_at, entry_numbers, is_entry_place}
use Rattle.tables.proofs.Passing.{pass-each}
use Rattle.packing.proofs.EntryPlace.{Ranged, entry-ranged}
use Rattle.daylog.specs.Inner.Log.{HeldLog, entries_of}
use Rattle.daylog.specs.Inner.Sieve.{first_time, sieve_in, sieve_of, passes, fill_number, sifted}
use Rattle.daylog.specs.Newest.{is_since}
use Rattle.daylog.specs.declared.sieves.Sieve.{Sieve}
use Rattle.daylog.proofs.Logs.{place-numbers, held-valid, held-entry}
use Rattle.daylog.proofs.Sums.{picked-most}

-- a time of the day counts exactly if it is not before the first that does
pub still-counts : (kind : Kind) (u time : ℕ) → u ≤ 86_399_999 → leb (first_time kind time) u ≡ counts kind u time
unfolding first_time counts
still-counts (Rate w) u time h =
    let from = min 86_400_000 (time + 1 - w) in
    same_test (leb from u) (ltb time (u + w)) (λ e. lt-ltb time (u + w) (omega (arith, leb-true from u e))) (λ e. le-leb from u (omega (arith, ltb-true time (u + w) e)))
still-counts Absolute u time h = le-leb 0 u zero-le

shuffle : (c f t : Bool) → (c && f && t) ≡ (f && (c && t))
shuffle true f t = refl
shuffle false f t = sym (and-false f)

-- the digits of the two flags under a mask
root-flag : (a b : Bool) → bit_and (flag_number a * 2 + flag_number b) 2 ≡ flag_number a * 2
root-flag true true = refl
root-flag true false = refl
root-flag false true = refl
root-flag false false = refl

pub flags-most : (a b : Bool) → flag_number a * 2 + flag_number b < 4
flags-most true true = omega arith
flags-most true false = omega arith
flags-most false true = omega arith
flags-most false false = omega arith

-- a number with a flag below it is the one that is wanted, flag set
wanted : (n w : ℕ) (flag : Bool) → eqb (n * 4 + flag_number flag * 2) (w * 4 + 2) ≡ (eqb w n && flag)
wanted n w true = same_test (eqb (n * 4 + 2) (w * 4 + 2)) (eqb w n && true) (λ e. rw (eq-eqb w n (omega (arith, eqb-true (n * 4 + 2) (w * 4 + 2) e))))
    (λ e. eq-eqb (n * 4 + 2) (w * 4 + 2) (omega (arith, eqb-true w n (and_l (eqb w n) true e))))
wanted n w false = ne_eqb (n * 4 + 0) (w * 4 + 2) (λ e. omega arith) ∙ sym (and-false (eqb w n))

-- a root and a unit are those of one number
of-unit : (root unit : ℕ) → unit ≤ 3 → (w u : ℕ) → u ≤ 3 → eqb (w * 4 + u) (root * 4 + unit) ≡ (eqb w root && eqb u unit)
of-unit root unit h w u k =
    let both : (eqb w root && eqb u unit) ≡ true → w * 4 + u ≡ root * 4 + unit =
    λ e. omega (arith, eqb-true w root (and_l (eqb w root) (eqb u unit) e), eqb-true u unit (and_r (eqb w root) (eqb u unit) e)) in
    same_test (eqb (w * 4 + u) (root * 4 + unit)) (eqb w root && eqb u unit)
    (λ e. and_i (eq-eqb w root (omega (arith, eqb-true (w * 4 + u) (root * 4 + unit) e))) (eq-eqb u unit (omega (arith, eqb-true (w * 4 + u) (root * 4 + unit) e))))
    (λ e. eq-eqb (w * 4 + u) (root * 4 + unit) (both e))

whole-wanted : (n w : ℕ) (flag : Bool) → eqb (n * 16 + flag_number flag * 2) (w * 16 + 2) ≡ (eqb w n && flag)
whole-wanted n w flag =
    let one : n * 16 + flag_number flag * 2 ≡ (n * 4) * 4 + flag_number flag * 2 = omega arith in
    let two : w * 16 + 2 ≡ (w * 4) * 4 + 2 = omega arith in
    let same : eqb (w * 4) (n * 4) ≡ eqb w n = same_test (eqb (w * 4) (n * 4)) (eqb w n) (λ e. eq-eqb w n (omega (arith, eqb-true (w * 4) (n * 4) e)))
    (λ e. eq-eqb (w * 4) (n * 4) (omega (arith, eqb-true w n e))) in
    (λ i. eqb (one i) (two i)) ∙ (wanted (n * 4) (w * 4) flag ∙ ap (λ (b : Bool). b && flag) same)

unit-wanted : (root unit w u : ℕ) (flag : Bool) → unit ≤ 3 → u ≤ 3
    → eqb ((root * 4 + unit) * 4 + flag_number flag * 2) (w * 16 + u * 4 + 2) ≡ (eqb w root && eqb u unit && flag)
unit-wanted root unit w u flag h k =
    let two : w * 16 + u * 4 + 2 ≡ (w * 4 + u) * 4 + 2 = omega arith in
    let same : eqb (w * 4 + u) (root * 4 + unit) ≡ (eqb w root && eqb u unit) = of-unit root unit h w u k in
    ap (eqb ((root * 4 + unit) * 4 + flag_number flag * 2)) two ∙ (wanted (root * 4 + unit) (w * 4 + u) flag ∙ ap (λ (b : Bool). b && flag) same)

module _ (e : Entry) (v : is_entry 64 e ≡ true) where
  r : Ranged 64 e
  r = entry-ranged 64 e v

  abbrev p : ℕ
  p = flag_number e.forroot * 2 + flag_number e.forfirm

  few : p < 4
  few = flags-most e.forroot e.forfirm

  pub fill_is : fill_number e ≡ e.time * 1024 + e.root * 16 + e.unit * 4 + p
  unfolding fill_number fill_values packed total
  fill_is = omega arith

  -- what stands under each mask
  firm-digits : bit_and (fill_number e) 1 ≡ flag_number e.forfirm
  firm-digits = and_mask (fill_number e) 1 ∙ go e.forfirm refl
    where
      go : (b : Bool) → e.forfirm ≡ b → fill_number e % 2 ^ 1 ≡ flag_number b
      go true q = rw (fill_is, q) (omega arith)
      go false q = rw (fill_is, q) (omega arith)

  low-flag : (n : ℕ) → bit_and (n * 4 + p) 2 ≡ flag_number e.forroot * 2
  low-flag n = and_block 2 n 0 p 2 few (omega arith) ∙ rw (and_zero_r n, root-flag e.forroot e.forfirm) (omega arith)

  root-digits : bit_and (fill_number e) (63 * 16 + 2) ≡ e.root * 16 + flag_number e.forroot * 2
  root-digits =
      let high = e.time * 64 + e.root in
      let low = e.unit * 4 + p in
      let split : fill_number e ≡ high * 2 ^ 4 + low = fill_is ∙ omega arith in
      let top : bit_and high (2 ^ 6 - 1) ≡ e.root = and_mask high 6 ∙ omega (arith, r.root) in
      ap (λ (n : ℕ). bit_and n (63 * 16 + 2)) split
      ∙ (and_block 4 high 63 low 2 (omega (arith, r.unit, few)) (omega arith) ∙ rw (top, low-flag e.unit))

  unit-digits : bit_and (fill_number e) (63 * 16 + 3 * 4 + 2) ≡ (e.root * 4 + e.unit) * 4 + flag_number e.forroot * 2
  unit-digits =
      let high = e.time * 256 + e.root * 4 + e.unit in
      let split : fill_number e ≡ high * 2 ^ 2 + p = fill_is ∙ omega arith in
      let top : bit_and high (2 ^ 8 - 1) ≡ e.root * 4 + e.unit = and_mask high 8 ∙ omega (arith, r.root, r.unit) in
      ap (λ (n : ℕ). bit_and n (63 * 16 + 3 * 4 + 2)) split
      ∙ (and_block 2 high 255 p 2 few (omega arith) ∙ rw (top, root-flag e.forroot e.forfirm))

  -- its first number tells whether it is before a time
  pub fill-since : (first : ℕ) → first * 1024 ≤ fill_number e → is_since first e ≡ true
  fill-since first h = le-leb first e.time (omega (arith, fill_is, few, r.root, r.unit))

  pub fill-before : (first : ℕ) → fill_number e < first * 1024 → is_since first e ≡ false
  fill-before first h = lt-leb first e.time (omega (arith, fill_is))

  -- it passes if the flag is set, the rule covers it and it still counts
  sifts : (n from : ℕ) (scope : Scope) → is_scope n scope ≡ true
      → passes (sieve_in scope from) e ≡ (flag_of (level_of scope) e && (covers scope e.root e.unit && leb from e.time))
  unfolding passes sieve_in is_scope flag_of level_of covers
  sifts n from EveryFill h = rw (firm-digits) (go e.forfirm)
    where
      go : (b : Bool) → (eqb (flag_number b) 1 && leb from e.time) ≡ (b && leb from e.time)
      go true = refl
      go false = refl
  sifts n from (WholeRoot root) h =
      let same : eqb (e.root * 16 + flag_number e.forroot * 2) (root * 16 + 2) ≡ (eqb root e.root && e.forroot) = whole-wanted e.root root e.forroot in
      rw (root-digits, same) (shuffle (eqb root e.root) e.forroot (leb from e.time))
  sifts n from (OneUnit root unit) h =
      let least = leb-true unit 3 (and_r (leb 0 unit) (leb unit 3) (and_r (ltb root n) (is_in units unit) h)) in
      let same : eqb ((e.root * 4 + e.unit) * 4 + flag_number e.forroot * 2) (root * 16 + unit * 4 + 2) ≡ (eqb root e.root && eqb unit e.unit && e.forroot) =
      unit-wanted e.root e.unit root unit e.forroot r.unit least in
      rw (unit-digits, same) (shuffle (eqb root e.root && eqb unit e.unit) e.forroot (leb from e.time))

both-picked : (a b : Bool) (n : ℕ) → cond (a && b) n 0 ≡ cond a (cond b n 0) 0
both-picked true b n = refl
both-picked false b n = refl

module _ (rule : Rule) (time : ℕ) (ok : is_rule 64 rule ≡ true) where
  pub scope-ok : is_scope 64 rule.scope ≡ true
  unfolding is_rule
  scope-ok = and_r (is_limit rule.limit && is_kind rule.kind) (is_scope 64 rule.scope) ok

  sifted-share : (e : Entry) → is_entry 64 e ≡ true → sifted rule.limit (sieve_of rule time) e ≡ entry_share rule time e
  unfolding sifted sieve_of entry_share share
  sifted-share e v =
      rw (sifts e v 64 (first_time rule.kind time) rule.scope scope-ok, still-counts rule.kind e.time time (entry-ranged 64 e v).time)
      (both-picked (flag_of (level_of rule.scope) e) (covers rule.scope e.root e.unit && counts rule.kind e.time time) (added rule.limit e.premium.0 e.contracts.0))

  all-shares : (es : List Entry) → every (is_entry 64) es ≡ true → sum_of (sifted rule.limit (sieve_of rule time)) es ≡ sum_of (entry_share rule time) es
  unfolding sum_of every
  all-shares [] v = refl
  all-shares (e ∷ es) v =
      rw (sifted-share e (and_l (is_entry 64 e) (every (is_entry 64) es) v), all-shares es (and_r (is_entry 64 e) (every (is_entry 64) es) v))

  -- the entries that pass the rule's sieve count what all count for the rule
  pub sieve-counts : {k : ℕ} {xs : List ℕ} → HeldLog k xs → sum_of (sifted rule.limit (sieve_of rule time)) (entries_of k xs) ≡ sum_of (entry_share rule time) (entries_of k xs)
  sieve-counts {k = k} {xs = xs} h = all-shares (entries_of k xs) (held-valid h)

pub sifted-most : (limit : Limit) (s : Sieve) (e : Entry) → is_entry 64 e ≡ true → sifted limit s e ≤ 100_000_000_000_000
unfolding sifted
sifted-most limit s e h =
    let r = entry-ranged 64 e h in
    picked-most (passes s e) _ _ (added-most limit e.premium.0 e.contracts.0 r.premium.1 r.contracts.1)

-- the first time is at most a day's end
pub first-most : (kind : Kind) (time : ℕ) → first_time kind time ≤ 86_400_000
unfolding first_time
first-most (Rate w) time = omega arith
first-most Absolute time = zero-le

from_is : (scope : Scope) (from : ℕ) → (sieve_in scope from).from ≡ from
unfolding sieve_in
from_is EveryFill from = refl
from_is (WholeRoot root) from = refl
from_is (OneUnit root unit) from = refl

-- and so is that of a rule's sieve
pub from-most : {s : Sieve} (rule : Rule) (time : ℕ) → s ≡ sieve_of rule time → s.from ≤ 86_400_000
unfolding sieve_of
from-most rule time is =
    omega (arith, ap (λ (t : Sieve). t.from) is, from_is rule.scope (first_time rule.kind time), first-most rule.kind time)

-- the first number of a place that is used is its entry's
pub held-fill : {k i : ℕ} {xs : List ℕ} → HeldLog k xs → i < k → get_or xs (i * 2) 0 ≡ fill_number (entry_at (drop (i * 2) xs))
unfolding fill_number entry_numbers
held-fill {k = k} {i = i} {xs = xs} h l =
    ap (λ (ns : List ℕ). get_or ns 0 0) (place-numbers xs (i * 2) (omega (arith, h.size, h.fits)) (pass-each 2 (is_entry_place 64) k xs h.entries i l))

-- and tells whether its entry is before a time
pub place-since : {k : ℕ} {xs : List ℕ} (first i : ℕ) → HeldLog k xs → i < k → first * 1024 ≤ get_or xs (i * 2) 0 → is_since first (entry_at (drop (i * 2) xs)) ≡ true
place-since first i h l t = fill-since _ (held-entry h l refl) first (omega (arith, held-fill h l))

pub place-before : {k : ℕ} {xs : List ℕ} (first i : ℕ) → HeldLog k xs → i < k → get_or xs (i * 2) 0 < first * 1024 → is_since first (entry_at (drop (i * 2) xs)) ≡ false
place-before first i h l t = fill-before _ (held-entry h l refl) first (omega (arith, held-fill h l))

-- what a rule in range says of its root and its unit
pub whole_below : {scope : Scope} {r : ℕ} → is_scope 64 scope ≡ true → scope ≡ WholeRoot r → r < 64
unfolding is_scope
whole_below {r = r} h e = ltb-true r 64 (rw e at h)

pub unit-below : {scope : Scope} {r u : ℕ} → is_scope 64 scope ≡ true → scope ≡ OneUnit r u → (r < 64) × (u ≤ 3)
unfolding is_scope
unit-below {r = r} {u = u} h e =
    let inside : (ltb r 64 && is_in units u) ≡ true = rw e at h in
    (ltb-true r 64 (and_l (ltb r 64) (is_in units u) inside), leb-true u 3 (and_r (leb 0 u) (leb u 3) (and_r (ltb r 64) (is_in units u) inside)))
