-- Memos: none, one of a sieve, and one that serves a rule. Assumes nothing.
use Prim.Native.Nat.{ℕ}
use mathlib.Core.Path.{◌≡◌, refl, sym, ap, ◌∙◌, subst}
use mathlib.Core.Bool.{Bool, true, false, cond, ◌&&◌, and-false}
use mathlib.Core.List.{List, [], ◌∷◌, reverse}
use native.Mathlib.Omega.{arith}
use lib.Bits.{bit_and, and_le_r}
use lib.Dec.{eqb}
use lib.ListN.{length}
use borrow.Author.Tests.{eqb-true, ne_eqb, eq-eqb}
use Rattle.laws.proofs.Tests.{and_l, and_r}
use Rattle.rules.specs.Rules.{added}
use Rattle.rules.specs.declared.Limit.{Limit}
use Rattle.rules.specs.declared.Limit.TheVariants.{Notional, Volume, Count}
use Rattle.rules.specs.declared.Rule.{Rule}
use Rattle.rules.specs.Valid.{is_rule}
use Rattle.machine.specs.declared.Entry.{Entry}
use Rattle.machine.specs.Entries.{are_ordered, entry_share}
use Rattle.laws.specs.Folds.{sum_of}
use Rattle.daylog.specs.declared.sieves.Sieve.{Sieve}
use Rattle.daylog.specs.declared.Memo.{Memo}
use Rattle.daylog.specs.Inner.Log.{HeldLog, entries_of}
use Rattle.daylog.specs.Newest.{passed, is_since, newest}
use Rattle.daylog.specs.Inner.Sieve.{sieve_of, is_wanted, passes, fill_number, sifted}
use Rattle.daylog.specs.Inner.Memo.{memo_sum, sieve_for, is_memo_of, reading_since, memo_for, no_memo, Right, Passed}
use Rattle.daylog.proofs.Newest.{newest-sum}
use Rattle.daylog.proofs.Sifting.{sieve-counts}

abbrev pub in_dollars : Limit
in_dollars = Notional (record { 0 = 0 })

abbrev pub in_contracts : Limit
in_contracts = Volume (record { 0 = 0 })

abbrev pub in_executions : Limit
in_executions = Count (record { 0 = 0 })

none_pass : (e : Entry) → passes (sieve_for no_memo) e ≡ false
unfolding passes no_memo
none_pass e = let fill = fill_number e in rw (ne_eqb (bit_and fill 0) 1 (λ h. absurd (omega (arith, and_le_r fill 0))))

none-sum : (limit : Limit) (es : List Entry) → 0 ≡ sum_of (sifted limit (sieve_for no_memo)) es
unfolding sum_of sifted no_memo
none-sum limit [] = refl
none-sum limit (e ∷ es) = rw (none_pass e) (omega (arith, none-sum limit es))

pub none_passed : (es : List Entry) → Passed es no_memo
unfolding no_memo
none_passed es some = absurd (omega arith)

pub none_right : (es : List Entry) → Right es no_memo
unfolding Right no_memo
none_right es (Notional l) = none-sum (Notional l) es
none_right es (Volume l) = none-sum (Volume l) es
none_right es (Count l) = none-sum (Count l) es

-- an entry before a sieve's time counts nothing
sifted-none : (limit : Limit) (s : Sieve) (e : Entry) → is_since s.from e ≡ false → sifted limit s e ≡ 0
unfolding sifted passes
sifted-none limit s e before = rw (before, and-false (is_wanted s (fill_number e)))

-- the memo of a sieve says what all entries count, and is that of the sieve
memo-right : (s : Sieve) (es : List Entry) → Right es (memo_for s es)
unfolding Right memo_for sifted added
memo-right s es (Notional l) = refl
memo-right s es (Volume l) = refl
memo-right s es (Count l) = refl

memo-for : (s : Sieve) (es : List Entry) → is_memo_of s (memo_for s es) ≡ true
unfolding memo_for
memo-for s es = rw (eq-eqb s.mask s.mask refl, eq-eqb s.want s.want refl, eq-eqb s.from s.from refl)

-- all that a reading passes are not before its time
since-all : (first : ℕ) (es : List Entry) → reading_since first (passed (is_since first) es) ≡ length (passed (is_since first) es)
unfolding reading_since sum_of passed
since-all first [] = refl
since-all first (e ∷ es) = go (is_since first e) refl (since-all first es)
  where
    go : (b : Bool) → is_since first e ≡ b → reading_since first (passed (is_since first) es) ≡ length (passed (is_since first) es)
        → reading_since first (cond b (e ∷ passed (is_since first) es) []) ≡ length (cond b (e ∷ passed (is_since first) es) [])
    go true t h = rw t (omega (arith, h))
    go false t h = refl

pub since-passed : (first : ℕ) (es : List Entry) → reading_since first (newest first es) ≡ length (newest first es)
unfolding newest
since-passed first es = since-all first (reverse es)

-- and in order of time those of all entries
since-read : (first clock : ℕ) (es : List Entry) → are_ordered 0 clock es ≡ true → reading_since first (newest first es) ≡ reading_since first es
unfolding reading_since
since-read first clock es ordered = newest-sum first 0 clock es ordered (λ e. cond (is_since first e) 1 0) (λ e t. rw t)

-- so many a reading passes
pub passed-many : (first clock : ℕ) (es : List Entry) → are_ordered 0 clock es ≡ true → reading_since first es ≡ length (newest first es)
passed-many first clock es ordered = sym (since-read first clock es ordered) ∙ since-passed first es

-- in order of time the memo of those that a reading passes is that of all entries
memo-read : (s : Sieve) (clock : ℕ) (es : List Entry) → are_ordered 0 clock es ≡ true → memo_for s (newest s.from es) ≡ memo_for s es
unfolding memo_for
memo-read s clock es ordered =
    let all : (limit : Limit) → sum_of (sifted limit s) (newest s.from es) ≡ sum_of (sifted limit s) es =
    λ limit. newest-sum s.from 0 clock es ordered (sifted limit s) (sifted-none limit s) in
    rw (all in_dollars, all in_contracts, all in_executions, since-read s.from clock es ordered)

-- a memo of a sieve is right of all entries, and is the one that all of them give
pub record Memoed (s : Sieve) (es : List Entry) (m : Memo) : Type 0 where
  pub right : Right es m
  pub is-for : is_memo_of s m ≡ true
  pub all : m ≡ memo_for s es
  pub many : Passed es m

memo-many : (s : Sieve) (es : List Entry) → (memo_for s es).passed ≡ reading_since (memo_for s es).sieve.from es
unfolding memo_for
memo-many s es = refl

-- in order of time a reading gives that
pub memoed : {s : Sieve} (clock : ℕ) {es : List Entry} {m : Memo} → are_ordered 0 clock es ≡ true → m ≡ memo_for s (newest s.from es) → Memoed s es m
memoed {s} clock {es} {m} ordered is =
    let whole = is ∙ memo-read s clock es ordered in
    record {
      right = subst (Right es) (sym whole) (memo-right s es);
      is-for = ap (is_memo_of s) whole ∙ memo-for s es;
      all = whole;
      many = λ some. subst (λ (m : Memo). m.passed ≡ reading_since m.sieve.from es) (sym whole) (memo-many s es);
    }

-- a memo of a rule's sieve says what the rule counts
pub for-rule : {k : ℕ} {xs : List ℕ} → HeldLog k xs → (rule : Rule) (time : ℕ) → is_rule 64 rule ≡ true → (m : Memo) → Right (entries_of k xs) m
    → {s : Sieve} → s ≡ sieve_of rule time → is_memo_of s m ≡ true
    → memo_sum rule.limit m ≡ sum_of (entry_share rule time) (entries_of k xs)
unfolding Right
for-rule {k} {xs} held rule time ok m right {s} is e =
    right rule.limit
    ∙ ap (λ (t : Sieve). sum_of (sifted rule.limit t) (entries_of k xs)) (same ∙ is)
    ∙ sieve-counts rule time ok held
  where
    rest : (eqb m.sieve.want s.want && eqb m.sieve.from s.from) ≡ true
    rest = and_r (eqb m.sieve.mask s.mask) (eqb m.sieve.want s.want && eqb m.sieve.from s.from) e

    same : sieve_for m ≡ s
    same =
        let p = eqb-true m.sieve.mask s.mask (and_l (eqb m.sieve.mask s.mask) (eqb m.sieve.want s.want && eqb m.sieve.from s.from) e) in
        let q = eqb-true m.sieve.want s.want (and_l (eqb m.sieve.want s.want) (eqb m.sieve.from s.from) rest) in
        let r = eqb-true m.sieve.from s.from (and_r (eqb m.sieve.want s.want) (eqb m.sieve.from s.from) rest) in
        λ i. record { mask = p i; want = q i; from = r i }
