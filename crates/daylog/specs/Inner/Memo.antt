-- What the entries that pass a sieve count in each measure, kept for the next rule with that sieve. Assumes nothing.
use Rattle.std.specs.Prelude.{ℕ, ◌<◌, ◌≡◌, Bool, cond, ◌&&◌, List, eqb}
use Rattle.rules.specs.declared.Limit.{Limit}
use Rattle.rules.specs.declared.Limit.TheVariants.{Notional, Volume, Count}
use Rattle.machine.specs.declared.Entry.{Entry}
use Rattle.laws.specs.Folds.{sum_of}
use Rattle.daylog.specs.declared.sieves.Sieve.{Sieve}
use Rattle.daylog.specs.declared.Memo.{Memo}
use Rattle.daylog.specs.declared.Reading.{Reading}
use Rattle.daylog.specs.declared.Two.{Two}
use Rattle.daylog.specs.Newest.{is_since}
use Rattle.daylog.specs.Inner.Sieve.{sifted}

-- what a memo says in a limit's measure
abbrev pub memo_sum : Limit → Memo → ℕ
memo_sum (Notional l) m = m.notional.0
memo_sum (Volume l) m = m.volume.0
memo_sum (Count l) m = m.count.0

-- the sieve of a memo
abbrev pub sieve_for : Memo → Sieve
sieve_for m = m.sieve

-- a memo is that of a sieve
abbrev pub is_memo_of : Sieve → Memo → Bool
is_memo_of s m = eqb m.sieve.mask s.mask && (eqb m.sieve.want s.want && eqb m.sieve.from s.from)

-- how many of these entries are not before a time
unfoldable pub reading_since : ℕ → List Entry → ℕ
reading_since first es = sum_of (λ e. cond (is_since first e) 1 0) es

-- the memo of a sieve over these entries
unfoldable pub memo_for : Sieve → List Entry → Memo
memo_for s es = record {
  sieve = s;
  passed = reading_since s.from es;
  notional = record { 0 = sum_of (sifted (Notional (record { 0 = 0 })) s) es };
  volume = record { 0 = sum_of (sifted (Volume (record { 0 = 0 })) s) es };
  count = record { 0 = sum_of (sifted (Count (record { 0 = 0 })) s) es };
}

-- a memo of a sieve that no entry passes
unfoldable pub no_memo : Memo
no_memo = record { sieve = record { mask = 0; want = 1; from = 0 }; passed = 0; notional = record { 0 = 0 }; volume = record { 0 = 0 }; count = record { 0 = 0 } }

-- memos of which the last is that of a sieve: one of those before, or a new one
unfoldable pub recalled_of : Sieve → List Entry → Two → Two
recalled_of s es before =
    cond (is_memo_of s before.last) before
    (cond (is_memo_of s before.other) (record { last = before.other; other = before.last; read = before.read })
    (record { last = memo_for s es; other = before.last; read = before.read }))

-- a memo says what these entries count
unfoldable pub Right : List Entry → Memo → Type 0
Right es m = (limit : Limit) → memo_sum limit m ≡ sum_of (sifted limit (sieve_for m)) es

-- a reading says how many of these entries are not before its time
abbrev pub IsRead : List Entry → Reading → Type 0
IsRead es read = read.passed ≡ reading_since read.from es

-- a memo of a sieve with a mask says how many of these entries are not before its time
abbrev pub Passed : List Entry → Memo → Type 0
Passed es m = 0 < m.sieve.mask → m.passed ≡ reading_since m.sieve.from es

pub record RightTwo (es : List Entry) (t : Two) : Type 0 where
  pub last : Right es t.last
  pub other : Right es t.other
  pub last-passed : Passed es t.last
  pub other-passed : Passed es t.other
  pub read : IsRead es t.read
